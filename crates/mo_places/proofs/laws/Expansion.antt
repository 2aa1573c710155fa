-- What the instances of a class give stands where the class table and the instances stand, and a rule that is broken on the way is broken at
-- such a place.
use Rattle.std.proofs.Common.{◌≡◌, ℕ, ◌+◌, List, [], ◌∷◌, ◌++◌, map, flat_map, Option, Some, None, Ok, refl, subst}
use Rattle.mo_syntax.specs.declared.class.Body.{Body, Body-F, out-Body}
use Rattle.mo_syntax.specs.declared.class.Element.{Element}
use Rattle.mo_syntax.specs.declared.class.Give.{Give}
use Rattle.mo_syntax.specs.declared.class.Item.{Item, Item-F, out-Item}
use Rattle.mo_syntax.specs.declared.class.What.{What}
use Rattle.mo_syntax.specs.declared.place.Place.{Place}
use Rattle.mo_scope.specs.Rows.{Row, items_in, row_at}
use Rattle.mo_scope.specs.Frames.{Frame, class_of}
use Rattle.mo_scope.specs.Instances.{Instance, Leaf}
use Rattle.mo_scope.specs.Lookup.{final_frame}
use Rattle.mo_scope.specs.Names.{walk_of}
use Rattle.mo_typing.specs.Outcome.{each}
use Rattle.mo_equations.specs.Leaves.{Tree, Variable, place_of_root, variables_from, variables_of, with_leaf}
use Rattle.mo_equations.specs.Connectors.{all_flows, is_flow}
use Rattle.mo_equations.specs.Gathering.{Made, all_beside, turn_each}
use Rattle.mo_equations.specs.Sections.{Left_out, external_in, frames_of, section_in, sections_of}
use Rattle.mo_equations.specs.Variables.{Declared, all_declared}
use Rattle.mo_equations.specs.Expansion.{Parts, all_sections, expanded_with, expansion_of, made_placed, sections_at, sections_of_instance}
use Rattle.mo_places.specs.Written.{Written, At}
use Rattle.mo_places.specs.Stands.{Every, IfAny, Answers, FrameStands, RowStands, TableStands, WalkedStands}
use Rattle.mo_places.specs.InFiles.{Descends}
use Rattle.mo_places.specs.MadeStands.{DeclaredStands, EquationStands, ExpandedStands, InstanceStands, LeafStands, MadeStands, PlacedStands, SectionStands}
use Rattle.mo_places.proofs.laws.Standing.{every_append, every_flat_map, every_map, every_weaker, if_list, then_answers}
use Rattle.mo_places.proofs.laws.Making.{each_answers}
use Rattle.mo_places.proofs.laws.TreeParts.{at_item}
use Rattle.mo_places.proofs.laws.Sources.{row_stands}
use Rattle.mo_places.proofs.laws.Tables.{ItemStands, items_stand}
use Rattle.mo_places.proofs.laws.Naming.{final_stands, walk_of_stands}
use Rattle.mo_places.proofs.laws.Equations.{CallsStand, PartsStand, all_stand, each_stands, placed_stands}

module _ (P : Written → Type 0) where
  -- ---- lists of lists

  every_joined : {A : Type 0} (Q : A → Type 0) (xs : List (List A)) → Every (Every Q) xs → Every Q (flat_map (λ x. x) xs)
  every_joined Q [] h = tt
  every_joined Q (x ∷ xs) h = every_append Q x (flat_map (λ x. x) xs) h.0 (every_joined Q xs h.1)

  -- ---- the sections of a class

  section_in_stands : (item : Item) → ItemStands P item → Every (SectionStands P) (section_in item)
  section_in_stands item h = by (out-Item item) refl
    where
      by : (i : Item-F Body Give Item What Element) → out-Item item ≡ i → Every (SectionStands P) (section_in item)
      by (Item-F.Import clause) is = rw is tt
      by (Item-F.Extends clause) is = rw is tt
      by (Item-F.Member element) is = rw is tt
      by (Item-F.Equations initial equations) is = rw is (subst (Every P) (at_item item (Item-F.Equations initial equations) is) h, tt)
      by (Item-F.Algorithm initial statements) is = rw is (tt, tt)

  external_stands : (b : Body-F Body Give Item What Element) → Every (SectionStands P) (external_in b)
  external_stands (Body-F.Long extending items external) = if_list (SectionStands P) external (Left_out ∷ []) [] (tt, tt) tt
  external_stands (Body-F.Short causal base subs mods) = tt
  external_stands (Body-F.Enumeration literals) = tt
  external_stands (Body-F.Der function names) = tt

  sections_stand : (row : Row) → RowStands P row → Every (SectionStands P) (sections_of row)
  sections_stand row h =
      every_append (SectionStands P) (flat_map section_in (items_in (out-Body row.class.body))) (external_in (out-Body row.class.body))
      (every_flat_map (SectionStands P) section_in (items_in (out-Body row.class.body))
      (every_weaker (ItemStands P) (λ item. Every (SectionStands P) (section_in item)) section_in_stands (items_in (out-Body row.class.body)) (items_stand P row.class.body h.class.1)))
      (external_stands (out-Body row.class.body))

  -- ---- frames

  all_final : (sections : List (List Frame)) → Every (Every (FrameStands P)) sections → Every (FrameStands P) (map final_frame sections)
  all_final [] h = tt
  all_final (frames ∷ sections) h = (final_stands P frames h.0, all_final sections h.1)

  -- ---- flows

  pub record VariableStands (v : Variable) : Type 0 where
    pub place : P (At v.instance.place)
    pub leaf : LeafStands P v.leaf

  pub variables_stand : (n : ℕ) (instances : List Instance) → Every (InstanceStands P) instances → Every VariableStands (variables_from n instances)
  variables_stand n [] h = tt
  variables_stand n (instance ∷ others) h = by instance.leaf h.0.leaf (λ m. variables_stand m others h.1)
    where
      by : (leaf : Option Leaf) → IfAny (LeafStands P) leaf → ((m : ℕ) → Every VariableStands (variables_from m others)) →
          Every VariableStands (with_leaf n instance leaf (λ next. variables_from next others))
      by None hl rest = rest n
      by (Some leaf) hl rest = (record { place = h.0.place; leaf = hl }, rest (n + 1))

  module _ (tree : Tree) (stands : TableStands P tree.classes) where
    flows_stand : Every (InstanceStands P) tree.instances → Every (λ (flow : ℕ × Place). P (At flow.1)) (all_flows tree)
    flows_stand h =
        every_flat_map (λ (flow : ℕ × Place). P (At flow.1)) _ (variables_of tree)
        (every_weaker VariableStands _ (λ v hv. if_list (λ (flow : ℕ × Place). P (At flow.1)) (is_flow tree v) _ _ (hv.place, tt) tt) (variables_of tree) (variables_stand 1 tree.instances h))

    frames_stand : (frame : Frame) → FrameStands P frame → Answers P (Every (FrameStands P)) (frames_of tree.classes frame)
    frames_stand frame hf =
        then_answers P (WalkedStands P) (Every (FrameStands P)) (walk_of tree.classes frame) (λ walked. Ok (map final_frame walked.sections ++ frame ∷ [])) (walk_of_stands P tree.classes stands frame hf)
        (λ walked hw. record { holds = every_append (FrameStands P) (map final_frame walked.sections) (frame ∷ []) (all_final walked.sections hw.sections) (hf, tt) })

    sections_at_stand : (frame : Frame) → FrameStands P frame → Every (PlacedStands P) (sections_at tree.classes frame)
    sections_at_stand frame hf = by (row_at tree.classes (class_of frame)) refl (row_stands P tree.classes stands (class_of frame))
      where
        by : (found : Option Row) → row_at tree.classes (class_of frame) ≡ found → IfAny (RowStands P) found → Every (PlacedStands P) (sections_at tree.classes frame)
        by None is h = rw is tt
        by (Some row) is h =
            rw is (every_map (PlacedStands P) (λ section. record { frame = frame; name = row.class.place; section = section }) (sections_of row)
            (every_weaker (SectionStands P) _ (λ section hs. record { frame = hf; name = h.place; section = hs }) (sections_of row) (sections_stand row h)))

    instance_stands : (instance : Instance) → InstanceStands P instance → Answers P (Every (PlacedStands P)) (sections_of_instance tree.classes instance)
    instance_stands instance h =
        then_answers P (Every (FrameStands P)) (Every (PlacedStands P)) (frames_of tree.classes instance.frame) (λ frames. Ok (flat_map (sections_at tree.classes) frames)) (frames_stand instance.frame h.frame)
        (λ frames hs. record { holds = every_flat_map (PlacedStands P) (sections_at tree.classes) frames (every_weaker (FrameStands P) _ sections_at_stand frames hs) })

    sections_answer : Every (InstanceStands P) tree.instances → Answers P (Every (PlacedStands P)) (all_sections tree)
    sections_answer h =
        then_answers P (Every (Every (PlacedStands P))) (Every (PlacedStands P)) (each (sections_of_instance tree.classes) tree.instances) (λ sections. Ok (flat_map (λ placed. placed) sections))
        (each_answers P (Every (PlacedStands P)) (sections_of_instance tree.classes) tree.instances (every_weaker (InstanceStands P) _ instance_stands tree.instances h))
        (λ sections hs. record { holds = every_joined (PlacedStands P) sections hs })

    -- ---- the whole

    module _ (descends : Descends P) (calls : CallsStand P tree) (asked : P (At (place_of_root tree))) where
      abbrev Part_stands : Parts → Type 0
      Part_stands = PartsStand P tree descends calls asked

      all_initial : (parts : List Parts) → Every Part_stands parts → Every (MadeStands P) (map (λ one. one.initial) parts)
      all_initial [] h = tt
      all_initial (one ∷ parts) h = (h.0.initial, all_initial parts h.1)

      all_usual : (parts : List Parts) → Every Part_stands parts → Every (MadeStands P) (map (λ one. one.usual) parts)
      all_usual [] h = tt
      all_usual (one ∷ parts) h = (h.0.usual, all_usual parts h.1)

      declared_equations : (declared : List Declared) → Every (DeclaredStands P) declared → Every (EquationStands P) (flat_map (λ one. one.equations) declared)
      declared_equations [] h = tt
      declared_equations (one ∷ declared) h = every_append (EquationStands P) one.equations (flat_map (λ one. one.equations) declared) h.0.equations (declared_equations declared h.1)

      declared_places : (declared : List Declared) → Every (DeclaredStands P) declared → Every (λ v. P (At v.place)) (map (λ one. one.variable) declared)
      declared_places [] h = tt
      declared_places (one ∷ declared) h = (h.0.place, declared_places declared h.1)

      whole_stands : Every (InstanceStands P) tree.instances → (declared : List Declared) (initial usual : Made) → Every (DeclaredStands P) declared → MadeStands P initial → MadeStands P usual →
          ExpandedStands P (expanded_with tree declared initial usual)
      whole_stands instances declared initial usual hd hi hu = record {
        place = asked;
        variables = declared_places declared hd;
        first = hi.equations;
        equations = every_append (EquationStands P) (flat_map (λ one. one.equations) declared) usual.equations (declared_equations declared hd) hu.equations;
        connects = hu.connects;
        flows = flows_stand instances;
      }

      -- Each place in what the instances of a class give stands, and so does that of a rule that is broken on the way.
      pub expansion_stands : Every (InstanceStands P) tree.instances → Answers P (ExpandedStands P) (expansion_of tree)
      expansion_stands instances =
          then_answers P (Every (DeclaredStands P)) (ExpandedStands P) (all_declared tree) _ (calls.declared instances) (λ declared hd.
          then_answers P (Every (PlacedStands P)) (ExpandedStands P) (all_sections tree) _ (sections_answer instances) (λ sections hs.
          then_answers P (λ (made : List Parts × ℕ). Every Part_stands made.0) (ExpandedStands P) (turn_each (made_placed tree) sections 0) _
          ((each_stands P Part_stands (made_placed tree) sections (every_weaker (PlacedStands P) _ (placed_stands P tree descends calls asked) sections hs)).holds 0) (λ made hm.
          record {
            holds = whole_stands instances declared (all_beside (map (λ one. one.initial) made.0)) (all_beside (map (λ one. one.usual) made.0)) hd
                (all_stand P (map (λ one. one.initial) made.0) (all_initial made.0 hm)) (all_stand P (map (λ one. one.usual) made.0) (all_usual made.0 hm));
          })))
