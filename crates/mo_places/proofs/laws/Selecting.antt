-- The elements that a reference selects stand, and so does what it hands in.
use Rattle.std.proofs.Common.{Bool, true, false, List, [], ◌∷◌, map, Option, Some, None, if◌then◌else◌}
use Rattle.std.specs.Prelude.{is_ok}
use Rattle.mo_syntax.specs.Outcome.{and_then}
use Rattle.mo_syntax.specs.declared.expr.PartOf.{PartOf}
use Rattle.mo_syntax.specs.declared.meaning.Kind.{Kind}
use Rattle.mo_syntax.specs.declared.place.Place.{Place}
use Rattle.mo_flat.specs.declared.array.ArrayNode.TheVariants.{Vars}
use Rattle.mo_flat.specs.declared.array.Subscript.{Subscript}
use Rattle.mo_scope.specs.Frames.{Member}
use Rattle.mo_scope.specs.Names.{child_of_member, component_frame, walk_of}
use Rattle.mo_scope.specs.Rows.{Table}
use Rattle.mo_typing.specs.Dims.{Dims, are_equal, subscripted}
use Rattle.mo_typing.specs.Indices.{Index}
use Rattle.mo_typing.specs.Outcome.{each}
use Rattle.mo_typing.specs.Subscripts.{subscripts}
use Rattle.mo_eval.specs.Contexts.{Part, read_element}
use Rattle.mo_eval.specs.References.{Selection, agrees, component_behind, elements_below, elements_selected, every, handed_in, is_inside, is_replaced, joined, kind_accepted, kind_among, last_of, leaf_kind, made_reference, selections, there, virtual_elements}
use Rattle.mo_values.specs.Selected.{selected}
use Rattle.mo_eval.specs.Virtuals.{Ask, Reading, make_from, make_variables}
use Rattle.mo_values.specs.declared.context.Context.{Context}
use Rattle.mo_places.specs.InFiles.{Descends}
use Rattle.mo_places.specs.Resolved.{ArrayNodeStands, AskStands, Makes, PlaceStands, ReadStands, ReadingStands, VirtualsStand, in_subscript, in_subscripts}
use Rattle.mo_places.specs.Stands.{ChildStands, Answers, Anything, Every, MemberStands, TableStands, WalkedStands}
use Rattle.mo_places.specs.Written.{Written, At}
use Rattle.mo_places.proofs.laws.Forming.{vars_stand}
use Rattle.mo_places.proofs.laws.Layers.{LayersStand}
use Rattle.mo_places.proofs.laws.Making.{from_makes, makes, then_makes, variables_make}
use Rattle.mo_places.proofs.laws.Naming.{child_of_member_stands, component_frame_stands, walk_of_stands}
use Rattle.mo_places.proofs.laws.Referring.{NameStands, SelectionStands, SubscriptStands, component_behind_answers, selections_answer}
use Rattle.mo_places.proofs.laws.Standing.{every_append, if_answers, then_answers}

-- an element that is selected, by the declaration in its frame and its index
abbrev pub SelectedStands : (Written → Type 0) → Member × Index → Type 0
SelectedStands P element = MemberStands P element.0

indices_stand : (P : Written → Type 0) (member : Member) → MemberStands P member → (indices : List Index) → Every (SelectedStands P) (map (λ index. (member, index)) indices)
indices_stand P member h [] = tt
indices_stand P member h (index ∷ indices) = (h, indices_stand P member h indices)

joined_stand : (P : Written → Type 0) (lists : List (List (Member × Index))) → Every (Every (SelectedStands P)) lists → Every (SelectedStands P) (joined lists)
joined_stand P [] h = tt
joined_stand P (list ∷ lists) h = every_append (SelectedStands P) list (joined lists) h.0 (joined_stand P lists h.1)

module _ (P : Written → Type 0) (table : Table) (stands : TableStands P table) (reading : Reading) (asked : ReadingStands P reading) where
  there_stands : (place : Place) (member : Member) → P (At place) → MemberStands P member → Answers P Anything (there reading place member)
  there_stands place member hp hm =
      then_answers P Anything Anything (reading.is_there member) _ (asked.is_there member hm) (λ is_there _. if_answers P Anything is_there _ _ (record { holds = tt }) (record { holds = hp }))

  agrees_answers : (place : Place) (selection : Selection) (member : Member) → P (At place) → SelectionStands P selection → MemberStands P member → Answers P Anything (agrees reading place selection member)
  agrees_answers place selection member hp hs hm =
      then_answers P Anything Anything (there reading selection.place member) _ (there_stands selection.place member hs.place hm) (λ _ _.
      then_answers P Anything Anything (reading.dims member) _ (asked.dims member hm) (λ dims _. if_answers P Anything (are_equal dims selection.dims) _ _ (record { holds = tt }) (record { holds = hp })))

  pub elements_below_answer : (place : Place) (member : Member) (chosen : List Selection) → P (At place) → MemberStands P member → Every (SelectionStands P) chosen →
      Answers P (Every (SelectedStands P)) (elements_below table reading place member chosen)
  elements_below_answer place member [] hp hm h = record { holds = tt }
  elements_below_answer place member (selection ∷ []) hp hm h =
      then_answers P Anything (Every (SelectedStands P)) (agrees reading place selection member) _ (agrees_answers place selection member hp h.0 hm)
      (λ _ _. record { holds = indices_stand P member hm (selected selection.dims selection.subs) })
  elements_below_answer place member (selection ∷ next ∷ others) hp hm h =
      then_answers P Anything (Every (SelectedStands P)) (agrees reading place selection member) _ (agrees_answers place selection member hp h.0 hm) (λ _ _.
      then_answers P (Every (Every (SelectedStands P))) (Every (SelectedStands P))
      (each (λ index. and_then (component_behind table next.place member index next.name) (λ part. elements_below table reading place part (next ∷ others))) (selected selection.dims selection.subs)) _
      (below (λ part hb. elements_below_answer place part (next ∷ others) hp hb h.1) (selected selection.dims selection.subs))
      (λ elements he. record { holds = joined_stand P elements he }))
    where
      below : ((part : Member) → MemberStands P part → Answers P (Every (SelectedStands P)) (elements_below table reading place part (next ∷ others))) → (indices : List Index) →
          Answers P (Every (Every (SelectedStands P))) (each (λ index. and_then (component_behind table next.place member index next.name) (λ part. elements_below table reading place part (next ∷ others))) indices)
      below further [] = record { holds = tt }
      below further (index ∷ indices) =
          then_answers P (Every (SelectedStands P)) (Every (Every (SelectedStands P))) (and_then (component_behind table next.place member index next.name) (λ part. elements_below table reading place part (next ∷ others))) _
          (then_answers P (MemberStands P) (Every (SelectedStands P)) (component_behind table next.place member index next.name) _
          (component_behind_answers P table stands next.place member index next.name h.1.0.place hm) further)
          (λ value hv. then_answers P (Every (Every (SelectedStands P))) (Every (Every (SelectedStands P)))
          (each (λ index. and_then (component_behind table next.place member index next.name) (λ part. elements_below table reading place part (next ∷ others))) indices) _
          (below further indices) (λ values hs. record { holds = (hv, hs) }))

  pub elements_selected_answer : (place : Place) (member : Member) (chosen : List Selection) → P (At place) → MemberStands P member → Every (SelectionStands P) chosen →
      Answers P (Every (SelectedStands P)) (elements_selected table reading place member chosen)
  elements_selected_answer place member chosen hp hm h =
      if_answers P (Every (SelectedStands P)) (is_inside chosen) _ _ (elements_below_answer place member chosen hp hm h) (record { holds = tt })

-- ---- what is handed in

subs_places : (P : Written → Type 0) (subs : List Subscript) → Every (SubscriptStands P) subs → Every (PlaceStands P) (in_subscripts subs)
subs_places P [] h = tt
subs_places P (sub ∷ subs) h = every_append (PlaceStands P) (in_subscript sub) (in_subscripts subs) h.0 (subs_places P subs h.1)

every_stands : {A : Type 0} (P : Written → Type 0) (xs : List A) → Every (SubscriptStands P) (every xs)
every_stands P [] = tt
every_stands P (x ∷ xs) = (tt, every_stands P xs)

pair_stands : (P : Written → Type 0) (b : Bool) (x y : Dims × List Subscript) → Every (SubscriptStands P) x.1 → Every (SubscriptStands P) y.1 → Every (SubscriptStands P) (if b then x else y).1
pair_stands P true x y hx hy = hx
pair_stands P false x y hx hy = hy

pub handed_stand : (P : Written → Type 0) (chosen : List Selection) → Every (SelectionStands P) chosen → Every (SubscriptStands P) (handed_in chosen).1
handed_stand P [] h = tt
handed_stand P (selection ∷ []) h = pair_stands P (is_ok (subscripts selection.dims selection.subs)) _ _ tt h.0.subs
handed_stand P (selection ∷ next ∷ others) h =
    pair_stands P (is_inside (next ∷ others)) _ _ tt
    (every_append (SubscriptStands P) (every (subscripted selection.subs selection.dims)) (handed_in (next ∷ others)).1 (every_stands P (subscripted selection.subs selection.dims)) (handed_stand P (next ∷ others) h.1))

-- ---- references

elements_stand : (P : Written → Type 0) (place : Place) (kind : Kind) (constant : Bool) (elements : List (Member × Index)) → P (At place) → Every (SelectedStands P) elements → VirtualsStand P (virtual_elements place kind constant elements)
elements_stand P place kind constant [] hp h = tt
elements_stand P place kind constant (element ∷ elements) hp h = (record { member = h.0; place = hp }, elements_stand P place kind constant elements hp h.1)

last_member : (P : Written → Type 0) (first : Member × PartOf Part) (others : List (Member × PartOf Part)) → NameStands P first → Every (NameStands P) others → MemberStands P (last_of first others).0
last_member P first [] hf h = hf.0
last_member P first (next ∷ others) hf h = last_member P next others h.0 h.1

module _ (P : Written → Type 0) (table : Table) (stands : TableStands P table) where
  leaf_kind_answers : (member : Member) (index : Index) → MemberStands P member → Answers P Anything (leaf_kind table member index)
  leaf_kind_answers member index h =
      then_answers P (ChildStands P) Anything (child_of_member table member index) _ (child_of_member_stands P table stands member index h) (λ child hc.
      then_answers P (WalkedStands P) Anything (walk_of table (component_frame member index child)) _
      (walk_of_stands P table stands (component_frame member index child) (component_frame_stands P table stands member index child h hc)) (λ walked hw. record { holds = tt }))

  kind_among_answers : (member : Member) (elements : List (Member × Index)) → MemberStands P member → Every (SelectedStands P) elements → Answers P Anything (kind_among table member elements)
  kind_among_answers member [] hm h = leaf_kind_answers member [] hm
  kind_among_answers member (element ∷ elements) hm h = leaf_kind_answers element.0 element.1 h.0

  kind_accepted_answers : (context : Context) (place : Place) (kind : Option Kind) → P (At place) → Answers P Anything (kind_accepted context place kind)
  kind_accepted_answers context place (Some kind) hp = record { holds = tt }
  kind_accepted_answers context place None hp = if_answers P Anything context.sized _ _ (record { holds = tt }) (record { holds = hp })

  pub made_reference_makes : (descends : Descends P) (layers : LayersStand P) (ask : Ask) → AskStands P ask → ReadStands P (read_element ask is_replaced) → (context : Context) (place : Place) → P (At place) →
      (first : Member × PartOf Part) (others : List (Member × PartOf Part)) → NameStands P first → Every (NameStands P) others → Makes P (ArrayNodeStands P) (made_reference table ask context place first others)
  made_reference_makes descends layers ask asks reads context place hp first others hf ho =
      then_makes P (ReadingStands P) (ArrayNodeStands P) (make_from (ask place)) _ (from_makes P (ReadingStands P) (ask place) (asks place hp)) (λ reading hr.
      then_makes P (Every (SelectionStands P)) (ArrayNodeStands P) (make_from (selections table reading (read_element ask is_replaced) (Some first.0) (first ∷ others))) _
      (from_makes P (Every (SelectionStands P)) _ (selections_answer P descends layers (read_element ask is_replaced) reads table stands reading hr (Some first.0) (first ∷ others) hf.0 (hf, ho))) (λ chosen hc.
      then_makes P (Every (SelectedStands P)) (ArrayNodeStands P) (make_from (elements_selected table reading place first.0 chosen)) _
      (from_makes P (Every (SelectedStands P)) _ (elements_selected_answer P table stands reading hr place first.0 chosen hp hf.0 hc)) (λ elements he.
      then_makes P Anything (ArrayNodeStands P) (make_from (and_then (kind_among table (last_of first others).0 elements) (kind_accepted context place))) _
      (from_makes P Anything _ (then_answers P Anything Anything (kind_among table (last_of first others).0 elements) _ (kind_among_answers (last_of first others).0 elements (last_member P first others hf ho) he)
      (λ kind _. kind_accepted_answers context place kind hp))) (λ kind _.
      then_makes P Anything (ArrayNodeStands P) (make_variables (virtual_elements place kind _ elements)) _ (variables_make P (virtual_elements place kind _ elements) (elements_stand P place kind _ elements hp he)) (λ variables _.
      makes P (ArrayNodeStands P) (Vars variables kind (handed_in chosen).0 (handed_in chosen).1) (vars_stand P variables kind (handed_in chosen).0 (handed_in chosen).1 (subs_places P (handed_in chosen).1 (handed_stand P chosen hc))))))))
