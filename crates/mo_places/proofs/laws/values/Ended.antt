-- What an end of a connect names and selects stands where its scope and its name do.
--
-- Reading an end stops at a component that is removed, with a mark whose place is nowhere. So what is asked by such a reading is compared with what
-- a reading answers that takes each component for one that is there: it is the mark, or the same.
use Rattle.std.proofs.Common.{◌≡◌, ◌⊎◌, inl, inr, Bool, true, false, List, [], ◌∷◌, map, flat_map, Option, Some, None, Ok, Err, refl, ap, subst, sym, if◌then◌else◌}
use Rattle.std.specs.Prelude.{nat_eq}
use Rattle.std.specs.Option.{option_map}
use Rattle.mo_syntax.specs.Outcome.{Outcome, and_then, breaks}
use Rattle.mo_syntax.specs.declared.expr.Expr.{Expr}
use Rattle.mo_syntax.specs.declared.expr.PartOf.{PartOf}
use Rattle.mo_syntax.specs.declared.expr.ReferenceOf.{ReferenceOf}
use Rattle.mo_syntax.specs.declared.place.Place.{Place}
use Rattle.mo_scope.specs.Frames.{Member, Scope}
use Rattle.mo_scope.specs.Rows.{Table}
use Rattle.mo_syntax.specs.declared.rules.TheConstants.{NAME_NOT_FOUND}
use Rattle.mo_typing.specs.Indices.{Index}
use Rattle.mo_typing.specs.Outcome.{each}
use Rattle.mo_typing.specs.Subscripts.{fine, subscripts}
use Rattle.mo_eval.specs.Components.{reader}
use Rattle.mo_eval.specs.Contexts.{Part}
use Rattle.mo_eval.specs.Ends.{Selected, ended_by, ended_in, ended_of, first_identifier, or_removed, reading_of_end, removed, selected_from, unless_removed, with_parts}
use Rattle.mo_eval.specs.References.{Components, Found_at, Named, Selection, agrees, component_behind, dims_at, elements_below, elements_selected, handed_in, is_inside, named, next_member, selection_at, selections, there}
use Rattle.mo_values.specs.Selected.{selected}
use Rattle.mo_eval.specs.Resolving.{made}
use Rattle.mo_values.specs.Scalars.{Known}
use Rattle.mo_eval.specs.Values.{most_references, reading}
use Rattle.mo_eval.specs.Virtuals.{Ask, Element, Reading}
use Rattle.mo_places.specs.InFiles.{Descends}
use Rattle.mo_places.specs.Pieces.{in_name}
use Rattle.mo_places.specs.Resolved.{AskStands, EndedStands, PartStands, ReadingStands}
use Rattle.mo_places.specs.Stands.{Answers, Anything, Every, FrameStands, IfAny, TableStands}
use Rattle.mo_places.specs.TreeWritten.{in_subs, places_of_parts}
use Rattle.mo_places.specs.Written.{Written, At}
use Rattle.mo_places.proofs.laws.Referring.{IdentifierStands, IdentifiersStand, NameStands, NamedStands, SelectionStands, named_answers, selections_answer, subscripts_answer}
use Rattle.mo_places.proofs.laws.Resolving.{reads_stand}
use Rattle.mo_places.proofs.laws.Selecting.{SelectedStands, elements_selected_answer, handed_stand}
use Rattle.mo_places.proofs.laws.Standing.{every_back, every_front, if_answers, then_answers}
use Rattle.mo_places.proofs.laws.values.Answered.{part_stands, reading_answers}
use Rattle.mo_places.proofs.laws.values.Layered.{layers_stand}

-- ---- the mark, or the same

abbrev Follows : {A : Type 0} → Outcome A → Outcome A → Type 0
Follows a b = a ≡ Err removed ⊎ a ≡ b

same_follows : {A : Type 0} (a : Outcome A) → Follows a a
same_follows a = inr refl

then_follows : {A B : Type 0} (a b : Outcome A) (f g : A → Outcome B) → Follows a b → ((x : A) → Follows (f x) (g x)) → Follows (and_then a f) (and_then b g)
then_follows {A} {B} a b f g (inl mark) h = inl (ap (λ (o : Outcome A). and_then o f) mark)
then_follows {A} {B} a b f g (inr same) h = subst (λ (o : Outcome A). Follows (and_then a f) (and_then o g)) same (by a)
  where
    by : (o : Outcome A) → Follows (and_then o f) (and_then o g)
    by (Ok x) = h x
    by (Err broken) = inr refl

if_follows : {A : Type 0} (c : Bool) (a b x y : Outcome A) → Follows a b → Follows x y → Follows (if c then a else x) (if c then b else y)
if_follows true a b x y h k = h
if_follows false a b x y h k = k

-- each component is taken for one that is there
abbrev all_there : Reading → Reading
all_there reading = record {
  is_there = λ member. and_then (reading.is_there member) (λ is_there. Ok true);
  dims = reading.dims;
  value = reading.value;
}

module _ (table : Table) (read : Reading) where
  there_follows : (place : Place) (member : Member) → Follows (there (reading_of_end read) place member) (there (all_there read) place member)
  there_follows place member = by (read.is_there member)
    where
      by : (o : Outcome Bool) →
          Follows (and_then (and_then o or_removed) (λ is_there. if is_there then fine else breaks NAME_NOT_FOUND place)) (and_then (and_then o (λ is_there. Ok true)) (λ is_there. if is_there then fine else breaks NAME_NOT_FOUND place))
      by (Ok true) = inr refl
      by (Ok false) = inl refl
      by (Err broken) = inr refl

  module _ (value : Element → Outcome Known) where
    dims_follow : (member : Option Member) (name : Member × PartOf Part) → Follows (dims_at table (reading_of_end read) member name) (dims_at table (all_there read) member name)
    dims_follow None name = inr refl
    dims_follow (Some member) name =
        then_follows (there (reading_of_end read) name.1.place member) (there (all_there read) name.1.place member) (λ _. read.dims member) (λ _. read.dims member) (there_follows name.1.place member) (λ _. inr refl)

    selection_follows : (member : Option Member) (name : Member × PartOf Part) → Follows (selection_at table (reading_of_end read) value member name) (selection_at table (all_there read) value member name)
    selection_follows member name = then_follows (dims_at table (reading_of_end read) member name) (dims_at table (all_there read) member name) _ _ (dims_follow member name) (λ dims. inr refl)

    selections_follow : (member : Option Member) (names : List (Member × PartOf Part)) → Follows (selections table (reading_of_end read) value member names) (selections table (all_there read) value member names)
    selections_follow member [] = inr refl
    selections_follow member (name ∷ []) =
        then_follows (selection_at table (reading_of_end read) value member name) (selection_at table (all_there read) value member name) _ _ (selection_follows member name) (λ selection. inr refl)
    selections_follow member (name ∷ next ∷ names) =
        then_follows (selection_at table (reading_of_end read) value member name) (selection_at table (all_there read) value member name) _ _ (selection_follows member name) (λ selection.
        then_follows (subscripts selection.dims selection.subs) (subscripts selection.dims selection.subs) _ _ (inr refl) (λ _.
        then_follows (next_member table member selection next.1) (next_member table member selection next.1) _ _ (inr refl) (λ behind.
        then_follows (selections table (reading_of_end read) value behind (next ∷ names)) (selections table (all_there read) value behind (next ∷ names)) _ _ (selections_follow behind (next ∷ names)) (λ others. inr refl))))

  agrees_follows : (place : Place) (selection : Selection) (member : Member) → Follows (agrees (reading_of_end read) place selection member) (agrees (all_there read) place selection member)
  agrees_follows place selection member =
      then_follows (there (reading_of_end read) selection.place member) (there (all_there read) selection.place member) _ _ (there_follows selection.place member) (λ _. inr refl)

  below_follow : (place : Place) (member : Member) (chosen : List Selection) → Follows (elements_below table (reading_of_end read) place member chosen) (elements_below table (all_there read) place member chosen)
  below_follow place member [] = inr refl
  below_follow place member (selection ∷ []) =
      then_follows (agrees (reading_of_end read) place selection member) (agrees (all_there read) place selection member) _ _ (agrees_follows place selection member) (λ _. inr refl)
  below_follow place member (selection ∷ next ∷ others) =
      then_follows (agrees (reading_of_end read) place selection member) (agrees (all_there read) place selection member) _ _ (agrees_follows place selection member) (λ _.
      then_follows (each (behind (reading_of_end read)) (selected selection.dims selection.subs)) (each (behind (all_there read)) (selected selection.dims selection.subs)) _ _
      (each_follow (λ part. below_follow place part (next ∷ others)) (selected selection.dims selection.subs)) (λ elements. inr refl))
    where
      behind : Reading → Index → Outcome (List (Member × Index))
      behind by index = and_then (component_behind table next.place member index next.name) (λ part. elements_below table by place part (next ∷ others))

      each_follow : ((part : Member) → Follows (elements_below table (reading_of_end read) place part (next ∷ others)) (elements_below table (all_there read) place part (next ∷ others))) → (indices : List Index) →
          Follows (each (behind (reading_of_end read)) indices) (each (behind (all_there read)) indices)
      each_follow further [] = inr refl
      each_follow further (index ∷ indices) =
          then_follows (behind (reading_of_end read) index) (behind (all_there read) index) _ _
          (then_follows (component_behind table next.place member index next.name) (component_behind table next.place member index next.name) _ _ (inr refl) further) (λ value.
          then_follows (each (behind (reading_of_end read)) indices) (each (behind (all_there read)) indices) _ _ (each_follow further indices) (λ values. inr refl))

  elements_follow : (place : Place) (member : Member) (chosen : List Selection) → Follows (elements_selected table (reading_of_end read) place member chosen) (elements_selected table (all_there read) place member chosen)
  elements_follow place member chosen = if_follows (is_inside chosen) _ _ (Ok []) (Ok []) (below_follow place member chosen) (inr refl)

-- ---- what stands

-- what an end selects
pub record EndSelects (P : Written → Type 0) (selected : Selected) : Type 0 where
  pub chosen : Every (SelectionStands P) selected.chosen
  pub elements : Every (SelectedStands P) selected.elements

all_there_stands : (P : Written → Type 0) (read : Reading) → ReadingStands P read → ReadingStands P (all_there read)
all_there_stands P read h = record {
  is_there = λ member hm. then_answers P Anything Anything (read.is_there member) _ (h.is_there member hm) (λ is_there _. record { holds = tt });
  dims = h.dims;
  value = h.value;
}

-- What is the mark, or the same as what answers, is removed or answers.
unless_answers : {A : Type 0} (P : Written → Type 0) (Q : A → Type 0) (a b : Outcome A) → Follows a b → Answers P Q b → Answers P (IfAny Q) (unless_removed a)
unless_answers {A} P Q a b (inl mark) h = subst (λ (o : Outcome A). Answers P (IfAny Q) (unless_removed o)) (sym mark) (record { holds = tt })
unless_answers {A} P Q a b (inr same) h = subst (λ (o : Outcome A). Answers P (IfAny Q) (unless_removed o)) (sym same) (by b h)
  where
    by : (o : Outcome A) → Answers P Q o → Answers P (IfAny Q) (unless_removed o)
    by (Ok value) hq = record { holds = hq.holds }
    by (Err broken) hq = if_answers P (IfAny Q) (nat_eq broken.rule 0) (Ok None) (Err broken) (record { holds = tt }) (record { holds = hq.holds })

module _ (P : Written → Type 0) (descends : Descends P) (table : Table) (stands : TableStands P table) where
  abbrev asked : Ask
  asked = reading table most_references

  asked_stands : AskStands P asked
  asked_stands = reading_answers P descends table stands most_references

  abbrev chosen_by : Reading → Place → Member × PartOf Part → List (Member × PartOf Part) → Outcome Selected
  chosen_by read place first others =
      and_then (selections table read (reader asked) (Some first.0) (first ∷ others)) (λ chosen.
      and_then (elements_selected table read place first.0 chosen) (λ elements.
      Ok (record { chosen = chosen; elements = elements })))

  chosen_follows : (read : Reading) (place : Place) (first : Member × PartOf Part) (others : List (Member × PartOf Part)) →
      Follows (chosen_by (reading_of_end read) place first others) (chosen_by (all_there read) place first others)
  chosen_follows read place first others =
      then_follows (selections table (reading_of_end read) (reader asked) (Some first.0) (first ∷ others)) (selections table (all_there read) (reader asked) (Some first.0) (first ∷ others)) _ _
      (selections_follow table read (reader asked) (Some first.0) (first ∷ others)) (λ chosen.
      then_follows (elements_selected table (reading_of_end read) place first.0 chosen) (elements_selected table (all_there read) place first.0 chosen) _ _ (elements_follow table read place first.0 chosen) (λ elements. inr refl))

  chosen_stand : (read : Reading) → ReadingStands P read → (place : Place) (first : Member × PartOf Part) (others : List (Member × PartOf Part)) → P (At place) → NameStands P first → Every (NameStands P) others →
      Answers P (EndSelects P) (chosen_by (all_there read) place first others)
  chosen_stand read hr place first others hp hf ho =
      then_answers P (Every (SelectionStands P)) (EndSelects P) (selections table (all_there read) (reader asked) (Some first.0) (first ∷ others)) _
      (selections_answer P descends (layers_stand P) (reader asked) (reads_stand P asked asked_stands) table stands (all_there read) (all_there_stands P read hr) (Some first.0) (first ∷ others) hf.0 (hf, ho)) (λ chosen hc.
      then_answers P (Every (SelectedStands P)) (EndSelects P) (elements_selected table (all_there read) place first.0 chosen) _
      (elements_selected_answer P table stands (all_there read) (all_there_stands P read hr) place first.0 chosen hp hf.0 hc)
      (λ elements he. record { holds = record { chosen = hc; elements = he } }))

  -- the identifiers of an end, and the elements of its last component; none where a component is removed
  pub selected_answers : (place : Place) (first : Member × PartOf Part) (others : List (Member × PartOf Part)) → P (At place) → NamedStands P (Components (first ∷ others)) →
      Answers P (IfAny (EndSelects P)) (unless_removed (selected_from table place first others))
  selected_answers place first others hp h =
      unless_answers P (EndSelects P) (selected_from table place first others) (and_then (asked place) (λ read. chosen_by (all_there read) place first others))
      (then_follows (asked place) (asked place) _ _ (inr refl) (λ read. chosen_follows read place first others))
      (then_answers P (ReadingStands P) (EndSelects P) (asked place) _ (asked_stands place hp) (λ read hr. chosen_stand read hr place first others hp h.0 h.1))

  -- its subscripts
  pub handed_answers : (selected : Selected) → EndSelects P selected → Answers P Anything (subscripts (handed_in selected.chosen).0 (handed_in selected.chosen).1)
  handed_answers selected h = subscripts_answer P (handed_in selected.chosen).0 (handed_in selected.chosen).1 (handed_stand P selected.chosen h.chosen)

  -- ---- the names of an end

  abbrev resolving : Scope → Expr → Part
  resolving scope e = (e, made table asked scope e)

  subs_stand : (scope : Scope) → FrameStands P scope.frame → (subs : List (Option Expr)) → Every P (in_subs subs) → Every (IfAny (PartStands P)) (map (option_map (resolving scope)) subs)
  subs_stand scope hf [] h = tt
  subs_stand scope hf (None ∷ subs) h = (tt, subs_stand scope hf subs h)
  subs_stand scope hf (Some e ∷ subs) h = (part_stands P descends table stands most_references scope e hf h.0, subs_stand scope hf subs h.1)

  abbrev with_part : Scope → PartOf Expr → PartOf Part
  with_part scope part = record { name = part.name; place = part.place; subs = map (option_map (resolving scope)) part.subs }

  abbrev subs_of : PartOf Expr → List Written
  subs_of part = in_subs part.subs

  identifiers_stand : (scope : Scope) → FrameStands P scope.frame → (parts : List (PartOf Expr)) → Every P (map (λ (other : PartOf Expr). At other.place) parts) → Every P (flat_map subs_of parts) → Every (IdentifierStands P) (map (with_part scope) parts)
  identifiers_stand scope hf [] h hs = tt
  identifiers_stand scope hf (part ∷ parts) h hs =
      ((h.0, subs_stand scope hf part.subs (every_front P (in_subs part.subs) (flat_map subs_of parts) hs)), identifiers_stand scope hf parts h.1 (every_back P (in_subs part.subs) (flat_map subs_of parts) hs))

  name_stands : (scope : Scope) → FrameStands P scope.frame → (parts : List (PartOf Expr)) → Every P (places_of_parts parts) → Every P (flat_map subs_of parts) → IdentifiersStand P (map (with_part scope) parts)
  name_stands scope hf [] h hs = h.0
  name_stands scope hf (part ∷ parts) h hs =
      ((h.0, subs_stand scope hf part.subs (every_front P (in_subs part.subs) (flat_map subs_of parts) hs)), identifiers_stand scope hf parts h.1 (every_back P (in_subs part.subs) (flat_map subs_of parts) hs))

  -- what the names of an end find
  pub end_names : (scope : Scope) (reference : ReferenceOf Expr) → FrameStands P scope.frame → Every P (in_name reference) → Answers P (NamedStands P) (named table scope (with_parts table scope reference))
  end_names scope reference hf h =
      named_answers P table stands scope (with_parts table scope reference) hf
      (name_stands scope hf reference.parts (every_front P (places_of_parts reference.parts) (flat_map subs_of reference.parts) h) (every_back P (places_of_parts reference.parts) (flat_map subs_of reference.parts) h))

  -- ---- an end

  first_stands : (parts : List (PartOf Expr)) → Every P (places_of_parts parts) → P (At (first_identifier parts))
  first_stands [] h = h.0
  first_stands (part ∷ parts) h = h.0

  ended_by_stands : (selected : Option Selected) → IfAny (EndSelects P) selected → EndedStands P (ended_by selected)
  ended_by_stands None h = tt
  ended_by_stands (Some selected) h = (handed_stand P selected.chosen h.chosen, h.elements)

  ended_in_answers : (place : Place) (found : Named) → P (At place) → NamedStands P found → Answers P (EndedStands P) (ended_in table place found)
  ended_in_answers place (Components []) hp h = record { holds = tt }
  ended_in_answers place (Found_at found at) hp h = record { holds = tt }
  ended_in_answers place (Components (first ∷ others)) hp h =
      then_answers P (IfAny (EndSelects P)) (EndedStands P) (unless_removed (selected_from table place first others)) _ (selected_answers place first others hp h)
      (λ selected hs. record { holds = ended_by_stands selected hs })

  -- An end breaks a rule where it stands, and the places of its subscripts and of its elements stand.
  pub ended_stands : (scope : Scope) (reference : ReferenceOf Expr) → FrameStands P scope.frame → Every P (in_name reference) → Answers P (EndedStands P) (ended_of table scope reference)
  ended_stands scope reference hf h =
      then_answers P (NamedStands P) (EndedStands P) (named table scope (with_parts table scope reference)) _ (end_names scope reference hf h)
      (λ found hn. ended_in_answers (first_identifier reference.parts) found (first_stands reference.parts (every_front P (places_of_parts reference.parts) (flat_map subs_of reference.parts) h)) hn)
