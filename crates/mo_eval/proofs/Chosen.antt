-- What the identifiers of a reference select, one after another.
use Rattle.std.proofs.Common.{◌≡◌, ℕ, ◌+◌, ◌<◌, Bool, List, [], ◌∷◌, ◌++◌, length, drop, get_or, Option, Some, None, Ok, Err, refl, ap, sym, ◌∙◌, append_assoc, arith}
use Rattle.std.specs.Prelude.{if◌then◌else◌, slice_get}
use Rattle.std.proofs.lemmas.List.{append-nil}
use Rattle.mo_syntax.specs.Outcome.{Outcome as Seen, and_then as then_seen, Outcome, and_then, breaks}
use Rattle.mo_syntax.specs.declared.expr.PartOf.{PartOf}
use Rattle.mo_syntax.specs.declared.place.Place.{Place}
use Rattle.mo_syntax.specs.declared.place.Stop.{Stop}
use Rattle.mo_syntax.specs.declared.place.Stop.TheVariants.{Broken as broken_by, NoMemory as no_memory}
use Rattle.mo_scope.specs.Frames.{Member}
use Rattle.mo_scope.specs.Lookup.{Found, Component, Class, Literal, Iteration, Function, Time, Element, Other, Absent, asking_of, reached}
use Rattle.mo_scope.specs.Names.{Child, child_of_member, component_frame, stands_for, component_entered}
use Rattle.mo_scope.specs.Outcome.{Gives as GivesSeen}
use Rattle.mo_scope.specs.Rows.{Table}
use Rattle.mo_syntax.specs.declared.rules.TheConstants.{WRONG_SIZE}
use Rattle.mo_typing.specs.Dims.{Dims, are_equal}
use Rattle.mo_typing.specs.Indices.{Index}
use Rattle.mo_typing.specs.Outcome.{each, Gives}
use Rattle.mo_typing.specs.Subscripts.{fine, subscripts}
use Rattle.mo_values.specs.Scalars.{Known}
use Rattle.mo_eval.specs.Virtuals.{Element as Element_of, Reading}
use Rattle.mo_eval.specs.Contexts.{Part}
use Rattle.mo_eval.specs.References.{Selection, agrees, component_behind, elements_below, joined, next_member, selection_at, selections, there}
use Rattle.mo_values.specs.Selected.{selected}
use Rattle.mo_eval.specs.steps.Selecting.{component_found, component_in, dims_there, each_below, elements_more, member_behind, next_among, next_if}
use Rattle.mo_eval.proofs.Calling.{then_then}
use Rattle.mo_eval.proofs.Subscripting.{then_alike}

-- ---- the next component

found_alike : (place : Place) (o : Outcome Found) (f : Found → Outcome Member) → ((found : Found) → f found ≡ component_found place found) → and_then o f ≡ and_then o (component_found place)
found_alike place o f same = then_alike o f (component_found place) same

pub component_behind_by : (table : Table) (place : Place) (member : Member) (index : Index) (name : List ℕ) →
    component_behind table place member index name ≡ and_then (component_entered table member index) (λ frame. component_in table place frame name)
component_behind_by table place member index name =
    then_alike (child_of_member table member index) _ _ (λ child.
    then_alike (reached table (asking_of table) place (component_frame member index child) name) _ _
    (elim [
      | Element part ↦ found_alike place (stands_for table place (Component (component_frame member index child) part)) _ (elim [
        | Component frame found ↦ refl
        | Class frame replaceable ↦ refl
        | Literal class n ↦ refl
        | Iteration n ↦ refl
        | Function code ↦ refl
        | Time ↦ refl
      ])
      | Other found ↦ refl
      | Absent ↦ refl
    ]))
    ∙ after (child_of_member table member index)
  where
    after : (o : Seen Child) → and_then o (λ child. component_in table place (component_frame member index child) name) ≡ and_then (then_seen o (λ child. Ok (component_frame member index child))) (λ frame. component_in table place frame name)
    after (Ok child) = refl
    after (Err broken) = refl

next_by : (table : Table) (member : Option Member) (selection : Selection) (next : PartOf Part) → next_member table member selection next ≡ next_if table member selection next
next_by table None selection next = refl
next_by table (Some member) selection next = go (selected selection.dims selection.subs) refl
  where
    go : (indices : List Index) → selected selection.dims selection.subs ≡ indices → next_member table (Some member) selection next ≡ next_among table member next (selected selection.dims selection.subs)
    go [] e = rw e refl
    go (index ∷ indices) e = rw e refl

-- the first of the indices
pub no_first : {A : Type 0} (xs : List A) → None ≡ slice_get xs 0 → xs ≡ []
no_first [] is = refl
no_first {A = A} (x ∷ xs) is = absurd (let e : ◌≡◌ {A = Option A} None (Some x) = is in cc)

pub some_first : {A : Type 0} (xs : List A) (x : A) → Some x ≡ slice_get xs 0 → xs ≡ x ∷ drop 1 xs
some_first {A = A} [] x is = absurd (let e : ◌≡◌ {A = Option A} (Some x) None = is in cc)
some_first (y ∷ xs) x is = let same : y ≡ x = cc in ap (λ z. z ∷ xs) same

pub first_of : {A : Type 0} (xs : List A) (x : A) → 0 < length xs → x ≡ get_or xs 0 x → xs ≡ x ∷ drop 1 xs
first_of [] x some is = absurd (omega arith)
first_of (y ∷ xs) x some is = ap (λ z. z ∷ xs) (sym is)

-- ---- selections

module _ (table : Table) (reading : Reading) (read : Element_of → Outcome Known) where
  -- what comes of one identifier and of those behind it
  selections_step : (member : Option Member) (name : Member × PartOf Part) (names : List (Member × PartOf Part)) →
      selections table reading read member (name ∷ names)
      ≡ and_then (selection_at table reading read member name) (λ selection. and_then (member_behind table member selection names) (λ behind. and_then (selections table reading read behind names) (λ others. Ok (selection ∷ others))))
  selections_step member name [] = refl
  selections_step member name (next ∷ names) =
      then_alike (selection_at table reading read member name) _ _ (λ selection. go selection (subscripts selection.dims selection.subs))
    where
      go : (selection : Selection) (o : Outcome (Unit {0})) →
          and_then o (λ _. and_then (next_member table member selection next.1) (λ behind. and_then (selections table reading read behind (next ∷ names)) (λ others. Ok (selection ∷ others))))
          ≡ and_then (and_then o (λ _. next_if table member selection next.1)) (λ behind. and_then (selections table reading read behind (next ∷ names)) (λ others. Ok (selection ∷ others)))
      go selection (Ok unit) = ap (λ (o : Outcome (Option Member)). and_then o (λ behind. and_then (selections table reading read behind (next ∷ names)) (λ others. Ok (selection ∷ others)))) (next_by table member selection next.1)
      go selection (Err broken) = refl

  module _ (made : List Selection) (member : Option Member) (name : Member × PartOf Part) (names : List (Member × PartOf Part)) (whole : Outcome (List Selection))
      (before : and_then (selections table reading read member (name ∷ names)) (λ more. Ok (made ++ more)) ≡ whole) where
    stepped : and_then (and_then (selection_at table reading read member name) (λ selection. and_then (member_behind table member selection names) (λ behind. and_then (selections table reading read behind names) (λ others. Ok (selection ∷ others))))) (λ more. Ok (made ++ more)) ≡ whole
    stepped = ap (λ (o : Outcome (List Selection)). and_then o (λ more. Ok (made ++ more))) (sym (selections_step member name names)) ∙ before

    pub selection_more : (selection : Selection) (behind : Option Member) → selection_at table reading read member name ≡ Ok selection → member_behind table member selection names ≡ Ok behind →
        and_then (selections table reading read behind names) (λ more. Ok ((made ++ selection ∷ []) ++ more)) ≡ whole
    selection_more selection behind is next = sym (rw (is, next) (go (selections table reading read behind names))) ∙ stepped
      where
        go : (o : Outcome (List Selection)) → and_then (and_then {B = List Selection} o (λ others. Ok (selection ∷ others))) (λ more. Ok (made ++ more)) ≡ and_then o (λ more. Ok ((made ++ selection ∷ []) ++ more))
        go (Ok others) = ap Ok (sym (append_assoc made (selection ∷ []) others))
        go (Err broken) = refl

    pub selection_halts : {T : Type 0} (view : T → Selection) (stop : Stop) → GivesSeen {T = T} view (Err stop) (selection_at table reading read member name) → Gives {T = List Selection} (Err stop) whole
    selection_halts view (broken_by broken) h = sym stepped ∙ rw h refl
    selection_halts view no_memory h = tt

    pub behind_halts : {T : Type 0} (view : T → Option Member) (selection : Selection) (stop : Stop) → selection_at table reading read member name ≡ Ok selection →
        GivesSeen {T = T} view (Err stop) (member_behind table member selection names) → Gives {T = List Selection} (Err stop) whole
    behind_halts view selection (broken_by broken) is h = sym stepped ∙ rw (is, h) refl
    behind_halts view selection no_memory is h = tt

  pub selections_end : (made : List Selection) (member : Option Member) (whole : Outcome (List Selection)) → and_then (selections table reading read member []) (λ more. Ok (made ++ more)) ≡ whole → whole ≡ Ok made
  selections_end made member whole before = sym before ∙ ap Ok (append-nil made)

-- ---- all elements

pub more_of_none : (o : Outcome (List (Member × Index))) → elements_more [] o ≡ o
more_of_none (Ok more) = refl
more_of_none (Err broken) = refl

module _ (table : Table) (reading : Reading) (place : Place) (member : Member) where
  pub below_by : (selection : Selection) (others : List Selection) →
      elements_below table reading place member (selection ∷ others) ≡ and_then (agrees reading place selection member) (λ _. each_below table reading place member others (selected selection.dims selection.subs))
  below_by selection [] = refl
  below_by selection (next ∷ others) = refl

  module _ (next : Selection) (others : List Selection) (before : List (Member × Index)) (index : Index) (indices : List Index) where
    abbrev each_rest : Outcome (List (List (Member × Index)))
    each_rest = each (λ index. and_then (component_behind table next.place member index next.name) (λ part. elements_below table reading place part (next ∷ others))) indices

    pub each_step : elements_more before (each_below table reading place member (next ∷ others) (index ∷ indices))
        ≡ and_then (component_behind table next.place member index next.name) (λ part. and_then (elements_below table reading place part (next ∷ others)) (λ elements. elements_more (before ++ elements) (each_below table reading place member (next ∷ others) indices)))
    each_step = first (component_behind table next.place member index next.name)
      where
        third : (elements : List (Member × Index)) (o : Outcome (List (List (Member × Index)))) →
            elements_more before (and_then {B = List (Member × Index)} (and_then {B = List (List (Member × Index))} o (λ values. Ok (elements ∷ values))) (λ lists. Ok (joined lists)))
            ≡ elements_more (before ++ elements) (and_then o (λ lists. Ok (joined lists)))
        third elements (Ok lists) = ap Ok (sym (append_assoc before elements (joined lists)))
        third elements (Err broken) = refl

        second : (o : Outcome (List (Member × Index))) →
            elements_more before (and_then {B = List (Member × Index)} (and_then {B = List (List (Member × Index))} o (λ value. and_then each_rest (λ values. Ok (value ∷ values)))) (λ lists. Ok (joined lists)))
            ≡ and_then o (λ elements. elements_more (before ++ elements) (and_then each_rest (λ lists. Ok (joined lists))))
        second (Ok elements) = third elements each_rest
        second (Err broken) = refl

        first : (o : Outcome Member) →
            elements_more before (and_then {B = List (Member × Index)} (and_then {B = List (List (Member × Index))} (and_then o (λ part. elements_below table reading place part (next ∷ others))) (λ value. and_then each_rest (λ values. Ok (value ∷ values)))) (λ lists. Ok (joined lists)))
            ≡ and_then o (λ part. and_then (elements_below table reading place part (next ∷ others)) (λ elements. elements_more (before ++ elements) (and_then each_rest (λ lists. Ok (joined lists)))))
        first (Ok part) = second (elements_below table reading place part (next ∷ others))
        first (Err broken) = refl

-- ---- whether an element agrees

pub agrees_by : (reading : Reading) (place : Place) (selection : Selection) (member : Member) →
    agrees reading place selection member ≡ and_then (dims_there reading selection.place member) (λ dims. if are_equal dims selection.dims then fine else breaks WRONG_SIZE place)
agrees_by reading place selection member =
    sym (then_then (there reading selection.place member) (λ _. reading.dims member) (λ dims. if are_equal dims selection.dims then fine else breaks WRONG_SIZE place))

pub dims_agree : (reading : Reading) (place : Place) (selection : Selection) (member : Member) (dims : Dims) (b : Bool) → dims_there reading selection.place member ≡ Ok dims → are_equal dims selection.dims ≡ b →
    agrees reading place selection member ≡ (if b then fine else breaks WRONG_SIZE place)
dims_agree reading place selection member dims b is same = agrees_by reading place selection member ∙ rw (is, same) refl

pub agrees_halts : (reading : Reading) (place : Place) (selection : Selection) (member : Member) (stop : Stop) → Gives {T = Dims} (Err stop) (dims_there reading selection.place member) →
    Gives {T = Unit {0}} (Err stop) (agrees reading place selection member)
agrees_halts reading place selection member (broken_by broken) h = agrees_by reading place selection member ∙ rw h refl
agrees_halts reading place selection member no_memory h = tt
