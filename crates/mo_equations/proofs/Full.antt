-- An end of a connect has as many elements as its dimensions say.
use Rattle.std.proofs.Common.{◌≡◌, ℕ, suc, ◌+◌, ◌*◌, Bool, true, false, List, [], ◌∷◌, ◌++◌, flat_map, map, length, Option, Some, None, Ok, Err, refl, sym, ap, ◌∙◌, subst, arith, if◌then◌else◌, nat_eq}
use Rattle.std.specs.Prelude.{is_ok}
use Rattle.std.proofs.Math.Nat.{mul_assoc, suc-mul}
use Rattle.std.proofs.lemmas.List.{append-nil, length-append, length-map}
use Rattle.mo_syntax.specs.Outcome.{Outcome, and_then}
use Rattle.mo_syntax.specs.declared.expr.Expr.{Expr}
use Rattle.mo_syntax.specs.declared.expr.PartOf.{PartOf}
use Rattle.mo_syntax.specs.declared.expr.ReferenceOf.{ReferenceOf}
use Rattle.mo_syntax.specs.declared.place.Place.{Place}
use Rattle.mo_flat.specs.declared.array.Subscript.{Subscript}
use Rattle.mo_flat.specs.declared.array.Subscript.TheVariants.{All, One, Many}
use Rattle.mo_flat.specs.declared.connect.End.{End}
use Rattle.mo_flat.specs.declared.connect.Side.{Side}
use Rattle.mo_flat.specs.declared.connect.Side.TheVariants.{Inside, Outside, Neither}
use Rattle.mo_flat.specs.SoundArray.{element_count}
use Rattle.mo_scope.specs.Frames.{Member, Scope}
use Rattle.mo_scope.specs.Places.{Every}
use Rattle.mo_scope.specs.Rows.{Table}
use Rattle.mo_typing.specs.Dims.{Dims, kept, subscripted}
use Rattle.mo_typing.specs.Indices.{Index}
use Rattle.mo_typing.specs.Outcome.{each}
use Rattle.mo_typing.specs.Shape.{size_of}
use Rattle.mo_typing.specs.Subscripts.{Checked, both, fine, subscript, subscripts}
use Rattle.mo_eval.specs.Components.{reader}
use Rattle.mo_eval.specs.Contexts.{Part}
use Rattle.mo_eval.specs.Ends.{Selected, first_identifier, reading_of_end, selected_from, unless_removed, with_parts}
use Rattle.mo_eval.specs.References.{Components, Found_at, Named, Selection, agrees, component_behind, dims_at, elements_below, elements_selected, every as every_of, handed_in, is_inside, joined, kept_dims, named, next_member, read_subscript, read_subscripts, selection_at, selections}
use Rattle.mo_values.specs.Selected.{emptied, selected, selected_numbers}
use Rattle.mo_values.specs.Scalars.{Known}
use Rattle.mo_eval.specs.Values.{most_references, reading}
use Rattle.mo_eval.specs.Virtuals.{Element, Reading}
use Rattle.mo_equations.specs.Leaves.{Tree}
use Rattle.mo_equations.specs.Ends.{end_of, end_with, leaves_of, no_connector, side_of}
use Rattle.mo_equations.specs.steps.Checking.{IsFull}
use Rattle.mo_equations.proofs.EndLemmas.{comes, end_made, none_is, some_is, with_named, with_selected}
use Rattle.mo_equations.proofs.Ranged.{length_numbers}

-- ---- counts

abbrev good : {A : Type 0} → A → Outcome A
good a = Ok a

one_good : {A : Type 0} (a b : A) → good a ≡ good b → a ≡ b
one_good {A} a b e = ap value_in e
  where
    value_in : Outcome A → A
    value_in (Ok x) = x
    value_in (Err x) = a

count_both : (a b : List ℕ) → element_count (a ++ b) ≡ element_count a * element_count b
count_both [] b = omega arith
count_both (n ∷ a) b = ap (λ (k : ℕ). n * k) (count_both a b) ∙ sym (mul_assoc n (element_count a) (element_count b))

kept_count : (n : ℕ) (sub : Subscript) (subs : List Subscript) → element_count (kept (sub ∷ subs) n) ≡ length (selected_numbers n sub)
kept_count n All subs = let many = length_numbers n in omega (arith, many)
kept_count n (One place k) subs = refl
kept_count n (Many place ks) subs = let many = length-map ks size_of in omega (arith, many)

flat_length : {A B : Type 0} (f : A → List B) (m : ℕ) → ((a : A) → length (f a) ≡ m) → (xs : List A) → length (flat_map f xs) ≡ length xs * m
flat_length f m h [] = omega arith
flat_length {A} {B} f m h (x ∷ xs) =
    length-append (f x) (flat_map f xs) ∙ (ap (λ (k : ℕ). k + length (flat_map f xs)) (h x) ∙ (ap (λ (k : ℕ). m + k) (flat_length f m h xs) ∙ one_more (length xs) m))
  where
    one_more : (k m : ℕ) → m + k * m ≡ suc k * m
    one_more k m = omega (arith, suc-mul k m)

-- as many indices as the dimensions that are kept have elements
selected_count : (dims : Dims) (subs : List Subscript) → length subs ≡ length dims → length (selected dims subs) ≡ element_count (subscripted subs dims)
selected_count [] subs h = refl
selected_count (n ∷ dims) [] h = absurd (let clash : 0 ≡ suc (length dims) = h in omega (arith, clash))
selected_count (n ∷ dims) (sub ∷ subs) h =
    let less : length subs ≡ length dims = omega (arith, h) in
    flat_length (λ (k : ℕ). map (λ (index : Index). k ∷ index) (selected dims subs)) (length (selected dims subs)) (λ k. length-map (selected dims subs) (λ (index : Index). k ∷ index)) (selected_numbers n sub)
    ∙ (ap (λ (k : ℕ). k * length (selected dims subs)) (sym (kept_count n sub subs))
    ∙ (ap (λ (k : ℕ). element_count (kept (sub ∷ subs) n) * k) (selected_count dims subs less)
    ∙ sym (count_both (kept (sub ∷ subs) n) (subscripted subs dims))))

-- ---- one subscript for each dimension

abbrev IsPaired : Selection → Type 0
IsPaired selection = length selection.subs ≡ length selection.dims

module _ (read : Element → Outcome Known) where
  pairs : (dims : Dims) (subs : List (Option Part)) (made : List Subscript) → read_subscripts read dims subs ≡ Ok made → length made ≡ length dims
  pairs [] subs made h = ap (λ (xs : List Subscript). length xs) (sym (one_good [] made h))
  pairs (n ∷ dims) [] made h =
      let others = comes (read_subscripts read dims []) (λ xs. Ok (All ∷ xs)) made h in
      ap (λ (xs : List Subscript). length xs) (sym (one_good (All ∷ others.value) made others.then_is)) ∙ ap suc (pairs dims [] others.value others.first)
  pairs (n ∷ dims) (sub ∷ subs) made h =
      let first = comes (read_subscript read n sub) (λ x. and_then (read_subscripts read dims subs) (λ xs. Ok (x ∷ xs))) made h in
      let others = comes (read_subscripts read dims subs) (λ xs. Ok (first.value ∷ xs)) made first.then_is in
      ap (λ (xs : List Subscript). length xs) (sym (one_good (first.value ∷ others.value) made others.then_is)) ∙ ap suc (pairs dims subs others.value others.first)

  -- what the identifiers of a name select
  record AreSelected (chosen : List Selection) : Type 0 where
    first : Selection
    rest : List Selection
    is : chosen ≡ first ∷ rest
    paired : Every IsPaired (first ∷ rest)

  module _ (table : Table) (reading : Reading) where
    one_paired : (member : Option Member) (name : Member × PartOf Part) (selection : Selection) → selection_at table reading read member name ≡ Ok selection → IsPaired selection
    one_paired member name selection h =
        let dims = comes (dims_at table reading member name) (λ dims. and_then (read_subscripts read dims name.1.subs) (λ subs. Ok (record { name = name.1.name; place = name.1.place; dims = dims; subs = subs }))) selection h in
        let subs = comes (read_subscripts read dims.value name.1.subs) (λ subs. Ok (record { name = name.1.name; place = name.1.place; dims = dims.value; subs = subs })) selection dims.then_is in
        subst IsPaired (one_good (record { name = name.1.name; place = name.1.place; dims = dims.value; subs = subs.value }) selection subs.then_is) (pairs dims.value name.1.subs subs.value subs.first)

    all_paired : (member : Option Member) (name : Member × PartOf Part) (names : List (Member × PartOf Part)) (chosen : List Selection) → selections table reading read member (name ∷ names) ≡ Ok chosen → AreSelected chosen
    all_paired member name [] chosen h =
        let one = comes (selection_at table reading read member name) (λ selection. Ok (selection ∷ [])) chosen h in
        record { first = one.value; rest = []; is = sym (one_good (one.value ∷ []) chosen one.then_is); paired = (one_paired member name one.value one.first, tt) }
    all_paired member name (next ∷ names) chosen h =
        let one = comes (selection_at table reading read member name)
        (λ selection. and_then (subscripts selection.dims selection.subs) (λ _. and_then (next_member table member selection next.1) (λ behind. and_then (selections table reading read behind (next ∷ names)) (λ others. Ok (selection ∷ others))))) chosen h in
        let two = comes (subscripts one.value.dims one.value.subs) (λ _. and_then (next_member table member one.value next.1) (λ behind. and_then (selections table reading read behind (next ∷ names)) (λ others. Ok (one.value ∷ others)))) chosen one.then_is in
        let three = comes (next_member table member one.value next.1) (λ behind. and_then (selections table reading read behind (next ∷ names)) (λ others. Ok (one.value ∷ others))) chosen two.then_is in
        let four = comes (selections table reading read three.value (next ∷ names)) (λ others. Ok (one.value ∷ others)) chosen three.then_is in
        let more = all_paired three.value next names four.value four.first in
        record {
          first = one.value;
          rest = four.value;
          is = sym (one_good (one.value ∷ four.value) chosen four.then_is);
          paired = (one_paired member name one.value one.first, subst (Every IsPaired) (sym more.is) more.paired);
        }

-- ---- elements

abbrev Chosen : Type 0
Chosen = Member × Index

none_times : (m : ℕ) → 0 ≡ 0 * m
none_times m = omega arith

times_none : (n : ℕ) → n * 0 ≡ 0
times_none n = omega arith

each_count : (f : Index → Outcome (List Chosen)) (m : ℕ) → ((index : Index) (xs : List Chosen) → f index ≡ Ok xs → length xs ≡ m) → (indices : List Index) (lists : List (List Chosen)) → each f indices ≡ Ok lists →
    length (joined lists) ≡ length indices * m
each_count f m h [] lists e = ap (λ (ls : List (List Chosen)). length (joined ls)) (sym (one_good [] lists e)) ∙ none_times m
each_count f m h (index ∷ indices) lists e =
    let first = comes (f index) (λ x. and_then (each f indices) (λ xs. Ok (x ∷ xs))) lists e in
    let others = comes (each f indices) (λ xs. Ok (first.value ∷ xs)) lists first.then_is in
    ap (λ (ls : List (List Chosen)). length (joined ls)) (sym (one_good (first.value ∷ others.value) lists others.then_is))
    ∙ (length-append first.value (joined others.value)
    ∙ (ap (λ (k : ℕ). k + length (joined others.value)) (h index first.value first.first)
    ∙ (ap (λ (k : ℕ). m + k) (each_count f m h indices others.value others.first) ∙ one_more (length indices) m)))
  where
    one_more : (k m : ℕ) → m + k * m ≡ suc k * m
    one_more k m = omega (arith, suc-mul k m)

module _ (table : Table) (reading : Reading) (place : Place) where
  abbrev listed : Member → Selection → Outcome (List Chosen)
  listed member selection = Ok (map (λ index. (member, index)) (selected selection.dims selection.subs))

  abbrev below_at : Member → Selection → List Selection → Index → Outcome (List Chosen)
  below_at member next others index = and_then (component_behind table next.place member index next.name) (λ part. elements_below table reading place part (next ∷ others))

  below_count : (member : Member) (selection : Selection) (others : List Selection) (elements : List Chosen) → Every IsPaired (selection ∷ others) →
      elements_below table reading place member (selection ∷ others) ≡ Ok elements → length elements ≡ element_count (kept_dims (selection ∷ others))
  below_count member selection [] elements paired h =
      let one = comes (agrees reading place selection member) (λ _. listed member selection) elements h in
      ap (λ (xs : List Chosen). length xs) (sym (one_good (map (λ index. (member, index)) (selected selection.dims selection.subs)) elements one.then_is))
      ∙ (length-map (selected selection.dims selection.subs) (λ (index : Index). (member, index))
      ∙ (selected_count selection.dims selection.subs paired.0
      ∙ ap element_count (sym (append-nil (subscripted selection.subs selection.dims)))))
  below_count member selection (next ∷ others) elements paired h =
      let one = comes (agrees reading place selection member) (λ _. and_then (each (below_at member next others) (selected selection.dims selection.subs)) (λ lists. Ok (joined lists))) elements h in
      let two = comes (each (below_at member next others) (selected selection.dims selection.subs)) (λ lists. Ok (joined lists)) elements one.then_is in
      let more = λ (index : Index) (xs : List Chosen) (e : below_at member next others index ≡ Ok xs).
      (let part = comes (component_behind table next.place member index next.name) (λ part. elements_below table reading place part (next ∷ others)) xs e in
      below_count part.value next others xs paired.1 part.then_is) in
      ap (λ (xs : List Chosen). length xs) (sym (one_good (joined two.value) elements two.then_is))
      ∙ (each_count (below_at member next others) (element_count (kept_dims (next ∷ others))) more (selected selection.dims selection.subs) two.value two.first
      ∙ (ap (λ (k : ℕ). k * element_count (kept_dims (next ∷ others))) (selected_count selection.dims selection.subs paired.0)
      ∙ sym (count_both (subscripted selection.subs selection.dims) (kept_dims (next ∷ others)))))

-- ---- subscripts that lie outside

outside_step : (c rest : Checked) (n m : ℕ) → is_ok (both c rest) ≡ false → (is_ok rest ≡ false → m ≡ 0) → (if is_ok (both c fine) then n else 0) * m ≡ 0
outside_step (Ok u) rest n m h none = ap (λ (k : ℕ). n * k) (none h) ∙ times_none n
outside_step (Err b) rest n m h none = sym (none_times m)

emptied_none : (dims : Dims) (subs : List Subscript) → is_ok (subscripts dims subs) ≡ false → element_count (emptied dims subs) ≡ 0
emptied_none [] subs h = absurd (let clash : true ≡ false = h in cc)
emptied_none (n ∷ dims) [] h = absurd (let clash : true ≡ false = h in cc)
emptied_none (n ∷ dims) (sub ∷ subs) h = outside_step (subscript n sub) (subscripts dims subs) n (element_count (emptied dims subs)) h (emptied_none dims subs)

abbrev dims_in : List Selection → Dims
dims_in chosen = (handed_in chosen).0

abbrev handed : Bool → Dims × List Subscript → Dims × List Subscript → Dims
handed b one other = (if b then one else other).0

one_outside : (selection : Selection) (b : Bool) → is_ok (subscripts selection.dims selection.subs) ≡ b → b ≡ false →
    element_count (handed b (subscripted selection.subs selection.dims, []) (emptied selection.dims selection.subs, selection.subs)) ≡ 0
one_outside selection true e k = absurd (let clash : true ≡ false = k in cc)
one_outside selection false e k = emptied_none selection.dims selection.subs e

more_outside : (selection : Selection) (all : Dims × List Subscript) (behind : Dims) (subs : List Subscript) (b : Bool) → b ≡ false → element_count behind ≡ 0 →
    element_count (handed b all (subscripted selection.subs selection.dims ++ behind, subs)) ≡ 0
more_outside selection all behind subs true k h = absurd (let clash : true ≡ false = k in cc)
more_outside selection all behind subs false k h =
    count_both (subscripted selection.subs selection.dims) behind
    ∙ (ap (λ (m : ℕ). element_count (subscripted selection.subs selection.dims) * m) h ∙ times_none (element_count (subscripted selection.subs selection.dims)))

outside_none : (selection : Selection) (others : List Selection) → is_inside (selection ∷ others) ≡ false → element_count (dims_in (selection ∷ others)) ≡ 0
outside_none selection [] h = one_outside selection (is_ok (subscripts selection.dims selection.subs)) refl h
outside_none selection (next ∷ others) h =
    more_outside selection (kept_dims (selection ∷ next ∷ others), []) (dims_in (next ∷ others)) (every_of (subscripted selection.subs selection.dims) ++ (handed_in (next ∷ others)).1)
    (is_inside (next ∷ others)) h (outside_none next others h)

inside_dims : (selection : Selection) (others : List Selection) → is_inside (selection ∷ others) ≡ true → dims_in (selection ∷ others) ≡ kept_dims (selection ∷ others)
inside_dims selection [] h =
    ap (λ (b : Bool). handed b (subscripted selection.subs selection.dims, []) (emptied selection.dims selection.subs, selection.subs)) h ∙ sym (append-nil (subscripted selection.subs selection.dims))
inside_dims selection (next ∷ others) h =
    ap (λ (b : Bool). handed b (kept_dims (selection ∷ next ∷ others), [])
    (subscripted selection.subs selection.dims ++ dims_in (next ∷ others), every_of (subscripted selection.subs selection.dims) ++ (handed_in (next ∷ others)).1)) h

full_step : (table : Table) (reading : Reading) (place : Place) (member : Member) (selection : Selection) (others : List Selection) (elements : List Chosen) → Every IsPaired (selection ∷ others) →
    elements_selected table reading place member (selection ∷ others) ≡ Ok elements → length elements ≡ element_count (dims_in (selection ∷ others))
full_step table reading place member selection others elements paired h = by (is_inside (selection ∷ others)) refl h
  where
    by : (b : Bool) → is_inside (selection ∷ others) ≡ b → (if b then elements_below table reading place member (selection ∷ others) else good []) ≡ Ok elements →
        length elements ≡ element_count (dims_in (selection ∷ others))
    by true e k = below_count table reading place member selection others elements paired k ∙ ap element_count (sym (inside_dims selection others e))
    by false e k = ap (λ (xs : List Chosen). length xs) (sym (one_good [] elements k)) ∙ sym (outside_none selection others e)

-- what an end selects
abbrev with_elements : List Selection → List Chosen → Outcome Selected
with_elements chosen elements = Ok (record { chosen = chosen; elements = elements })

abbrev with_chosen : Table → Place → Member × PartOf Part → Reading → List Selection → Outcome Selected
with_chosen table place first read chosen = and_then (elements_selected table (reading_of_end read) place first.0 chosen) (with_elements chosen)

abbrev chosen_in : Table → Member × PartOf Part → List (Member × PartOf Part) → Reading → Outcome (List Selection)
chosen_in table first others read = selections table (reading_of_end read) (reader (reading table most_references)) (Some first.0) (first ∷ others)

abbrev with_reading : Table → Place → Member × PartOf Part → List (Member × PartOf Part) → Reading → Outcome Selected
with_reading table place first others read = and_then (chosen_in table first others read) (with_chosen table place first read)

selected_full : (table : Table) (place : Place) (first : Member × PartOf Part) (others : List (Member × PartOf Part)) (found : Selected) → selected_from table place first others ≡ Ok found →
    length found.elements ≡ element_count (dims_in found.chosen)
selected_full table place first others found h =
    let one = comes (reading table most_references place) (with_reading table place first others) found h in
    let two = comes (chosen_in table first others one.value) (with_chosen table place first one.value) found one.then_is in
    let three = comes (elements_selected table (reading_of_end one.value) place first.0 two.value) (with_elements two.value) found two.then_is in
    let are = all_paired (reader (reading table most_references)) table (reading_of_end one.value) (Some first.0) first others two.value two.first in
    let same = one_good {A = Selected} (record { chosen = two.value; elements = three.value }) found three.then_is in
    subst (λ (x : Selected). length x.elements ≡ element_count (dims_in x.chosen)) same
    (full_step table (reading_of_end one.value) place first.0 are.first are.rest three.value are.paired (subst (λ (chosen : List Selection). elements_selected table (reading_of_end one.value) place first.0 chosen ≡ Ok three.value) are.is three.first)
    ∙ ap (λ (chosen : List Selection). element_count (dims_in chosen)) (sym are.is))

-- ---- ends

made_full : (tree : Tree) (place : Place) (found : Selected) (side : Side) (end : End) → length found.elements ≡ element_count (dims_in found.chosen) →
    and_then (subscripts (handed_in found.chosen).0 (handed_in found.chosen).1) (λ _. good (end_made tree place found side)) ≡ Ok end → IsFull end
made_full tree place found side end full e =
    let one = comes (subscripts (handed_in found.chosen).0 (handed_in found.chosen).1) (λ u. good (end_made tree place found side)) end e in
    subst IsFull (one_good (end_made tree place found side) end one.then_is) (λ other. length-map found.elements (leaves_of tree) ∙ full)

with_full : (tree : Tree) (place : Place) (found : Selected) (side : Side) (end : End) → length found.elements ≡ element_count (dims_in found.chosen) → end_with tree place found side ≡ Ok end → IsFull end
with_full tree place found Neither end full e =
    subst IsFull (one_good (record { place = place; side = Neither; dims = (handed_in found.chosen).0; elements = [] }) end e) (λ other. absurd (other refl))
with_full tree place found Inside end full e = made_full tree place found Inside end full e
with_full tree place found Outside end full e = made_full tree place found Outside end full e

-- what is not removed is what was found
not_removed : (o : Outcome Selected) (found : Selected) → unless_removed o ≡ good (Some found) → o ≡ Ok found
not_removed (Ok x) found e = ap (λ (s : Selected). Ok s) (same x found e)
  where
    same : (a b : Selected) → good (Some a) ≡ good (Some b) → a ≡ b
    same a b e = some_is a b e
not_removed (Err b) found e = by (nat_eq b.rule 0) e
  where
    by : (c : Bool) → (if c then good {A = Option Selected} None else Err b) ≡ good (Some found) → Err b ≡ Ok found
    by true k = none_is found k
    by false k = absurd (let clash : ◌≡◌ {A = Outcome (Option Selected)} (Err b) (Ok (Some found)) = k in cc)

selected_is_full : (tree : Tree) (scope : Scope) (reference : ReferenceOf Expr) (found : Option Selected) (end : End) → ((x : Selected) → found ≡ Some x → length x.elements ≡ element_count (dims_in x.chosen)) →
    with_selected tree scope reference found ≡ Ok (Some end) → IsFull end
selected_is_full tree scope reference None end full e = none_is end e
selected_is_full tree scope reference (Some found) end full e =
    let one = comes (end_with tree (first_identifier reference.parts) found (side_of tree.classes scope reference)) (λ x. Ok (Some x)) (Some end) e in
    with_full tree (first_identifier reference.parts) found (side_of tree.classes scope reference) end (full found refl)
    (one.first ∙ ap good (some_is one.value end one.then_is))

without_full : (place : Place) (end : End) → good (Some (no_connector place)) ≡ good (Some end) → IsFull end
without_full place end e = subst IsFull (some_is (no_connector place) end e) (λ other. absurd (other refl))

named_full : (tree : Tree) (scope : Scope) (reference : ReferenceOf Expr) (found : Named) (end : End) → with_named tree scope reference found ≡ Ok (Some end) → IsFull end
named_full tree scope reference (Components []) end e = without_full (first_identifier reference.parts) end e
named_full tree scope reference (Found_at found at) end e = without_full (first_identifier reference.parts) end e
named_full tree scope reference (Components (first ∷ others)) end e =
    let place = first_identifier reference.parts in
    let one = comes (unless_removed (selected_from tree.classes place first others)) (with_selected tree scope reference) (Some end) e in
    selected_is_full tree scope reference one.value end
    (λ x is. selected_full tree.classes place first others x (not_removed (selected_from tree.classes place first others) x (one.first ∙ ap good is))) one.then_is

-- each end that is made of a name
pub end_full : (tree : Tree) (scope : Scope) (reference : ReferenceOf Expr) (end : End) → end_of tree scope reference ≡ Ok (Some end) → IsFull end
end_full tree scope reference end e =
    let one = comes (named tree.classes scope (with_parts tree.classes scope reference)) (with_named tree scope reference) (Some end) e in
    named_full tree scope reference one.value end one.then_is
