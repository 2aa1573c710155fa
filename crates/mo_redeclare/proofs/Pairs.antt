-- The number in the comparison of classes: once it is greater than the number of pairs that are not being compared, a greater number
-- changes nothing.
use Rattle.std.proofs.Common.{◌≡◌, ℕ, zero, suc, ◌+◌, ◌*◌, ◌<◌, ◌≤◌, Bool, true, false, ◌&&◌, ◌||◌, [], ◌∷◌, length, Option, Some, None, Ok, nat_eq, refl, sym, ap, subst, ◌∙◌, arith, eqb-true, eq-eqb}
use Rattle.std.proofs.Math.Nat.{suc-mul}
use Rattle.std.proofs.lemmas.Nat.{mul-le}
use Rattle.std.specs.List.{list_any}
use Rattle.mo_syntax.specs.Outcome.{Outcome, and_then}
use mathlib.Core.Path.{fun_ext}
use Rattle.mo_syntax.specs.declared.place.Place.{Place}
use Rattle.mo_scope.specs.Rows.{Table, Row, row_at, number_of_classes}
use Rattle.mo_scope.specs.Frames.{Frame, class_of}
use Rattle.mo_scope.specs.Lookup.{Walked, asking_of, nothing_walked, walked}
use Rattle.mo_scope.specs.Compatible.{Compare, Pairs, compared, compared_frames, compatible, compatible_from, is_pair, with_pair}
use Rattle.mo_redeclare.proofs.Outcomes.{then_same}

-- ---- pairs that are not being compared

abbrev is_among : Pairs → ℕ → ℕ → Bool
is_among pairs new wanted = list_any (λ pair. nat_eq pair.0 new && nat_eq pair.1 wanted) pairs

abbrev weight : Bool → ℕ
weight true = 0
weight false = 1

-- how many classes of a table are not compared with one
abbrev others : Table → Pairs → ℕ → ℕ
others [] pairs new = 0
others (row ∷ table) pairs new = weight (is_among pairs new row.number) + others table pairs new

-- how many pairs of classes of two tables are not being compared
abbrev left_pairs : Table → Table → Pairs → ℕ
left_pairs [] table pairs = 0
left_pairs (row ∷ rows) table pairs = others table pairs row.number + left_pairs rows table pairs

lighter : (here there : Bool) → weight (here || there) ≤ weight there
lighter true true = omega arith
lighter true false = omega arith
lighter false there = omega arith

fewer_or_as_many : (table : Table) (pairs : Pairs) (c d new : ℕ) → others table ((c, d) ∷ pairs) new ≤ others table pairs new
fewer_or_as_many [] pairs c d new = omega arith
fewer_or_as_many (row ∷ table) pairs c d new =
    let here : weight (is_among ((c, d) ∷ pairs) new row.number) ≤ weight (is_among pairs new row.number) = lighter (nat_eq c new && nat_eq d row.number) (is_among pairs new row.number) in
    let rest : others table ((c, d) ∷ pairs) new ≤ others table pairs new = fewer_or_as_many table pairs c d new in
    omega arith

fewer_pairs_or_as_many : (rows table : Table) (pairs : Pairs) (c d : ℕ) → left_pairs rows table ((c, d) ∷ pairs) ≤ left_pairs rows table pairs
fewer_pairs_or_as_many [] table pairs c d = omega arith
fewer_pairs_or_as_many (row ∷ rows) table pairs c d =
    let here : others table ((c, d) ∷ pairs) row.number ≤ others table pairs row.number = fewer_or_as_many table pairs c d row.number in
    let rest : left_pairs rows table ((c, d) ∷ pairs) ≤ left_pairs rows table pairs = fewer_pairs_or_as_many rows table pairs c d in
    omega arith

now_among : (pairs : Pairs) (c d : ℕ) → is_among ((c, d) ∷ pairs) c d ≡ true
now_among pairs c d = rw (eq-eqb c c refl, eq-eqb d d refl) refl

-- a class of the table that it was not compared with is one less
fewer : (table : Table) (pairs : Pairs) (c d : ℕ) (found : Row) → is_among pairs c d ≡ false → row_at table d ≡ Some found → others table ((c, d) ∷ pairs) c < others table pairs c
fewer [] pairs c d found free is = absurd (cc)
fewer (row ∷ table) pairs c d found free is = at_first (λ other. fewer table pairs c d found free (rw other at is)) (nat_eq row.number d) refl
  where
    at_first : (nat_eq row.number d ≡ false → others table ((c, d) ∷ pairs) c < others table pairs c) →
        (b : Bool) → nat_eq row.number d ≡ b → others (row ∷ table) ((c, d) ∷ pairs) c < others (row ∷ table) pairs c
    at_first further true same =
        let here : row.number ≡ d = eqb-true row.number d same in
        let before : is_among pairs c row.number ≡ false = subst (λ (k : ℕ). is_among pairs c k ≡ false) (sym here) free in
        let after : is_among ((c, d) ∷ pairs) c row.number ≡ true = subst (λ (k : ℕ). is_among ((c, d) ∷ pairs) c k ≡ true) (sym here) (now_among pairs c d) in
        let was : weight (is_among pairs c row.number) ≡ 1 = ap weight before in
        let now : weight (is_among ((c, d) ∷ pairs) c row.number) ≡ 0 = ap weight after in
        let rest : others table ((c, d) ∷ pairs) c ≤ others table pairs c = fewer_or_as_many table pairs c d c in
        omega arith
    at_first further false other =
        let here : weight (is_among ((c, d) ∷ pairs) c row.number) ≤ weight (is_among pairs c row.number) = lighter (nat_eq c c && nat_eq d row.number) (is_among pairs c row.number) in
        let rest : others table ((c, d) ∷ pairs) c < others table pairs c = further other in
        omega arith

fewer_pairs : (rows table : Table) (pairs : Pairs) (c d : ℕ) (found with : Row) → is_among pairs c d ≡ false → row_at rows c ≡ Some found → row_at table d ≡ Some with →
    left_pairs rows table ((c, d) ∷ pairs) < left_pairs rows table pairs
fewer_pairs [] table pairs c d found with free is has = absurd (cc)
fewer_pairs (row ∷ rows) table pairs c d found with free is has =
    at_first (λ other. fewer_pairs rows table pairs c d found with free (rw other at is) has) (nat_eq row.number c) refl
  where
    at_first : (nat_eq row.number c ≡ false → left_pairs rows table ((c, d) ∷ pairs) < left_pairs rows table pairs) →
        (b : Bool) → nat_eq row.number c ≡ b → left_pairs (row ∷ rows) table ((c, d) ∷ pairs) < left_pairs (row ∷ rows) table pairs
    at_first further true same =
        let at : row.number ≡ c = eqb-true row.number c same in
        let here : others table ((c, d) ∷ pairs) row.number < others table pairs row.number = subst (λ (k : ℕ). others table ((c, d) ∷ pairs) k < others table pairs k) (sym at) (fewer table pairs c d with free has) in
        let rest : left_pairs rows table ((c, d) ∷ pairs) ≤ left_pairs rows table pairs = fewer_pairs_or_as_many rows table pairs c d in
        omega arith
    at_first further false other =
        let here : others table ((c, d) ∷ pairs) row.number ≤ others table pairs row.number = fewer_or_as_many table pairs c d row.number in
        let rest : left_pairs rows table ((c, d) ∷ pairs) < left_pairs rows table pairs = further other in
        omega arith

light : (b : Bool) → weight b ≤ 1
light true = omega arith
light false = omega arith

others_at_most : (table : Table) (pairs : Pairs) (new : ℕ) → others table pairs new ≤ length table
others_at_most [] pairs new = omega arith
others_at_most (row ∷ table) pairs new =
    let here : weight (is_among pairs new row.number) ≤ 1 = light (is_among pairs new row.number) in
    let rest : others table pairs new ≤ length table = others_at_most table pairs new in
    omega arith

at_most : (rows table : Table) (pairs : Pairs) → left_pairs rows table pairs ≤ length rows * length table
at_most [] table pairs = omega arith
at_most (row ∷ rows) table pairs =
    let here : others table pairs row.number ≤ length table = others_at_most table pairs row.number in
    let rest : left_pairs rows table pairs ≤ length rows * length table = at_most rows table pairs in
    let more : suc (length rows) * length table ≡ length rows * length table + length table = suc-mul (length rows) (length table) in
    omega arith

-- ---- the same comparison

-- a class that is not in the table is a leaf type
no_row : (table : Table) (n : ℕ) (place : Place) (frame : Frame) → 0 < n → row_at table (class_of frame) ≡ None → walked table n [] place frame ≡ Ok (nothing_walked (Some frame))
unfolding walked
no_row table zero place frame some none = absurd (omega arith)
no_row table (suc n) place frame some none = rw none refl

leaf_there : (table : Table) (compare compare' : Compare) (place : Place) (frame : Frame) (wanted : Walked) →
    compared table compare place (nothing_walked (Some frame)) wanted ≡ compared table compare' place (nothing_walked (Some frame)) wanted
leaf_there table compare compare' place frame wanted = by wanted.leaf refl
  where
    by : (leaf : Option Frame) → wanted.leaf ≡ leaf → compared table compare place (nothing_walked (Some frame)) wanted ≡ compared table compare' place (nothing_walked (Some frame)) wanted
    by None is = rw is refl
    by (Some leaf) is = rw is refl

leaf_behind : (table : Table) (compare compare' : Compare) (place : Place) (frame : Frame) (new : Walked) →
    compared table compare place new (nothing_walked (Some frame)) ≡ compared table compare' place new (nothing_walked (Some frame))
leaf_behind table compare compare' place frame new = by new.leaf refl
  where
    by : (leaf : Option Frame) → new.leaf ≡ leaf → compared table compare place new (nothing_walked (Some frame)) ≡ compared table compare' place new (nothing_walked (Some frame))
    by None is = rw is refl
    by (Some leaf) is = rw is refl

module _ (table : Table) (next next' : Pairs → Compare) (pairs : Pairs) (place : Place) (new wanted : Frame) where
  Same : Type 0
  Same = (row with : Row) → is_pair pairs new wanted ≡ false → row_at table (class_of new) ≡ Some row → row_at table (class_of wanted) ≡ Some with →
      next (with_pair pairs new wanted) ≡ next' (with_pair pairs new wanted)

  abbrev After : (Pairs → Compare) → Outcome Walked → Outcome Walked → Outcome (Unit {0})
  After by a b = and_then a (λ new_walked. and_then b (λ wanted_walked. compared table (by (with_pair pairs new wanted)) place new_walked wanted_walked))

  abbrev New : Outcome Walked
  New = (asking_of table).elements place new

  abbrev Wanted : Outcome Walked
  Wanted = (asking_of table).elements place wanted

  some_classes : 0 < number_of_classes table
  some_classes = omega arith

  same_after : Same → is_pair pairs new wanted ≡ false → (row with : Option Row) → row_at table (class_of new) ≡ row → row_at table (class_of wanted) ≡ with →
      After next New Wanted ≡ After next' New Wanted
  unfolding Same
  same_after same free None with is has =
      ap (λ a. After next a Wanted) (no_row table (number_of_classes table) place new some_classes is)
      ∙ then_same Wanted _ _ (λ w. leaf_there table (next (with_pair pairs new wanted)) (next' (with_pair pairs new wanted)) place new w)
      ∙ ap (λ a. After next' a Wanted) (sym (no_row table (number_of_classes table) place new some_classes is))
  same_after same free (Some row) None is has =
      ap (λ b. After next New b) (no_row table (number_of_classes table) place wanted some_classes has)
      ∙ then_same New _ _ (λ w. leaf_behind table (next (with_pair pairs new wanted)) (next' (with_pair pairs new wanted)) place wanted w)
      ∙ ap (λ b. After next' New b) (sym (no_row table (number_of_classes table) place wanted some_classes has))
  same_after same free (Some row) (Some with) is has =
      ap (λ (compare : Compare). and_then New (λ new_walked. and_then Wanted (λ wanted_walked. compared table compare place new_walked wanted_walked))) (same row with free is has)

  same_by : Same → compared_frames table next pairs place new wanted ≡ compared_frames table next' pairs place new wanted
  same_by same = by (is_pair pairs new wanted) refl
    where
      by : (b : Bool) → is_pair pairs new wanted ≡ b → compared_frames table next pairs place new wanted ≡ compared_frames table next' pairs place new wanted
      by true e = rw e refl
      by false e = rw e (same_after same e (row_at table (class_of new)) (row_at table (class_of wanted)) refl refl)

one_more_at : (table : Table) (left : ℕ) (place : Place) (pairs : Pairs) → left_pairs table table pairs < left → (new wanted : Frame) →
    compatible_from table left place pairs new wanted ≡ compatible_from table (suc left) place pairs new wanted
unfolding compatible_from Same
one_more_at table zero place pairs less new wanted = absurd (omega arith)
one_more_at table (suc left) place pairs less new wanted =
    same_by table (compatible_from table left place) (compatible_from table (suc left) place) pairs place new wanted
    (λ row with free is has. fun_ext (λ a. fun_ext (λ b. one_more_at table left place (with_pair pairs new wanted) (further row with free is has) a b)))
  where
    further : (row with : Row) → is_pair pairs new wanted ≡ false → row_at table (class_of new) ≡ Some row → row_at table (class_of wanted) ≡ Some with →
        left_pairs table table (with_pair pairs new wanted) < left
    further row with free is has =
        let one_less : left_pairs table table (with_pair pairs new wanted) < left_pairs table table pairs = fewer_pairs table table pairs (class_of new) (class_of wanted) row with free is has in
        omega arith

-- More changes nothing, once there are more than the pairs of classes of the table that are not being compared.
pub greater_number : (table : Table) (left more : ℕ) (place : Place) (pairs : Pairs) → left_pairs table table pairs < left → (new wanted : Frame) →
    compatible_from table (more + left) place pairs new wanted ≡ compatible_from table left place pairs new wanted
greater_number table left zero place pairs less new wanted = rw (zero_plus left)
  where
    zero_plus : (n : ℕ) → 0 + n ≡ n
    zero_plus n = omega arith
greater_number table left (suc more) place pairs less new wanted =
    rw (suc_plus more left) (sym (one_more_at table (more + left) place pairs (omega arith) new wanted) ∙ greater_number table left more place pairs less new wanted)
  where
    suc_plus : (a b : ℕ) → suc a + b ≡ suc (a + b)
    suc_plus a b = omega arith

-- The number of pairs of classes is enough, whatever pairs are being compared.
enough : (table : Table) (pairs : Pairs) → left_pairs table table pairs < number_of_classes table * number_of_classes table
enough table pairs =
    let few : left_pairs table table pairs ≤ length table * length table = at_most table table pairs in
    let below : length table ≤ number_of_classes table = omega arith in
    let above : suc (length table) ≤ number_of_classes table = omega arith in
    let wider : length table * length table ≤ length table * number_of_classes table = mul-le (length table) (length table) (length table) (number_of_classes table) (omega arith) below in
    let one_more : suc (length table) * number_of_classes table ≡ length table * number_of_classes table + number_of_classes table = suc-mul (length table) (number_of_classes table) in
    let all : suc (length table) * number_of_classes table ≤ number_of_classes table * number_of_classes table = mul-le (suc (length table)) (number_of_classes table) (number_of_classes table) (number_of_classes table) above (omega arith) in
    omega arith

pub number_is_enough : (table : Table) (more : ℕ) (place : Place) (pairs : Pairs) (new wanted : Frame) →
    compatible_from table (more + number_of_classes table * number_of_classes table) place pairs new wanted
    ≡ compatible_from table (number_of_classes table * number_of_classes table) place pairs new wanted
number_is_enough table more place pairs new wanted = greater_number table (number_of_classes table * number_of_classes table) more place pairs (enough table pairs) new wanted

-- So the comparison of two frames is the one definition applied to itself.
pub compatible_again : (table : Table) (place : Place) (new wanted : Frame) (more : ℕ) →
    compatible_from table (more + number_of_classes table * number_of_classes table) place [] new wanted ≡ compatible table place new wanted
compatible_again table place new wanted more = number_is_enough table more place [] new wanted
