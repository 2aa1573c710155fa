-- The number in the elements of frames: once it is greater than the number of classes whose bases are not being found, a greater number
-- changes nothing.
use Rattle.std.proofs.Common.{◌≡◌, ℕ, zero, suc, ◌+◌, ◌<◌, ◌≤◌, Bool, true, false, ◌||◌, List, [], ◌∷◌, ◌++◌, length, Option, Some, None, nat_eq, refl, sym, ap, ◌∙◌, arith, eqb-true, eq-eqb}
use Rattle.mo_syntax.specs.Outcome.{Outcome}
use mathlib.Core.Path.{fun_ext}
use Rattle.mo_syntax.specs.declared.place.Place.{Place}
use Rattle.mo_scope.specs.Rows.{Table, Row, row_at, number_of_classes}
use Rattle.mo_scope.specs.Frames.{Frame, class_of}
use Rattle.mo_scope.specs.Lookup.{Walked, contains, walked, walked_by, walked_class, with_busy}

-- ---- classes whose bases are not being found

abbrev pub weight : Bool → ℕ
weight true = 0
weight false = 1

-- how many classes of the table are not among these
abbrev pub others : Table → List ℕ → ℕ
others [] busy = 0
others (row ∷ table) busy = weight (contains busy row.number) + others table busy

none_busy : (table : Table) → others table [] ≤ length table
none_busy [] = omega arith
none_busy (row ∷ table) = let rest : others table [] ≤ length table = none_busy table in omega arith

contains_more : (busy : List ℕ) (c n : ℕ) → contains (busy ++ c ∷ []) n ≡ (contains busy n || nat_eq c n)
contains_more [] c n = or_false (nat_eq c n)
  where
    or_false : (b : Bool) → (b || false) ≡ b
    or_false true = refl
    or_false false = refl
contains_more (m ∷ busy) c n = step (nat_eq m n) _ _ (contains_more busy c n)
  where
    step : (here more less : Bool) → more ≡ (less || nat_eq c n) → (here || more) ≡ ((here || less) || nat_eq c n)
    step true more less e = refl
    step false more less e = e

lighter : (more less here : Bool) → more ≡ (less || here) → weight more ≤ weight less
lighter more true here e = rw e (omega arith)
lighter more false true e = rw e (omega arith)
lighter more false false e = rw e (omega arith)

fewer_or_as_many : (table : Table) (busy : List ℕ) (c : ℕ) → others table (busy ++ c ∷ []) ≤ others table busy
fewer_or_as_many [] busy c = omega arith
fewer_or_as_many (row ∷ table) busy c =
    let here : weight (contains (busy ++ c ∷ []) row.number) ≤ weight (contains busy row.number) = lighter _ _ _ (contains_more busy c row.number) in
    let rest : others table (busy ++ c ∷ []) ≤ others table busy = fewer_or_as_many table busy c in
    omega arith

-- a class of the table that was not among them is one less
fewer : (table : Table) (busy : List ℕ) (c : ℕ) (found : Row) → contains busy c ≡ false → row_at table c ≡ Some found → others table (busy ++ c ∷ []) < others table busy
fewer [] busy c found e is = absurd (cc)
fewer (row ∷ table) busy c found e is = at_first (λ other. fewer table busy c found e (rw other at is)) (nat_eq row.number c) refl
  where
    at_first : (nat_eq row.number c ≡ false → others table (busy ++ c ∷ []) < others table busy) →
        (b : Bool) → nat_eq row.number c ≡ b → others (row ∷ table) (busy ++ c ∷ []) < others (row ∷ table) busy
    at_first further true same =
        let here : row.number ≡ c = eqb-true row.number c same in
        let before : contains busy row.number ≡ false = rw here e in
        let after : contains (busy ++ c ∷ []) row.number ≡ true = contains_more busy c row.number ∙ (rw (before, eq-eqb c row.number (sym here))) in
        let rest : others table (busy ++ c ∷ []) ≤ others table busy = fewer_or_as_many table busy c in
        rw (before, after) (omega arith)
    at_first further false other =
        let here : weight (contains (busy ++ c ∷ []) row.number) ≤ weight (contains busy row.number) = lighter _ _ _ (contains_more busy c row.number) in
        let rest : others table (busy ++ c ∷ []) < others table busy = further other in
        omega arith

-- ---- the same elements

module _ (table : Table) (ask ask' : List ℕ → Place → Frame → Outcome Walked) (busy : List ℕ) (place : Place) (frame : Frame) where
  Same : Type 0
  Same = (row : Row) → contains busy (class_of frame) ≡ false → row_at table (class_of frame) ≡ Some row → ask (with_busy busy frame) ≡ ask' (with_busy busy frame)

  same_class : Same → contains busy (class_of frame) ≡ false → (row : Option Row) → row_at table (class_of frame) ≡ row →
      walked_class table (record { busy = with_busy busy frame; elements = ask (with_busy busy frame) }) frame row
      ≡ walked_class table (record { busy = with_busy busy frame; elements = ask' (with_busy busy frame) }) frame row
  unfolding Same
  same_class same free None is = refl
  same_class same free (Some row) is =
      ap (λ elements. walked_class table (record { busy = with_busy busy frame; elements = elements }) frame (Some row)) (same row free is)

  same_by : Same → walked_by table ask busy place frame ≡ walked_by table ask' busy place frame
  same_by same = by (contains busy (class_of frame)) refl
    where
      by : (b : Bool) → contains busy (class_of frame) ≡ b → walked_by table ask busy place frame ≡ walked_by table ask' busy place frame
      by true e = rw e refl
      by false e = rw e (same_class same e (row_at table (class_of frame)) refl)

one_more_at : (table : Table) (left : ℕ) (busy : List ℕ) → others table busy < left → (place : Place) (frame : Frame) →
    walked table left busy place frame ≡ walked table (suc left) busy place frame
unfolding walked Same
one_more_at table zero busy less place frame = absurd (omega arith)
one_more_at table (suc left) busy less place frame =
    same_by table (walked table left) (walked table (suc left)) busy place frame
    (λ row free is. fun_ext (λ asked. fun_ext (λ base. one_more_at table left (with_busy busy frame) (next row free is) asked base)))
  where
    next : (row : Row) → contains busy (class_of frame) ≡ false → row_at table (class_of frame) ≡ Some row → others table (with_busy busy frame) < left
    next row free is = let one_less : others table (with_busy busy frame) < others table busy = fewer table busy (class_of frame) row free is in omega arith

one_more : (table : Table) (left : ℕ) (busy : List ℕ) → others table busy < left → walked table left busy ≡ walked table (suc left) busy
one_more table left busy less = fun_ext (λ place. fun_ext (λ frame. one_more_at table left busy less place frame))

-- More changes nothing, once there are more than the classes of the table that are not having their bases found.
pub greater_number : (table : Table) (left more : ℕ) (busy : List ℕ) → others table busy < left → walked table (more + left) busy ≡ walked table left busy
greater_number table left zero busy less = rw (zero_plus left)
  where
    zero_plus : (n : ℕ) → 0 + n ≡ n
    zero_plus n = omega arith
greater_number table left (suc more) busy less =
    rw (suc_plus more left) (sym (one_more table (more + left) busy (omega arith)) ∙ greater_number table left more busy less)
  where
    suc_plus : (a b : ℕ) → suc a + b ≡ suc (a + b)
    suc_plus a b = omega arith

-- The number of classes is enough, whatever classes are having their bases found.
enough : (table : Table) (busy : List ℕ) → others table busy < number_of_classes table
enough table busy = let few : others table busy ≤ length table = at_most table busy in omega arith
  where
    light : (b : Bool) → weight b ≤ 1
    light true = omega arith
    light false = omega arith

    at_most : (table : Table) (busy : List ℕ) → others table busy ≤ length table
    at_most [] busy = omega arith
    at_most (row ∷ table) busy =
        let here : weight (contains busy row.number) ≤ 1 = light (contains busy row.number) in
        let rest : others table busy ≤ length table = at_most table busy in omega arith

pub number_is_enough : (table : Table) (more : ℕ) (busy : List ℕ) → walked table (more + number_of_classes table) busy ≡ walked table (number_of_classes table) busy
number_is_enough table more busy = greater_number table (number_of_classes table) more busy (enough table busy)
