-- The numbers of variables and of unknowns: the i-th unknown is the variable whose place holds i.
use Rattle.std.proofs.Common.{◌≡◌, ℕ, zero, suc, ◌+◌, ◌<◌, ◌≤◌, Bool, true, false, List, [], ◌∷◌, Some, length, get_or, refl, subst, arith}
use Rattle.std.specs.Prelude.{if◌then◌else◌, slice_get}
use Rattle.std.specs.Option.{option_map}
use Rattle.mo_flat.specs.declared.model.FlatVar.{FlatVar}
use Rattle.mo_flat.specs.Roles.{is_unknown, is_unknown_role, unknowns_from, unknown_numbers}
use Rattle.mo_incidence.specs.steps.Gathered.{places_from, unknown_places}

-- us lists the unknowns among variables that are numbered from n on, ps by variable their numbers as unknowns, which begin
-- after c
pub record Numbered (n c : ℕ) (us ps : List ℕ) : Type 0 where
  pub later : (i : ℕ) → i < length us → n ≤ get_or us i 0
  pub above : (p : ℕ) → 0 < get_or ps p 0 → c < get_or ps p 0
  pub within : (p : ℕ) → get_or ps p 0 ≤ c + length us
  pub place : (i p : ℕ) → i < length us → get_or ps p 0 ≡ c + i + 1 → n + p ≡ get_or us i 0
  pub number : (i p : ℕ) → i < length us → n + p ≡ get_or us i 0 → get_or ps p 0 ≡ c + i + 1

none : (n c : ℕ) → Numbered n c [] []
none n c = record {
  later = λ i h. absurd (omega arith);
  above = λ p h. absurd (omega arith);
  within = λ p. omega arith;
  place = λ i p h e. absurd (omega arith);
  number = λ i p h e. absurd (omega arith);
}

unknown_later : (n c : ℕ) (us ps : List ℕ) → Numbered (n + 1) (c + 1) us ps → (i : ℕ) → i < length (n ∷ us) → n ≤ get_or (n ∷ us) i 0
unknown_later n c us ps r zero h = omega arith
unknown_later n c us ps r (suc i) h = let e = r.later i (omega arith) in omega arith

unknown_above : (n c : ℕ) (us ps : List ℕ) → Numbered (n + 1) (c + 1) us ps → (p : ℕ) → 0 < get_or ((c + 1) ∷ ps) p 0 → c < get_or ((c + 1) ∷ ps) p 0
unknown_above n c us ps r zero h = omega arith
unknown_above n c us ps r (suc p) h = let e = r.above p h in omega arith

unknown_within : (n c : ℕ) (us ps : List ℕ) → Numbered (n + 1) (c + 1) us ps → (p : ℕ) → get_or ((c + 1) ∷ ps) p 0 ≤ c + length (n ∷ us)
unknown_within n c us ps r zero = omega arith
unknown_within n c us ps r (suc p) = let e = r.within p in omega arith

unknown_place : (n c : ℕ) (us ps : List ℕ) → Numbered (n + 1) (c + 1) us ps → (i p : ℕ) → i < length (n ∷ us) → get_or ((c + 1) ∷ ps) p 0 ≡ c + i + 1 → n + p ≡ get_or (n ∷ us) i 0
unknown_place n c us ps r zero zero h e = omega arith
unknown_place n c us ps r zero (suc p) h e = let a = r.above p (omega arith) in absurd (omega arith)
unknown_place n c us ps r (suc i) zero h e = absurd (omega arith)
unknown_place n c us ps r (suc i) (suc p) h e = let a = r.place i p (omega arith) (omega arith) in omega arith

unknown_number : (n c : ℕ) (us ps : List ℕ) → Numbered (n + 1) (c + 1) us ps → (i p : ℕ) → i < length (n ∷ us) → n + p ≡ get_or (n ∷ us) i 0 → get_or ((c + 1) ∷ ps) p 0 ≡ c + i + 1
unknown_number n c us ps r zero zero h e = omega arith
unknown_number n c us ps r zero (suc p) h e = absurd (omega arith)
unknown_number n c us ps r (suc i) zero h e = let a = r.later i (omega arith) in absurd (omega arith)
unknown_number n c us ps r (suc i) (suc p) h e = let a = r.number i p (omega arith) (omega arith) in omega arith

unknown : (n c : ℕ) (us ps : List ℕ) → Numbered (n + 1) (c + 1) us ps → Numbered n c (n ∷ us) ((c + 1) ∷ ps)
unknown n c us ps r = record { later = unknown_later n c us ps r; above = unknown_above n c us ps r; within = unknown_within n c us ps r; place = unknown_place n c us ps r; number = unknown_number n c us ps r }

other_above : (n c : ℕ) (us ps : List ℕ) → Numbered (n + 1) c us ps → (p : ℕ) → 0 < get_or (0 ∷ ps) p 0 → c < get_or (0 ∷ ps) p 0
other_above n c us ps r zero h = absurd (omega arith)
other_above n c us ps r (suc p) h = r.above p h

other_within : (n c : ℕ) (us ps : List ℕ) → Numbered (n + 1) c us ps → (p : ℕ) → get_or (0 ∷ ps) p 0 ≤ c + length us
other_within n c us ps r zero = omega arith
other_within n c us ps r (suc p) = r.within p

other_place : (n c : ℕ) (us ps : List ℕ) → Numbered (n + 1) c us ps → (i p : ℕ) → i < length us → get_or (0 ∷ ps) p 0 ≡ c + i + 1 → n + p ≡ get_or us i 0
other_place n c us ps r i zero h e = absurd (omega arith)
other_place n c us ps r i (suc p) h e = let a = r.place i p h e in omega arith

other_number : (n c : ℕ) (us ps : List ℕ) → Numbered (n + 1) c us ps → (i p : ℕ) → i < length us → n + p ≡ get_or us i 0 → get_or (0 ∷ ps) p 0 ≡ c + i + 1
other_number n c us ps r i zero h e = let a = r.later i h in absurd (omega arith)
other_number n c us ps r i (suc p) h e = r.number i p h (omega arith)

other : (n c : ℕ) (us ps : List ℕ) → Numbered (n + 1) c us ps → Numbered n c us (0 ∷ ps)
other n c us ps r = record {
  later = λ i h. let a = r.later i h in omega arith;
  above = other_above n c us ps r;
  within = other_within n c us ps r;
  place = other_place n c us ps r;
  number = other_number n c us ps r;
}

by_role : (b : Bool) (n c : ℕ) (us ps qs : List ℕ) → Numbered (n + 1) (c + 1) us ps → Numbered (n + 1) c us qs →
    Numbered n c (if b then n ∷ us else us) (if b then (c + 1) ∷ ps else 0 ∷ qs)
by_role true n c us ps qs r q = unknown n c us ps r
by_role false n c us ps qs r q = other n c us qs q

numbered : (n c : ℕ) (vs : List FlatVar) → Numbered n c (unknowns_from n vs) (places_from c vs)
numbered n c [] = none n c
numbered n c (v ∷ vs) = by_role (is_unknown_role (Some v.role)) n c (unknowns_from (n + 1) vs) (places_from (c + 1) vs) (places_from c vs) (numbered (n + 1) (c + 1) vs) (numbered (n + 1) c vs)

pub numbered_all : (vars : List FlatVar) → Numbered 0 0 (unknown_numbers vars) (unknown_places vars)
numbered_all vars = other 0 0 (unknown_numbers vars) (places_from 0 vars) (numbered 1 0 vars)

-- the unknown is a variable with that role
abbrev IsAt : ℕ → List FlatVar → ℕ → Type 0
IsAt n vs u = (p : ℕ) × (u ≡ n + p) × (is_unknown_role (option_map (λ v. v.role) (slice_get vs p)) ≡ true)

at_later : (n : ℕ) (v : FlatVar) (vs : List FlatVar) (u : ℕ) → IsAt (n + 1) vs u → IsAt n (v ∷ vs) u
at_later n v vs u (p, e, h) = (suc p, (omega arith), h)

at_role : (n : ℕ) (v : FlatVar) (vs : List FlatVar) (us : List ℕ) → ((i : ℕ) → i < length us → IsAt (n + 1) vs (get_or us i 0)) → (b : Bool) → is_unknown_role (Some v.role) ≡ b →
    (i : ℕ) → i < length (if b then n ∷ us else us) → IsAt n (v ∷ vs) (get_or (if b then n ∷ us else us) i 0)
at_role n v vs us r true e zero h = (0, (omega arith), e)
at_role n v vs us r true e (suc i) h = at_later n v vs (get_or us i 0) (r i (omega arith))
at_role n v vs us r false e i h = at_later n v vs (get_or us i 0) (r i h)

unknowns_at : (n : ℕ) (vs : List FlatVar) (i : ℕ) → i < length (unknowns_from n vs) → IsAt n vs (get_or (unknowns_from n vs) i 0)
unknowns_at n [] i h = absurd (omega arith)
unknowns_at n (v ∷ vs) i h = at_role n v vs (unknowns_from (n + 1) vs) (unknowns_at (n + 1) vs) (is_unknown_role (Some v.role)) refl i h

at_is_unknown : (vars : List FlatVar) (u : ℕ) → IsAt 1 vars u → is_unknown vars u ≡ true
at_is_unknown vars u (p, e, h) = let same : suc p ≡ u = omega arith in subst (λ n. is_unknown vars n ≡ true) same h

pub unknowns_are : (vars : List FlatVar) (i : ℕ) → i < length (unknown_numbers vars) → is_unknown vars (get_or (unknown_numbers vars) i 0) ≡ true
unknowns_are vars i h = at_is_unknown vars (get_or (unknown_numbers vars) i 0) (unknowns_at 1 vars i h)
