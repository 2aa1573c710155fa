-- Unknowns by their numbers, variables that stay, and what is said of the gone ones.
use Rattle.std.proofs.Common.{◌≡◌, ℕ, zero, suc, ◌+◌, ◌<◌, ◌≤◌, Bool, true, false, inl, inr, List, [], ◌∷◌, Some, None, Contains, get_or, length, map, refl, sym, ap, ◌∙◌, arith, if◌then◌else◌}
use Rattle.std.specs.Prelude.{slice_get}
use Rattle.std.specs.Option.{option_map}
use Rattle.std.proofs.lemmas.Bool.{cases_eq, cases_lt, eq-eqb, ne_eqb}
use Rattle.std.proofs.lemmas.List.{get_or_past}
use Rattle.mo_flat.specs.declared.model.FlatVar.{FlatVar}
use Rattle.mo_flat.specs.Roles.{is_unknown, is_unknown_role, unknown_numbers, unknowns_from}
use Rattle.mo_alias.specs.declared.found.Gone.{Gone}
use Rattle.mo_alias.specs.Numbers.{number_among, numbers_from, variable_of}
use Rattle.mo_alias.specs.Without.{gone_at, kept_from, kept_to}

-- ---- numbers

-- a variable with a number among the unknowns is an unknown, and that one
number_back : (n m : ℕ) (vs : List FlatVar) (i : ℕ) → i < length vs → 0 < get_or (numbers_from n vs) i 0
    → (j : ℕ) × (get_or (numbers_from n vs) i 0 ≡ suc (n + j)) × (get_or (unknowns_from m vs) j 0 ≡ m + i) × (j < length (unknowns_from m vs)) × (is_unknown_role (option_map (λ v. v.role) (slice_get vs i)) ≡ true)
number_back n m [] i l p = absurd (omega (arith, l))
number_back n m (x ∷ vs) zero l p = by (is_unknown_role (Some x.role)) refl p
  where
    by : (b : Bool) → is_unknown_role (Some x.role) ≡ b → 0 < get_or (if b then (n + 1) ∷ numbers_from (n + 1) vs else 0 ∷ numbers_from n vs) 0 0
        → (j : ℕ) × (get_or (if b then (n + 1) ∷ numbers_from (n + 1) vs else 0 ∷ numbers_from n vs) 0 0 ≡ suc (n + j)) × (get_or (if b then m ∷ unknowns_from (m + 1) vs else unknowns_from (m + 1) vs) j 0 ≡ m + 0)
        × (j < length (if b then m ∷ unknowns_from (m + 1) vs else unknowns_from (m + 1) vs)) × (is_unknown_role (Some x.role) ≡ true)
    by true e p = (0, omega arith, omega arith, omega arith, e)
    by false e p = absurd (omega (arith, p))
number_back n m (x ∷ vs) (suc i) l p =
    by (is_unknown_role (Some x.role)) p (λ q. number_back (n + 1) (m + 1) vs i (omega (arith, l)) q) (λ q. number_back n (m + 1) vs i (omega (arith, l)) q)
  where
    by : (b : Bool) → 0 < get_or (if b then (n + 1) ∷ numbers_from (n + 1) vs else 0 ∷ numbers_from n vs) (suc i) 0
        → (0 < get_or (numbers_from (n + 1) vs) i 0 → (j : ℕ) × (get_or (numbers_from (n + 1) vs) i 0 ≡ suc (n + 1 + j)) × (get_or (unknowns_from (m + 1) vs) j 0 ≡ m + 1 + i) × (j < length (unknowns_from (m + 1) vs))
        × (is_unknown_role (option_map (λ v. v.role) (slice_get vs i)) ≡ true))
        → (0 < get_or (numbers_from n vs) i 0 → (j : ℕ) × (get_or (numbers_from n vs) i 0 ≡ suc (n + j)) × (get_or (unknowns_from (m + 1) vs) j 0 ≡ m + 1 + i) × (j < length (unknowns_from (m + 1) vs))
        × (is_unknown_role (option_map (λ v. v.role) (slice_get vs i)) ≡ true))
        → (j : ℕ) × (get_or (if b then (n + 1) ∷ numbers_from (n + 1) vs else 0 ∷ numbers_from n vs) (suc i) 0 ≡ suc (n + j))
        × (get_or (if b then m ∷ unknowns_from (m + 1) vs else unknowns_from (m + 1) vs) j 0 ≡ m + suc i) × (j < length (if b then m ∷ unknowns_from (m + 1) vs else unknowns_from (m + 1) vs))
        × (is_unknown_role (option_map (λ v. v.role) (slice_get vs i)) ≡ true)
    by true p f g = let h = f p in (suc h.0, (let a = h.1 in omega (arith, a)), (let a = h.2 in omega (arith, a)), (let a = h.3 in omega (arith, a)), h.4)
    by false p f g = let h = g p in (h.0, h.1, (let a = h.2 in omega (arith, a)), h.3, h.4)

-- an unknown is a variable with its number
unknown_back : (n m : ℕ) (vs : List FlatVar) (j : ℕ) → j < length (unknowns_from m vs)
    → (i : ℕ) × (i < length vs) × (get_or (unknowns_from m vs) j 0 ≡ m + i) × (get_or (numbers_from n vs) i 0 ≡ suc (n + j)) × (is_unknown_role (option_map (λ v. v.role) (slice_get vs i)) ≡ true)
unknown_back n m [] j l = absurd (omega (arith, l))
unknown_back n m (x ∷ vs) j l = by (is_unknown_role (Some x.role)) refl j l (λ k low. unknown_back (n + 1) (m + 1) vs k low) (λ k low. unknown_back n (m + 1) vs k low)
  where
    by : (b : Bool) → is_unknown_role (Some x.role) ≡ b → (j : ℕ) → j < length (if b then m ∷ unknowns_from (m + 1) vs else unknowns_from (m + 1) vs)
        → ((k : ℕ) → k < length (unknowns_from (m + 1) vs) → (i : ℕ) × (i < length vs) × (get_or (unknowns_from (m + 1) vs) k 0 ≡ m + 1 + i) × (get_or (numbers_from (n + 1) vs) i 0 ≡ suc (n + 1 + k))
        × (is_unknown_role (option_map (λ v. v.role) (slice_get vs i)) ≡ true))
        → ((k : ℕ) → k < length (unknowns_from (m + 1) vs) → (i : ℕ) × (i < length vs) × (get_or (unknowns_from (m + 1) vs) k 0 ≡ m + 1 + i) × (get_or (numbers_from n vs) i 0 ≡ suc (n + k))
        × (is_unknown_role (option_map (λ v. v.role) (slice_get vs i)) ≡ true))
        → (i : ℕ) × (i < suc (length vs)) × (get_or (if b then m ∷ unknowns_from (m + 1) vs else unknowns_from (m + 1) vs) j 0 ≡ m + i)
        × (get_or (if b then (n + 1) ∷ numbers_from (n + 1) vs else 0 ∷ numbers_from n vs) i 0 ≡ suc (n + j)) × (is_unknown_role (option_map (λ v. v.role) (slice_get (x ∷ vs) i)) ≡ true)
    by true e zero l f g = (0, omega arith, omega arith, omega arith, e)
    by true e (suc k) l f g = let h = f k (omega (arith, l)) in (suc h.0, (let a = h.1 in omega (arith, a)), (let a = h.2 in omega (arith, a)), (let a = h.3 in omega (arith, a)), h.4)
    by false e j l f g = let h = g j l in (suc h.0, (let a = h.1 in omega (arith, a)), (let a = h.2 in omega (arith, a)), h.3, h.4)

module _ (vars : List FlatVar) where
  pub number_variable : (v : ℕ) → 0 < number_among vars v → (variable_of vars (number_among vars v) ≡ v) × (is_unknown vars v ≡ true) × (v ≤ length vars)
  number_variable zero p = absurd (omega (arith, p))
  number_variable (suc i) p = elim (cases_lt i (length vars)) [
    | inl l ↦
        let h = number_back 0 1 vars i l p in
        let number : number_among vars (suc i) ≡ suc h.0 = (let a = h.1 in omega (arith, a)) in
        (ap (variable_of vars) number ∙ (let a = h.2 in omega (arith, a)), h.4, omega (arith, l))
    | inr l ↦ absurd (
        let s : length (numbers_from 0 vars) ≡ length vars = same_length 0 vars in
        let past : get_or (numbers_from 0 vars) i 0 ≡ 0 = get_or_past (numbers_from 0 vars) i 0 (omega (arith, s, l)) in
        omega (arith, past, p))
  ]
    where
      same_length : (n : ℕ) (vs : List FlatVar) → length (numbers_from n vs) ≡ length vs
      same_length n [] = refl
      same_length n (x ∷ vs) = by (is_unknown_role (Some x.role)) (same_length (n + 1) vs) (same_length n vs)
        where
          by : (b : Bool) → length (numbers_from (n + 1) vs) ≡ length vs → length (numbers_from n vs) ≡ length vs
              → length (if b then (n + 1) ∷ numbers_from (n + 1) vs else 0 ∷ numbers_from n vs) ≡ suc (length vs)
          by true e f = ap suc e
          by false e f = ap suc f

  pub variable_number : (u : ℕ) → 0 < u → u ≤ length (unknown_numbers vars) → (number_among vars (variable_of vars u) ≡ u) × (is_unknown vars (variable_of vars u) ≡ true) × (variable_of vars u ≤ length vars)
  variable_number zero p l = absurd (omega (arith, p))
  variable_number (suc j) p l =
      let h = unknown_back 0 1 vars j (omega (arith, l)) in
      let w : variable_of vars (suc j) ≡ suc h.0 = (let a = h.2 in omega (arith, a)) in
      (ap (number_among vars) w ∙ (let a = h.3 in omega (arith, a)), ap (is_unknown vars) w ∙ h.4, (let a = h.1 in omega (arith, w, a)))

-- ---- what is kept

pub kept_at : {A : Type 0} (keep : ℕ → Bool) (m : ℕ) (xs : List A) (i : ℕ) → i < length xs → keep (suc m + i) ≡ true
    → (j : ℕ) × (kept_to keep (suc m + i) ≡ suc (kept_to keep m + j)) × (slice_get (kept_from keep (suc m) xs) j ≡ slice_get xs i)
kept_at keep m [] i l k = absurd (omega (arith, l))
kept_at keep m (x ∷ xs) zero l k =
    let same : suc m + 0 ≡ suc m = omega arith in
    let here : keep (suc m) ≡ true = ap keep (sym same) ∙ k in
    (0, ap (kept_to keep) same ∙ rw here (omega arith), rw here refl)
kept_at keep m (x ∷ xs) (suc i) l k =
    let moved : suc m + suc i ≡ suc (suc m) + i = omega arith in
    let next : suc m + 1 ≡ suc (suc m) = omega arith in
    let h = kept_at keep (suc m) xs i (omega (arith, l)) (ap keep (sym moved) ∙ k) in
    by (keep (suc m)) refl h.0 (ap (kept_to keep) moved ∙ h.1) (ap (λ w. slice_get (kept_from keep w xs) h.0) next ∙ h.2)
  where
    by : (b : Bool) → keep (suc m) ≡ b → (j : ℕ) → kept_to keep (suc m + suc i) ≡ suc (kept_to keep (suc m) + j) → slice_get (kept_from keep (suc m + 1) xs) j ≡ slice_get xs i
        → (j : ℕ) × (kept_to keep (suc m + suc i) ≡ suc (kept_to keep m + j)) × (slice_get (kept_from keep (suc m) (x ∷ xs)) j ≡ slice_get xs i)
    by true e j n s =
        let count : kept_to keep (suc m) ≡ suc (kept_to keep m) = rw e refl in
        (suc j, n ∙ omega (arith, count), rw e s)
    by false e j n s =
        let count : kept_to keep (suc m) ≡ kept_to keep m = rw e refl in
        (j, n ∙ omega (arith, count), rw e s)

pub kept_shorter : {A : Type 0} (keep : ℕ → Bool) (n : ℕ) (xs : List A) → length (kept_from keep n xs) ≤ length xs
kept_shorter keep n [] = omega arith
kept_shorter keep n (x ∷ xs) = by (keep n) (kept_shorter keep (n + 1) xs)
  where
    by : (b : Bool) → length (kept_from keep (n + 1) xs) ≤ length xs → length (if b then x ∷ kept_from keep (n + 1) xs else kept_from keep (n + 1) xs) ≤ suc (length xs)
    by true l = omega (arith, l)
    by false l = omega (arith, l)

-- what is kept is an element that is kept, by its number
pub kept_member : {A : Type 0} (keep : ℕ → Bool) (n : ℕ) (xs : List A) (x : A) → Contains (kept_from keep n xs) x → Contains xs x
kept_member keep n [] x h = h
kept_member keep n (y ∷ xs) x h = by (keep n) h (λ k. kept_member keep (n + 1) xs x k)
  where
    tail : Contains xs x → Contains (y ∷ xs) x
    tail k = (suc k.0, (let l = k.1 in omega (arith, l)), k.2)

    front : Contains (y ∷ kept_from keep (n + 1) xs) x → (Contains (kept_from keep (n + 1) xs) x → Contains xs x) → Contains (y ∷ xs) x
    front (zero, l, e) f = (0, omega arith, e)
    front (suc k, l, e) f = tail (f (k, omega (arith, l), e))

    by : (b : Bool) → Contains (if b then y ∷ kept_from keep (n + 1) xs else kept_from keep (n + 1) xs) x → (Contains (kept_from keep (n + 1) xs) x → Contains xs x) → Contains (y ∷ xs) x
    by true h f = front h f
    by false h f = tail (f h)

pub member_kept : {A : Type 0} (keep : ℕ → Bool) (n : ℕ) (xs : List A) (k : ℕ) (x : A) → k < length xs → get_or xs k x ≡ x → keep (n + k) ≡ true → Contains (kept_from keep n xs) x
member_kept keep n [] k x l e is = absurd (omega (arith, l))
member_kept keep n (y ∷ xs) zero x l e is =
    let here : keep n ≡ true = ap keep (let s : n ≡ n + 0 = omega arith in s) ∙ is in
    rw here (0, omega arith, e)
member_kept keep n (y ∷ xs) (suc k) x l e is =
    by (keep n) (member_kept keep (n + 1) xs k x (omega (arith, l)) e (ap keep (let s : n + 1 + k ≡ n + suc k = omega arith in s) ∙ is))
  where
    by : (b : Bool) → Contains (kept_from keep (n + 1) xs) x → Contains (if b then y ∷ kept_from keep (n + 1) xs else kept_from keep (n + 1) xs) x
    by true h = (suc h.0, (let m = h.1 in omega (arith, m)), h.2)
    by false h = h

-- ---- what is said of unknowns

pub gone_found : (gone : List Gone) (u : ℕ) (g : Gone) → gone_at gone u ≡ Some g → Contains gone g × (g.unknown ≡ u)
gone_found [] u g is = absurd (let f : None ≡ Some g = is in cc)
gone_found (h ∷ gone) u g is = elim (cases_eq h.unknown u) [
  | inl e ↦
      let here : Some h ≡ Some g = (rw (eq-eqb h.unknown u e) at is) in
      let same : h ≡ g = cc in
      ((0, omega arith, same), ap (λ (z : Gone). z.unknown) (sym same) ∙ e)
  | inr e ↦
      let there : gone_at gone u ≡ Some g = (rw (ne_eqb h.unknown u e) at is) in
      let k = gone_found gone u g there in
      ((suc k.0.0, (let l = k.0.1 in omega (arith, l)), k.0.2), k.1)
]

pub gone_listed : (gone : List Gone) (u : ℕ) → Contains (map (λ (z : Gone). z.unknown) gone) u → gone_at gone u ≡ None → ⊥
gone_listed [] u h is = let l = h.1 in omega (arith, l)
gone_listed (g ∷ gone) u h is = elim (cases_eq g.unknown u) [
  | inl e ↦ (let f : Some g ≡ None = (rw (eq-eqb g.unknown u e) at is) in cc)
  | inr e ↦ gone_listed gone u (tail h e) (rw (ne_eqb g.unknown u e) at is)
]
  where
    tail : Contains (map (λ (z : Gone). z.unknown) (g ∷ gone)) u → (g.unknown ≡ u → ⊥) → Contains (map (λ (z : Gone). z.unknown) gone) u
    tail (zero, l, e) ne = absurd (ne e)
    tail (suc k, l, e) ne = (k, omega (arith, l), e)
