-- What is read of virtual variables, and what that says of those before one of them.
use Rattle.std.proofs.Common.{◌≡◌, ℕ, zero, suc, ◌+◌, ◌-◌, ◌<◌, ◌≤◌, List, [], ◌∷◌, ◌++◌, map, take, length, length-append, Option, Some, None, Ok, refl, ap, sym, ◌∙◌, append_assoc, ⊎_elim, arith}
use Rattle.std.specs.Prelude.{fold, slice_get}
use Rattle.std.specs.Option.{option_map}
use Rattle.std.proofs.Math.ListN.{set, replicate}
use Rattle.std.proofs.lemmas.List.{length-replicate}
use Rattle.std.proofs.lemmas.Grind.{common_steps}
use Rattle.std.proofs.lemmas.Bool.{cases_lt}
use Rattle.std.proofs.lemmas.List.{append-nil}
use Rattle.std.proofs.lemmas.Option.{slice_get_past, slice_get-map}
use Rattle.mo_syntax.specs.Outcome.{Outcome}
use Rattle.mo_typing.specs.Indices.{or_else}
use Rattle.mo_values.specs.Scalars.{Known}
use Rattle.mo_eval.specs.Virtuals.{Element, Virtual, numbered, known_of_virtual, known_of_virtuals}
use Rattle.mo_values.specs.Told.{Reads, IsRead, AreRead, IsUnread}

-- ---- what each variable has, by those before it

grown : (Element → Outcome Known) → List (Outcome Known) → List Virtual → List (Outcome Known)
grown read before [] = []
grown read before (v ∷ vs) = known_of_virtual read before v ∷ grown read (before ++ known_of_virtual read before v ∷ []) vs

grows : (read : Element → Outcome Known) (before : List (Outcome Known)) (vs : List Virtual) →
    fold (λ before v. before ++ known_of_virtual read before v ∷ []) before vs ≡ before ++ grown read before vs
unfolding grown
grows read before [] = sym (append-nil before)
grows read before (v ∷ vs) =
    let x = known_of_virtual read before v in
    grows read (before ++ x ∷ []) vs ∙ append_assoc before (x ∷ []) (grown read (before ++ x ∷ []) vs)

grown_at : (read : Element → Outcome Known) (before : List (Outcome Known)) (vs : List Virtual) (k : ℕ) →
    slice_get (grown read before vs) k ≡ option_map (known_of_virtual read (before ++ take k (grown read before vs))) (slice_get vs k)
unfolding grown
grown_at read before [] k = refl
grown_at read before (v ∷ vs) zero = ap (λ xs. Some (known_of_virtual read xs v)) (sym (append-nil before))
grown_at read before (v ∷ vs) (suc k) =
    let x = known_of_virtual read before v in
    let more = grown read (before ++ x ∷ []) vs in
    grown_at read (before ++ x ∷ []) vs k
    ∙ ap (λ xs. option_map (known_of_virtual read xs) (slice_get vs k)) (append_assoc before (x ∷ []) (take k more))

-- what a variable has depends on those before it alone
pub known_of_virtual_at : (read : Element → Outcome Known) (vs : List Virtual) (k : ℕ) →
    slice_get (known_of_virtuals read vs) k ≡ option_map (known_of_virtual read (take k (known_of_virtuals read vs))) (slice_get vs k)
known_of_virtual_at read vs k =
    ap (λ xs. slice_get xs k) (grows read [] vs)
    ∙ (grown_at read [] vs k
    ∙ ap (λ xs. option_map (known_of_virtual read (take k xs)) (slice_get vs k)) (sym (grows read [] vs)))

pub told_at : (read : Element → Outcome Known) (vs : List Virtual) (k : ℕ) (it : Virtual) (outcome : Outcome Known) →
    slice_get vs k ≡ Some it → known_of_virtual read (take k (known_of_virtuals read vs)) it ≡ outcome → slice_get (known_of_virtuals read vs) k ≡ Some outcome
told_at read vs k it outcome found told =
    known_of_virtual_at read vs k
    ∙ (ap (option_map (known_of_virtual read (take k (known_of_virtuals read vs)))) found ∙ ap Some told)

-- ---- what is read

pub read_or_undecided : Option (Outcome Known) → Outcome Known
read_or_undecided (Some told) = told
read_or_undecided None = Ok None

is_read : (it : Option (Option (Outcome Known))) → IsRead it (or_else (option_map read_or_undecided it) (Ok None))
unfolding read_or_undecided
is_read None = refl
is_read (Some None) = tt
is_read (Some (Some told)) = refl

-- there are variables of which that is read
pub some_read : (reads : Reads) → AreRead reads (numbered (map read_or_undecided reads))
some_read reads = record { each = λ n. rw (slice_get-map read_or_undecided reads (n - 1)) (is_read (slice_get reads (n - 1))) }

pub slice_take : {A : Type 0} (xs : List A) (k i : ℕ) → i < k → slice_get (take k xs) i ≡ slice_get xs i
slice_take xs zero i small = absurd (omega arith)
slice_take [] (suc k) i small = refl
slice_take (x ∷ xs) (suc k) zero small = refl
slice_take (x ∷ xs) (suc k) (suc i) small = slice_take xs k i (omega arith)

take_past : {A : Type 0} (xs : List A) (k i : ℕ) → k ≤ i → slice_get (take k xs) i ≡ None
take_past xs zero i all = refl
take_past [] (suc k) i all = refl
take_past (x ∷ xs) (suc k) zero all = absurd (omega arith)
take_past (x ∷ xs) (suc k) (suc i) all = take_past xs k i (omega arith)

-- those before one of them
pub before_read : (reads : Reads) (known : List (Outcome Known)) (k : ℕ) → AreRead reads (numbered known) → AreRead (take k reads) (numbered (take k known))
before_read reads known k are = record { each = λ n. ⊎_elim (inside n) (outside n) (cases_lt (n - 1) k) }
  where
    inside : (n : ℕ) → n - 1 < k → IsRead (slice_get (take k reads) (n - 1)) (numbered (take k known) n)
    inside n small = rw (slice_take reads k (n - 1) small, slice_take known k (n - 1) small) (are.each n)

    outside : (n : ℕ) → k ≤ n - 1 → IsRead (slice_get (take k reads) (n - 1)) (numbered (take k known) n)
    outside n all = rw (take_past reads k (n - 1) all, take_past known k (n - 1) all) refl

-- one that is not read before another one
pub unread_before : (reads : Reads) (k n : ℕ) → IsUnread (take k reads) n → (n - 1 < k) × IsUnread reads n
unread_before reads k n is = ⊎_elim (λ (small : n - 1 < k). (small, sym (slice_take reads k (n - 1) small) ∙ is)) (λ (all : k ≤ n - 1). absurd (let e : ◌≡◌ {A = Option (Option (Outcome Known))} None (Some None) = sym (take_past reads k (n - 1) all) ∙ is in cc)) (cases_lt (n - 1) k)

-- ---- what is put down

set_same : {A : Type 0} (xs : List A) (i : ℕ) (v : A) → i < length xs → slice_get (set xs i v) i ≡ Some v
set_same [] i v small = absurd (grind (arith, common_steps))
set_same (x ∷ xs) zero v small = refl
set_same (x ∷ xs) (suc i) v small = set_same xs i v (omega arith)

set_other : {A : Type 0} (xs : List A) (i j : ℕ) (v : A) → (i ≡ j → ⊥) → slice_get (set xs i v) j ≡ slice_get xs j
set_other [] i j v apart = refl
set_other (x ∷ xs) zero zero v apart = absurd (apart refl)
set_other (x ∷ xs) zero (suc j) v apart = refl
set_other (x ∷ xs) (suc i) zero v apart = refl
set_other (x ∷ xs) (suc i) (suc j) v apart = set_other xs i j v (λ e. apart (ap suc e))

pub marked : (reads : Reads) (known : List (Outcome Known)) (k : ℕ) (outcome : Outcome Known) → AreRead reads (numbered known) → k < length reads → slice_get known k ≡ Some outcome →
    AreRead (set reads k (Some outcome)) (numbered known)
marked reads known k outcome are small has = record { each = λ n. ⊎_elim (λ (low : n - 1 < k). other n (λ e. absurd (omega arith))) (λ (high : k ≤ n - 1). ⊎_elim (λ (above : k < n - 1). other n (λ e. absurd (omega arith))) (λ (below : n - 1 ≤ k). same n (omega arith)) (cases_lt k (n - 1))) (cases_lt (n - 1) k) }
  where
    other : (n : ℕ) → (k ≡ n - 1 → ⊥) → IsRead (slice_get (set reads k (Some outcome)) (n - 1)) (numbered known n)
    other n apart = rw (set_other reads k (n - 1) (Some outcome) apart) (are.each n)

    same : (n : ℕ) → n - 1 ≡ k → IsRead (slice_get (set reads k (Some outcome)) (n - 1)) (numbered known n)
    same n e = rw (e, set_same reads k (Some outcome) small, has) refl

pub none_read : (known : List (Outcome Known)) (count : ℕ) → length known ≡ count → AreRead (replicate count None) (numbered known)
none_read known count counted = record { each = λ n. ⊎_elim (inside n) (outside n) (cases_lt (n - 1) count) }
  where
    replicated : (m i : ℕ) → i < m → ◌≡◌ {A = Option (Option (Outcome Known))} (slice_get (replicate m None) i) (Some None)
    replicated zero i small = absurd (omega arith)
    replicated (suc m) zero small = refl
    replicated (suc m) (suc i) small = replicated m i (omega arith)

    inside : (n : ℕ) → n - 1 < count → IsRead (slice_get (replicate count None) (n - 1)) (numbered known n)
    inside n small = rw (replicated count (n - 1) small) tt

    outside : (n : ℕ) → count ≤ n - 1 → IsRead (slice_get (replicate count None) (n - 1)) (numbered known n)
    outside n all = rw (slice_get_past known (n - 1) (omega arith), slice_get_past (replicate {A = Option (Outcome Known)} count None) (n - 1) (rw length-replicate all)) refl

-- how many are not read yet
abbrev pub unread_among : Reads → ℕ
unread_among [] = 0
unread_among (None ∷ reads) = suc (unread_among reads)
unread_among (Some told ∷ reads) = unread_among reads

pub fewer_unread : (reads : Reads) (k : ℕ) (outcome : Outcome Known) → slice_get reads k ≡ Some None → unread_among (set reads k (Some outcome)) < unread_among reads
fewer_unread [] k outcome is = absurd (let e : ◌≡◌ {A = Option (Option (Outcome Known))} None (Some None) = is in cc)
fewer_unread (None ∷ reads) zero outcome is = omega arith
fewer_unread (Some told ∷ reads) zero outcome is = absurd (let e : ◌≡◌ {A = Option (Option (Outcome Known))} (Some (Some told)) (Some None) = is in cc)
fewer_unread (None ∷ reads) (suc k) outcome is = let h = fewer_unread reads k outcome is in omega arith
fewer_unread (Some told ∷ reads) (suc k) outcome is = fewer_unread reads k outcome is

known_grows : (read : Element → Outcome Known) (before : List (Outcome Known)) (vs : List Virtual) →
    length (fold (λ before virtual. before ++ known_of_virtual read before virtual ∷ []) before vs) ≡ length before + length vs
known_grows read before [] = omega arith
known_grows read before (v ∷ vs) =
    known_grows read (before ++ known_of_virtual read before v ∷ []) vs ∙ omega (arith, length-append before (known_of_virtual read before v ∷ []))

pub length_known : (read : Element → Outcome Known) (vs : List Virtual) → length (known_of_virtuals read vs) ≡ length vs
length_known read vs = known_grows read [] vs ∙ omega arith
