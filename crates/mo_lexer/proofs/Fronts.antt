-- Fronts of a list, and tests of all its elements.
use Rattle.std.proofs.Common.{◌≡◌, ℕ, suc, ◌+◌, ◌<◌, ◌≤◌, ◌⊎◌, inl, inr, Bool, true, false, ◌&&◌, List, [], ◌∷◌, ◌++◌, length, take, refl, sym, arith}
use Rattle.std.specs.List.{list_all, prefix_len}

-- the text goes on from the front
pub record GoesOn (front text : List ℕ) (after rest : List ℕ) : Type 0 where
  pub more : List ℕ
  pub some : 0 < length more
  pub text_is : text ≡ front ++ more
  pub after_is : after ≡ more ++ rest

-- of two fronts of one list, they are the same, or one goes on
pub overlap : (s t a b : List ℕ) → s ++ a ≡ t ++ b → ((s ≡ t) × (a ≡ b)) ⊎ (GoesOn s t a b ⊎ GoesOn t s b a)
overlap [] [] a b e = inl (refl, e)
overlap [] (y ∷ t) a b e = inr (inl (record { more = y ∷ t; some = omega arith; text_is = refl; after_is = e }))
overlap (x ∷ s) [] a b e = inr (inr (record { more = x ∷ s; some = omega arith; text_is = refl; after_is = sym e }))
overlap (x ∷ s) (y ∷ t) a b e =
    let heads : x ≡ y = cc in
    let tails : s ++ a ≡ t ++ b = cc in
    elim (overlap s t a b tails) [
      | inl same ↦ inl (rw (heads, same.0) refl, same.1)
      | inr (inl on) ↦ inr (inl (record { more = on.more; some = on.some; text_is = rw (heads, on.text_is) refl; after_is = on.after_is }))
      | inr (inr on) ↦ inr (inr (record { more = on.more; some = on.some; text_is = rw (heads, on.text_is) refl; after_is = on.after_is }))
    ]

-- equal lists have equal heads and tails
pub first_is : (b n : ℕ) (t s : List ℕ) → b ∷ t ≡ n ∷ s → b ≡ n
first_is b n t s e = cc

pub tail_is : (b q : ℕ) (s t : List ℕ) → b ∷ s ≡ q ∷ t → s ≡ t
tail_is b q s t e = cc

pub both_hold : (a b : Bool) → (a && b) ≡ true → (a ≡ true) × (b ≡ true)
both_hold true true h = (refl, refl)
both_hold true false h = cc
both_hold false b h = cc

pub both : (a b : Bool) → a ≡ true → b ≡ true → (a && b) ≡ true
both a b e f = rw (e, f) refl

pub first_passes : (p : ℕ → Bool) (x : ℕ) (xs : List ℕ) → list_all p (x ∷ xs) ≡ true → p x ≡ true
first_passes p x xs h = (both_hold (p x) (list_all p xs) h).0

pub later_pass : (p : ℕ → Bool) (x : ℕ) (xs : List ℕ) → list_all p (x ∷ xs) ≡ true → list_all p xs ≡ true
later_pass p x xs h = (both_hold (p x) (list_all p xs) h).1

pub all_front : (p : ℕ → Bool) (s t : List ℕ) → list_all p (s ++ t) ≡ true → list_all p s ≡ true
all_front p [] t h = refl
all_front p (x ∷ s) t h = both _ _ (both_hold _ _ h).0 (all_front p s t (both_hold _ _ h).1)

pub all_back : (p : ℕ → Bool) (s t : List ℕ) → list_all p (s ++ t) ≡ true → list_all p t ≡ true
all_back p [] t h = h
all_back p (x ∷ s) t h = all_back p s t (both_hold _ _ h).1

pub all_joined : (p : ℕ → Bool) (s t : List ℕ) → list_all p s ≡ true → list_all p t ≡ true → list_all p (s ++ t) ≡ true
all_joined p [] t h k = k
all_joined p (x ∷ s) t h k = both _ _ (both_hold _ _ h).0 (all_joined p s t (both_hold _ _ h).1 k)

-- a run is the longest front of passing elements
pub run_passes : (p : ℕ → Bool) (xs : List ℕ) → list_all p (take (prefix_len p xs) xs) ≡ true
run_passes p [] = refl
run_passes p (x ∷ xs) = go (run_passes p xs) (p x) refl
  where
    go : list_all p (take (prefix_len p xs) xs) ≡ true → (r : Bool) → p x ≡ r → list_all p (take (prefix_len p (x ∷ xs)) (x ∷ xs)) ≡ true
    go later true e =
        let step : 1 + prefix_len p xs ≡ suc (prefix_len p xs) = omega arith in
        rw (e, step) (both _ _ e later)
    go later false e = rw e refl

pub run_longest : (p : ℕ → Bool) (t after : List ℕ) → list_all p t ≡ true → length t ≤ prefix_len p (t ++ after)
run_longest p [] after h = omega arith
run_longest p (x ∷ t) after h =
    let first : p x ≡ true = (both_hold _ _ h).0 in
    let so_far : length t ≤ prefix_len p (t ++ after) = run_longest p t after (later_pass p x t h) in
    rw first (omega arith)

-- a run that a failing element ends
pub run_ends : (p : ℕ → Bool) (t : List ℕ) (x : ℕ) (after : List ℕ) → list_all p t ≡ true → p x ≡ false → prefix_len p (t ++ x ∷ after) ≡ length t
run_ends p [] x after h e = rw e refl
run_ends p (y ∷ t) x after h e =
    let first : p y ≡ true = (both_hold _ _ h).0 in
    let so_far : prefix_len p (t ++ x ∷ after) ≡ length t = run_ends p t x after (later_pass p y t h) e in
    rw first (omega arith)
