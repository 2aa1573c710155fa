-- A name is repeated among elements of classes by number where its key stands before.
use Rattle.std.proofs.Common.{◌≡◌, ℕ, ◌/◌, ◌%◌, Bool, true, false, nat_eq, List, [], ◌∷◌, ◌++◌, Option, Some, None, refl, ap, sym, ◌∙◌, arith}
use Rattle.std.specs.Prelude.{◌&&◌, ◌||◌}
use Rattle.std.specs.List.{list_any}
use Rattle.std.specs.Str.{bytes_eq}
use Rattle.std.proofs.Math.Path.{fun_ext}
use Rattle.std.proofs.lemmas.Bool.Decides.{Decides-eqb}
use Rattle.std.proofs.lemmas.Slice.Eq.{bytes_eq-Decides}
use Rattle.std.proofs.lemmas.List.Folds.{list_any-append}
use Rattle.mo_syntax.specs.Classes.{Home, Under, Inside, Apart, Declaration}
use Rattle.mo_syntax.specs.ClassTable.{same_home}
use Rattle.mo_tree.specs.Keys.{key_in}
use Rattle.mo_tree.specs.steps.Repeats.{has_key, with_key}

-- ---- tests that say the same

pub same_tests : (a b : Bool) → (a ≡ true → b ≡ true) → (b ≡ true → a ≡ true) → a ≡ b
same_tests true true f g = refl
same_tests true false f g = sym (f refl)
same_tests false true f g = g refl
same_tests false false f g = refl

pub both_true : (a b : Bool) → (a && b) ≡ true → (a ≡ true) × (b ≡ true)
both_true true true h = (refl, refl)
both_true true false h = cc
both_true false b h = cc

pub and_true : (a b : Bool) → a ≡ true → b ≡ true → (a && b) ≡ true
and_true true true h k = refl
and_true true false h k = cc
and_true false b h k = cc

numbers_same : (n m : ℕ) → n / 65536 ≡ m / 65536 → n % 65536 ≡ m % 65536 → n ≡ m
numbers_same n m h k = omega arith

-- the key of an element of the class with a number
abbrev key_of : ℕ → List ℕ → List ℕ
key_of n name = n / 65536 ∷ n % 65536 ∷ name

inside_same : (n m : ℕ) (x y : List ℕ) → (nat_eq n m && bytes_eq x y) ≡ bytes_eq (key_of m y) (key_of n x)
inside_same n m x y = same_tests _ _ to from
  where
    to : (nat_eq n m && bytes_eq x y) ≡ true → bytes_eq (key_of m y) (key_of n x) ≡ true
    to h =
        let tests : (nat_eq n m ≡ true) × (bytes_eq x y ≡ true) = both_true (nat_eq n m) (bytes_eq x y) h in
        let numbers : n ≡ m = (Decides-eqb n m).0 tests.0 in
        let names : x ≡ y = (bytes_eq-Decides x y).0 tests.1 in
        (bytes_eq-Decides (key_of m y) (key_of n x)).1 (ap (λ (k : ℕ). key_of k y) (sym numbers) ∙ ap (key_of n) (sym names))

    from : bytes_eq (key_of m y) (key_of n x) ≡ true → (nat_eq n m && bytes_eq x y) ≡ true
    from h =
        let keys : key_of m y ≡ key_of n x = (bytes_eq-Decides (key_of m y) (key_of n x)).0 h in
        let high : m / 65536 ≡ n / 65536 = cc in
        let low : m % 65536 ≡ n % 65536 = cc in
        let names : y ≡ x = cc in
        and_true _ _ ((Decides-eqb n m).1 (numbers_same n m (sym high) (sym low))) ((bytes_eq-Decides x y).1 (sym names))

-- ---- keys that stand before

abbrev has_this : List ℕ → Option (List ℕ) → Bool
has_this key None = false
has_this key (Some other) = bytes_eq key other

-- the keys of the names that stand before
abbrev pub keys_of : List Declaration → List ℕ → Bool
keys_of before key = list_any (λ d. has_this key (key_in d.home d.name)) before

abbrev pub is_same : Home → List ℕ → Declaration → Bool
is_same home name other = same_home other.home home && bytes_eq other.name name

-- the code has no paths
abbrev pub HasNumber : Home → Type 0
HasNumber (Under path) = ⊥
HasNumber (Inside n) = Unit {0}
HasNumber Apart = Unit {0}

inside_alike : (m : ℕ) (name : List ℕ) (home : Home) (other : List ℕ) → (same_home home (Inside m) && bytes_eq other name) ≡ has_this (key_of m name) (key_in home other)
inside_alike m name (Under p) other = refl
inside_alike m name (Inside n) other = inside_same n m other name
inside_alike m name Apart other = refl

apart_alike : (home : Home) (a : Bool) → (same_home home Apart && a) ≡ false
apart_alike (Under p) a = refl
apart_alike (Inside n) a = refl
apart_alike Apart a = refl

any_same : {A : Type 0} (f g : A → Bool) → ((a : A) → f a ≡ g a) → (xs : List A) → list_any f xs ≡ list_any g xs
any_same f g same xs = ap (λ h. list_any h xs) (fun_ext same)

none_of : {A : Type 0} (f : A → Bool) → ((a : A) → f a ≡ false) → (xs : List A) → list_any f xs ≡ false
none_of f none [] = refl
none_of f none (x ∷ xs) = ap (λ b. b || list_any f xs) (none x) ∙ none_of f none xs

pub repeated_alike : (before : List Declaration) (home : Home) (name : List ℕ) → HasNumber home → list_any (is_same home name) before ≡ has_key (keys_of before) (key_in home name)
repeated_alike before (Under path) name h = absurd h
repeated_alike before (Inside m) name h = any_same (is_same (Inside m) name) (λ d. has_this (key_of m name) (key_in d.home d.name)) (λ d. inside_alike m name d.home d.name) before
repeated_alike before Apart name h = none_of (is_same Apart name) (λ d. apart_alike d.home (bytes_eq d.name name)) before

-- ---- one more name

or_false : (a : Bool) → (a || false) ≡ a
or_false true = refl
or_false false = refl

or_comm : (a b : Bool) → (a || b) ≡ (b || a)
or_comm true true = refl
or_comm true false = refl
or_comm false true = refl
or_comm false false = refl

pub keys_push : (before : List Declaration) (d : Declaration) → keys_of (before ++ d ∷ []) ≡ with_key (keys_of before) (key_in d.home d.name)
keys_push before d = fun_ext (λ key. list_any-append (λ e. has_this key (key_in e.home e.name)) before (d ∷ []) ∙ at_key key (key_in d.home d.name) (keys_of before))
  where
    at_key : (key : List ℕ) (this : Option (List ℕ)) (keys : List ℕ → Bool) → (keys key || (has_this key this || false)) ≡ with_key keys this key
    at_key key None keys = or_false (keys key)
    at_key key (Some k) keys = ap (λ b. keys key || b) (or_false (bytes_eq key k)) ∙ or_comm (keys key) (bytes_eq key k)
