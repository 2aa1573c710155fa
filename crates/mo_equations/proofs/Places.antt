-- The first places of texts and paths, one more path at the end.
use Rattle.std.proofs.Common.{◌≡◌, ℕ, zero, suc, ◌+◌, Bool, true, false, cond, ◌&&◌, List, [], ◌∷◌, ◌++◌, length, map, Option, Some, None, option_map, if◌then◌else◌, refl, ap, sym, ◌∙◌, add-one}
use Rattle.std.specs.Str.{bytes_eq}
use Rattle.std.specs.Prelude.{slice_get}
use Rattle.std.proofs.lemmas.Slice.Eq.{bytes_eq-Decides}
use Rattle.mo_scope.specs.Frames.{Indexed, indexed_eq, numbers_eq}
use Rattle.mo_equations.specs.Leaves.{path_text}
use Rattle.mo_equations.specs.steps.Tables.{first_place, place_among, place_of_text}

false_is_true : {A : Type 0} → false ≡ true → A
false_is_true eq = absurd (no eq)
  where
    no : false ≡ true → ⊥
    no eq = cc

none_is_some : {A B : Type 0} (a : A) → None ≡ Some a → B
none_is_some a eq = absurd (no eq)
  where
    no : None ≡ Some a → ⊥
    no eq = cc

-- ---- one more

abbrev pub or_place : Option ℕ → Option ℕ → Option ℕ
or_place (Some k) other = Some k
or_place None other = other

pub first_more : {A : Type 0} (test : A → Bool) (xs : List A) (x : A) →
    first_place test (xs ++ x ∷ []) ≡ or_place (first_place test xs) (if test x then Some (length xs) else None)
first_more test [] x = at (test x) refl
  where
    at : (b : Bool) → test x ≡ b → first_place test (x ∷ []) ≡ or_place None (if test x then Some 0 else None)
    at true is = rw is refl
    at false is = rw is refl
first_more test (y ∷ ys) x = at (test y) refl (first_more test ys x)
  where
    below : (found : Option ℕ) (b : Bool) → option_map (λ k. k + 1) (or_place found (if b then Some (length ys) else None))
        ≡ or_place (option_map (λ k. k + 1) found) (if b then Some (length (y ∷ ys)) else None)
    below (Some k) b = refl
    below None true = ap Some (add-one (length ys))
    below None false = refl

    at : (b : Bool) → test y ≡ b → first_place test (ys ++ x ∷ []) ≡ or_place (first_place test ys) (if test x then Some (length ys) else None)
        → first_place test (y ∷ (ys ++ x ∷ [])) ≡ or_place (first_place test (y ∷ ys)) (if test x then Some (length (y ∷ ys)) else None)
    at true is more = rw is refl
    at false is more = rw (is, more) (below (first_place test ys) (test x))

-- a text that was not there has the next place
pub placed_new : (paths all : List Indexed) (path : Indexed) (text other : List ℕ) (k : ℕ) (before after : Option ℕ) → all ≡ paths ++ path ∷ [] → text ≡ path_text path
    → k ≡ length paths → place_of_text paths text ≡ None → after ≡ cond (bytes_eq text other) (Some k) before → before ≡ place_of_text paths other
    → after ≡ place_of_text all other
placed_new paths all path text other k before after are is next new changed held =
    changed ∙ at (bytes_eq text other) refl ∙ sym (first_more (λ one. bytes_eq (path_text one) other) paths path) ∙ ap (λ xs. place_of_text xs other) (sym are)
  where
    at : (b : Bool) → bytes_eq text other ≡ b → cond (bytes_eq text other) (Some k) before
        ≡ or_place (place_of_text paths other) (if bytes_eq (path_text path) other then Some (length paths) else None)
    at true same = rw (same, sym is, same, ap (place_of_text paths) (sym ((bytes_eq-Decides text other).0 same)) ∙ new) (ap Some next)
    at false apart = rw (apart, sym is, apart) (held ∙ others (place_of_text paths other))
      where
        others : (found : Option ℕ) → found ≡ or_place found None
        others (Some n) = refl
        others None = refl

-- a text that was there keeps its place
pub placed_old : (paths all : List Indexed) (path : Indexed) (text other : List ℕ) (n : ℕ) (before after : Option ℕ) → all ≡ paths ++ path ∷ [] → text ≡ path_text path
    → place_of_text paths text ≡ Some n → after ≡ before → before ≡ place_of_text paths other → after ≡ place_of_text all other
placed_old paths all path text other n before after are is there same held =
    same ∙ held ∙ at (place_of_text paths other) refl ∙ sym (first_more (λ one. bytes_eq (path_text one) other) paths path) ∙ ap (λ xs. place_of_text xs other) (sym are)
  where
    none : (b : Bool) → bytes_eq text other ≡ b → place_of_text paths other ≡ None → None ≡ (if bytes_eq text other then Some (length paths) else None)
    none true alike empty = none_is_some n (sym empty ∙ ap (place_of_text paths) (sym ((bytes_eq-Decides text other).0 alike)) ∙ there)
    none false apart empty = rw apart refl

    at : (found : Option ℕ) → place_of_text paths other ≡ found → found ≡ or_place found (if bytes_eq (path_text path) other then Some (length paths) else None)
    at (Some k) is_found = refl
    at None is_found = rw (sym is) (none (bytes_eq text other) refl is_found)

-- ---- paths by their texts

both_true : (a b : Bool) → (a && b) ≡ true → (a ≡ true) × (b ≡ true)
both_true true b h = (refl, h)
both_true false b h = false_is_true h

pub same_paths : (a b : Indexed) → indexed_eq a b ≡ true → a ≡ b
same_paths [] [] h = refl
same_paths [] (y ∷ ys) h = false_is_true h
same_paths (x ∷ xs) [] h = false_is_true h
same_paths (x ∷ xs) (y ∷ ys) h =
    let whole = both_true (bytes_eq x.0 y.0 && numbers_eq x.1 y.1) (indexed_eq xs ys) h in
    let parts = both_true (bytes_eq x.0 y.0) (numbers_eq x.1 y.1) whole.0 in
    let one : x ≡ y = step x y ((bytes_eq-Decides x.0 y.0).0 parts.0) ((bytes_eq-Decides x.1 y.1).0 parts.1) in
    rw (one, same_paths xs ys whole.1) refl
  where
    step : (a b : List ℕ × List ℕ) → a.0 ≡ b.0 → a.1 ≡ b.1 → a ≡ b
    step a b p q = rw (p, q) refl

bytes_same : (xs : List ℕ) → bytes_eq xs xs ≡ true
bytes_same xs = (bytes_eq-Decides xs xs).1 refl

same_test : (a : Indexed) → indexed_eq a a ≡ true
same_test [] = refl
same_test (x ∷ xs) = rw (bytes_same x.0, bytes_same x.1, same_test xs) refl

-- a path is where a text of its own is not before it
pub no_text_no_path : (paths : List Indexed) (path : Indexed) → place_of_text paths (path_text path) ≡ None → place_among paths path ≡ None
no_text_no_path [] path h = refl
no_text_no_path (x ∷ xs) path h = at (indexed_eq x path) refl (no_text_no_path xs path)
  where
    mapped : (found : Option ℕ) → option_map (λ k. k + 1) found ≡ None → found ≡ None
    mapped None e = refl
    mapped (Some k) e = none_is_some (k + 1) (sym e)

    rest : (b : Bool) → bytes_eq (path_text x) (path_text path) ≡ b → place_of_text xs (path_text path) ≡ None
    rest true is = none_is_some 0 (sym (rw is at h))
    rest false is = mapped (place_of_text xs (path_text path)) (rw is at h)

    at : (b : Bool) → indexed_eq x path ≡ b → (place_of_text xs (path_text path) ≡ None → place_among xs path ≡ None) → place_among (x ∷ xs) path ≡ None
    at true is more =
        let one : bytes_eq (path_text x) (path_text path) ≡ true = ap (λ (p : Indexed). bytes_eq (path_text x) (path_text p)) (sym (same_paths x path is)) ∙ bytes_same (path_text x) in
        none_is_some 0 (sym (rw one at h))
    at false is more = rw (is, more (rest (bytes_eq (path_text x) (path_text path)) refl)) refl

-- the first path of a text is the first one that is this one, where it is this one
pub path_of_text : (paths : List Indexed) (path found : Indexed) (k : ℕ) → place_of_text paths (path_text path) ≡ Some k → slice_get paths k ≡ Some found
    → indexed_eq found path ≡ true → place_among paths path ≡ Some k
path_of_text [] path found k h at same = none_is_some k h
path_of_text (x ∷ xs) path found k h at same = here (bytes_eq (path_text x) (path_text path)) refl (λ n is there. path_of_text xs path found n is there same)
  where
    some_one : (a b : ℕ) → Some a ≡ Some b → a ≡ b
    some_one a b e = ap held e
      where
        held : Option ℕ → ℕ
        held None = a
        held (Some n) = n

    some_path : (a b : Indexed) → Some a ≡ Some b → a ≡ b
    some_path a b e = ap held e
      where
        held : Option Indexed → Indexed
        held None = a
        held (Some n) = n

    later : (m : Option ℕ) → place_of_text xs (path_text path) ≡ m → option_map (λ n. n + 1) m ≡ Some k → (n : ℕ) × (place_of_text xs (path_text path) ≡ Some n) × (n + 1 ≡ k)
    later None is e = none_is_some k e
    later (Some n) is e = (n, is, some_one (n + 1) k e)

    apart : (b : Bool) → indexed_eq x path ≡ b → bytes_eq (path_text x) (path_text path) ≡ false → indexed_eq x path ≡ false
    apart true is differs =
        let one : bytes_eq (path_text x) (path_text path) ≡ true = ap (λ (p : Indexed). bytes_eq (path_text x) (path_text p)) (sym (same_paths x path is)) ∙ bytes_same (path_text x) in
        false_is_true (sym differs ∙ one)
    apart false is differs = is

    here : (b : Bool) → bytes_eq (path_text x) (path_text path) ≡ b → ((n : ℕ) → place_of_text xs (path_text path) ≡ Some n → slice_get xs n ≡ Some found → place_among xs path ≡ Some n) → place_among (x ∷ xs) path ≡ Some k
    here true is more =
        let first : 0 ≡ k = some_one 0 k (rw is at h) in
        let one : x ≡ found = some_path x found (ap (slice_get (x ∷ xs)) first ∙ at) in
        let same_one : indexed_eq x path ≡ true = ap (λ (y : Indexed). indexed_eq y path) one ∙ same in
        rw same_one (ap Some first)
    here false is more =
        let parts = later (place_of_text xs (path_text path)) refl (rw is at h) in
        let next : slice_get xs parts.0 ≡ Some found = ap (slice_get (x ∷ xs)) (sym (add-one parts.0) ∙ parts.2) ∙ at in
        let away : indexed_eq x path ≡ false = apart (indexed_eq x path) refl is in
        rw (away, more parts.0 parts.1 next) (ap Some parts.2)

-- the path at a place, as it is seen
pub seen_at : {A B : Type 0} (f : A → B) (xs : List A) (k : ℕ) (x : A) → slice_get xs k ≡ Some x → slice_get (map f xs) k ≡ Some (f x)
seen_at f [] k x h = none_is_some x h
seen_at {A} {B} f (y ∷ ys) zero x h = ap (option_map f) h
seen_at f (y ∷ ys) (suc k) x h = seen_at f ys k x h
