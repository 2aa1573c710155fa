-- A path leads to another one exactly where it is one of its prefixes.
use Rattle.std.proofs.Common.{◌≡◌, ℕ, zero, suc, ◌+◌, ◌-◌, ◌≤◌, ◌<◌, Bool, true, false, ◌&&◌, ◌||◌, List, [], ◌∷◌, ◌++◌, drop, filter, get_or, length, map, take, Option, Some, None, is_some, option_map, if◌then◌else◌, nat_eq, refl, ap, sym, ◌∙◌, subst, arith}
use Rattle.std.specs.List.{list_any}
use Rattle.std.specs.Str.{bytes_eq}
use Rattle.std.proofs.lemmas.Bool.{eq-eqb, false≢true}
use Rattle.std.proofs.lemmas.List.{drop_more, take_all}
use Rattle.std.proofs.lemmas.Slice.Eq.{bytes_eq-Decides}
use Rattle.mo_scope.specs.declared.instance.Instance.{Instance as InstanceAt}
use Rattle.mo_scope.specs.Frames.{Indexed, indexed_eq, numbers_eq}
use Rattle.mo_equations.specs.Leaves.{behind, path_text}
use Rattle.mo_equations.specs.steps.LeafTables.{ends_with, has_text, is_leaf, leaves_in, numbers_from, numbers_or_none, prefixes, with_number, with_variable}
use Rattle.mo_equations.specs.steps.Tables.{place_among}

-- ---- any of any

any_or : {A : Type 0} (f g : A → Bool) (xs : List A) → list_any (λ x. f x || g x) xs ≡ (list_any f xs || list_any g xs)
any_or f g [] = refl
any_or f g (x ∷ xs) = ap (λ b. (f x || g x) || b) (any_or f g xs) ∙ four (f x) (g x) (list_any f xs) (list_any g xs)
  where
    four : (a b c d : Bool) → ((a || b) || (c || d)) ≡ ((a || c) || (b || d))
    four true b c d = refl
    four false true true d = refl
    four false true false d = refl
    four false false c d = refl

any_false : {A : Type 0} (xs : List A) → list_any (λ x. false) xs ≡ false
any_false [] = refl
any_false (x ∷ xs) = any_false xs

pub any_swap : {A B : Type 0} (r : A → B → Bool) (xs : List A) (ys : List B) → list_any (λ x. list_any (r x) ys) xs ≡ list_any (λ y. list_any (λ x. r x y) xs) ys
any_swap r [] ys = sym (any_false ys)
any_swap r (x ∷ xs) ys = ap (λ b. list_any (r x) ys || b) (any_swap r xs ys) ∙ sym (any_or (r x) (λ y. list_any (λ z. r z y) xs) ys)

any_mapped : {A B : Type 0} (test : B → Bool) (h : A → B) (xs : List A) → list_any test (map h xs) ≡ list_any (λ x. test (h x)) xs
any_mapped test h [] = refl
any_mapped test h (x ∷ xs) = ap (λ b. test (h x) || b) (any_mapped test h xs)

any_same : {A : Type 0} (f g : A → Bool) → ((x : A) → f x ≡ g x) → (xs : List A) → list_any f xs ≡ list_any g xs
any_same f g same [] = refl
any_same f g same (x ∷ xs) = ap (λ b. b || list_any f xs) (same x) ∙ ap (λ b. g x || b) (any_same f g same xs)

any_and : {A : Type 0} (b : Bool) (f : A → Bool) (xs : List A) → list_any (λ x. b && f x) xs ≡ (b && list_any f xs)
any_and true f xs = refl
any_and false f xs = any_false xs

-- ---- prefixes

pub leads : (other path : Indexed) → is_some (behind other path) ≡ list_any (indexed_eq other) (prefixes path)
leads [] [] = refl
leads [] (t ∷ ts) = refl
leads (s ∷ ss) [] = refl
leads (s ∷ ss) (t ∷ ts) =
    at (bytes_eq s.0 t.0 && numbers_eq s.1 t.1) (leads ss ts)
    ∙ sym (any_and (bytes_eq s.0 t.0 && numbers_eq s.1 t.1) (indexed_eq ss) (prefixes ts))
    ∙ sym (any_mapped (indexed_eq (s ∷ ss)) (λ around. t ∷ around) (prefixes ts))
  where
    at : (b : Bool) → is_some (behind ss ts) ≡ list_any (indexed_eq ss) (prefixes ts) → is_some (if b then behind ss ts else None) ≡ (b && list_any (indexed_eq ss) (prefixes ts))
    at true h = h
    at false h = refl

pub placed : (paths : List Indexed) (path : Indexed) → is_some (place_among paths path) ≡ list_any (λ other. indexed_eq other path) paths
placed [] path = refl
placed (x ∷ xs) path = at (indexed_eq x path) (place_among xs path) (placed xs path)
  where
    at : (b : Bool) (found : Option ℕ) → is_some found ≡ list_any (λ other. indexed_eq other path) xs
        → is_some (if b then Some 0 else option_map (λ k. k + 1) found) ≡ (b || list_any (λ other. indexed_eq other path) xs)
    at true found h = refl
    at false None h = h
    at false (Some k) h = h

-- one of the paths leads to a path exactly where one of its prefixes is among them
pub around_by_prefixes : (paths : List Indexed) (path : Indexed) →
    list_any (λ other. is_some (behind other path)) paths ≡ list_any (λ around. is_some (place_among paths around)) (prefixes path)
around_by_prefixes paths path =
    any_same (λ other. is_some (behind other path)) (λ other. list_any (indexed_eq other) (prefixes path)) (λ other. leads other path) paths
    ∙ any_swap indexed_eq paths (prefixes path)
    ∙ any_same (λ around. list_any (λ other. indexed_eq other around) paths) (λ around. is_some (place_among paths around)) (λ around. sym (placed paths around)) (prefixes path)

-- ---- one after another

taken_map : {A B : Type 0} (h : A → B) (xs : List A) (k : ℕ) → take k (map h xs) ≡ map h (take k xs)
taken_map h xs zero = refl
taken_map h [] (suc k) = refl
taken_map h (x ∷ xs) (suc k) = ap (λ ys. h x ∷ ys) (taken_map h xs k)

mapped_last : {A B : Type 0} (h : A → B) (xs : List A) (x : A) → map h (xs ++ x ∷ []) ≡ map h xs ++ h x ∷ []
mapped_last h [] x = refl
mapped_last h (y ∷ ys) x = ap (λ zs. h y ∷ zs) (mapped_last h ys x)

-- the next prefix
pub next_prefix : (path : Indexed) (k : ℕ) → k ≤ length path → take (suc k) (prefixes path) ≡ take k (prefixes path) ++ take k path ∷ []
next_prefix [] zero within = refl
next_prefix [] (suc k) within = let h : suc k ≤ 0 = within in absurd (omega arith)
next_prefix (t ∷ ts) zero within = refl
next_prefix (t ∷ ts) (suc k) within =
    ap (λ zs. [] ∷ zs)
    (taken_map (λ around. t ∷ around) (prefixes ts) (suc k)
    ∙ ap (map (λ around. t ∷ around)) (next_prefix ts k (omega arith))
    ∙ mapped_last (λ around. t ∷ around) (take k (prefixes ts)) (take k ts)
    ∙ ap (λ zs. zs ++ (t ∷ take k ts) ∷ []) (sym (taken_map (λ around. t ∷ around) (prefixes ts) k)))

pub all_prefixes : (path : Indexed) → take (suc (length path)) (prefixes path) ≡ prefixes path
all_prefixes [] = refl
all_prefixes (t ∷ ts) = ap (λ zs. [] ∷ zs) (taken_map (λ around. t ∷ around) (prefixes ts) (suc (length ts)) ∙ ap (map (λ around. t ∷ around)) (all_prefixes ts))

-- any of those that pass
pub any_that : {A B : Type 0} (is : A → Bool) (h : A → B) (test : B → Bool) (xs : List A) → list_any test (map h (filter is xs)) ≡ list_any (λ x. is x && test (h x)) xs
any_that is h test [] = refl
any_that is h test (x ∷ xs) = at (is x) refl (any_that is h test xs)
  where
    at : (b : Bool) → is x ≡ b → list_any test (map h (filter is xs)) ≡ list_any (λ y. is y && test (h y)) xs
        → list_any test (map h (filter is (x ∷ xs))) ≡ ((is x && test (h x)) || list_any (λ y. is y && test (h y)) xs)
    at true e more = rw (e, more) refl
    at false e more = rw (e, more) refl

-- ---- a loop over the prefixes

any_last : {A : Type 0} (test : A → Bool) (xs : List A) (x : A) → list_any test (xs ++ x ∷ []) ≡ (list_any test xs || test x)
any_last test [] x = last (test x)
  where
    last : (b : Bool) → (b || false) ≡ b
    last true = refl
    last false = refl
any_last test (y ∷ ys) x = ap (λ b. test y || b) (any_last test ys x) ∙ grouped (test y) (list_any test ys) (test x)
  where
    grouped : (a b c : Bool) → (a || (b || c)) ≡ ((a || b) || c)
    grouped true b c = refl
    grouped false b c = refl

pub any_next : (test : Indexed → Bool) (path : Indexed) (k : ℕ) → k ≤ length path → list_any test (take (k + 1) (prefixes path)) ≡ (list_any test (take k (prefixes path)) || test (take k path))
any_next test path k within =
    ap (λ n. list_any test (take n (prefixes path))) (plus_one k) ∙ ap (list_any test) (next_prefix path k within) ∙ any_last test (take k (prefixes path)) (take k path)
  where
    plus_one : (n : ℕ) → n + 1 ≡ suc n
    plus_one n = omega arith

any_front : {A : Type 0} (test : A → Bool) (xs : List A) (n : ℕ) → list_any test (take n xs) ≡ true → list_any test xs ≡ true
any_front test xs zero h = absurd (false≢true h)
any_front test [] (suc n) h = h
any_front test (x ∷ xs) (suc n) h = at (test x) h (any_front test xs n)
  where
    at : (b : Bool) → (b || list_any test (take n xs)) ≡ true → (list_any test (take n xs) ≡ true → list_any test xs ≡ true) → (b || list_any test xs) ≡ true
    at true e more = refl
    at false e more = more e

-- one of the prefixes so far passes
pub any_found : (test : Indexed → Bool) (path : Indexed) (k : ℕ) → k ≤ length path → test (take k path) ≡ true → list_any test (prefixes path) ≡ true
any_found test path k within is =
    any_front test (prefixes path) (k + 1) (any_next test path k within ∙ rw is (either (list_any test (take k (prefixes path)))))
  where
    either : (b : Bool) → (b || true) ≡ true
    either true = refl
    either false = refl

pub every_prefix : (path : Indexed) (k : ℕ) → length path + 1 ≤ k → take k (prefixes path) ≡ prefixes path
every_prefix path k above = take_all k (prefixes path) (subst (λ n. n ≤ k) (sym (how_many path)) (below above))
  where
    length_mapped : {A B : Type 0} (h : A → B) (xs : List A) → length (map h xs) ≡ length xs
    length_mapped h [] = refl
    length_mapped h (x ∷ xs) = ap suc (length_mapped h xs)

    below : length path + 1 ≤ k → suc (length path) ≤ k
    below h = omega (arith, h)

    how_many : (path : Indexed) → length (prefixes path) ≡ suc (length path)
    how_many [] = refl
    how_many (step ∷ path) = ap suc (length_mapped (λ around. step ∷ around) (prefixes path) ∙ how_many path)

pub any_of_all : (test : Indexed → Bool) (path : Indexed) (k : ℕ) → length path + 1 ≤ k → list_any test (take k (prefixes path)) ≡ list_any test (prefixes path)
any_of_all test path k above = ap (list_any test) (every_prefix path k above)

-- ---- the numbers under a text

ends_last : (numbers : List ℕ) (n : ℕ) → ends_with (numbers ++ n ∷ []) n ≡ true
ends_last [] n = eq-eqb n n refl
ends_last (x ∷ []) n = ends_last [] n
ends_last (x ∷ y ∷ numbers) n = ends_last (y ∷ numbers) n

with_again : (numbers : List ℕ) (n : ℕ) → with_number (with_number numbers n) n ≡ with_number numbers n
with_again numbers n = at (ends_with numbers n) refl
  where
    at : (b : Bool) → ends_with numbers n ≡ b → with_number (with_number numbers n) n ≡ with_number numbers n
    at true is = rw (is, is) refl
    at false is = rw (is, ends_last numbers n) refl

-- one prefix more
pub around_more : (text : List ℕ) (path : Indexed) (number : ℕ) (k : ℕ) (old before after : List ℕ) → k ≤ length path →
    before ≡ (if list_any (has_text text) (take k (prefixes path)) then with_number old number else old) →
    after ≡ (if bytes_eq (path_text (take k path)) text then with_number before number else before) →
    after ≡ (if list_any (has_text text) (take (k + 1) (prefixes path)) then with_number old number else old)
around_more text path number k old before after within is more =
    more ∙ rw is (at (list_any (has_text text) (take k (prefixes path))) (bytes_eq (path_text (take k path)) text))
    ∙ ap (λ b. if b then with_number old number else old) (sym (any_next (has_text text) path k within))
  where
    at : (a b : Bool) → (if b then with_number (if a then with_number old number else old) number else (if a then with_number old number else old)) ≡ (if a || b then with_number old number else old)
    at true true = with_again old number
    at true false = refl
    at false true = refl
    at false false = refl

-- the numbers of the variables that are left
leaf_first : (instances : List InstanceAt) (k : ℕ) (instance : InstanceAt) → k < length instances → instance ≡ get_or instances k instance → is_leaf instance ≡ true →
    leaves_in (drop k instances) ≡ instance ∷ leaves_in (drop (k + 1) instances)
leaf_first instances k instance small at leaf =
    ap leaves_in (drop_more instances k instance small ∙ ap (λ v. v ∷ drop (k + 1) instances) (sym at)) ∙ rw leaf refl

leaf_not : (instances : List InstanceAt) (k : ℕ) (instance : InstanceAt) → k < length instances → instance ≡ get_or instances k instance → is_leaf instance ≡ false →
    leaves_in (drop k instances) ≡ leaves_in (drop (k + 1) instances)
leaf_not instances k instance small at leaf =
    ap leaves_in (drop_more instances k instance small ∙ ap (λ v. v ∷ drop (k + 1) instances) (sym at)) ∙ rw leaf refl

pub numbers_more : (text : List ℕ) (instances : List InstanceAt) (k : ℕ) (number : ℕ) (instance : InstanceAt) (before after : List ℕ) → k < length instances → instance ≡ get_or instances k instance →
    is_leaf instance ≡ true → after ≡ with_variable text instance number before → numbers_from text (number + 1) after (leaves_in (drop (k + 1) instances)) ≡ numbers_from text number before (leaves_in (drop k instances))
numbers_more text instances k number instance before after small at leaf is =
    ap (λ n. numbers_from text (number + 1) n (leaves_in (drop (k + 1) instances))) is
    ∙ sym (ap (numbers_from text number before) (leaf_first instances k instance small at leaf))

pub numbers_same : (text : List ℕ) (instances : List InstanceAt) (k : ℕ) (number : ℕ) (instance : InstanceAt) (before : List ℕ) → k < length instances → instance ≡ get_or instances k instance →
    is_leaf instance ≡ false → numbers_from text number before (leaves_in (drop (k + 1) instances)) ≡ numbers_from text number before (leaves_in (drop k instances))
numbers_same text instances k number instance before small at leaf = sym (ap (numbers_from text number before) (leaf_not instances k instance small at leaf))

-- what stands under a text that was taken out and put back with a number more
pub put_under : (get mid new : List ℕ → Option (List ℕ)) (text numbers : List ℕ) (found : Option (List ℕ)) (number : ℕ) → found ≡ get text → ((other : List ℕ) → mid other ≡ (if bytes_eq text other then None else get other)) →
    ((other : List ℕ) → new other ≡ (if bytes_eq text other then Some numbers else mid other)) → numbers ≡ with_number (numbers_or_none found) number →
    (other : List ℕ) → numbers_or_none (new other) ≡ (if bytes_eq text other then with_number (numbers_or_none (get other)) number else numbers_or_none (get other))
put_under get mid new text numbers found number is taken put more other = ap numbers_or_none (put other) ∙ at (bytes_eq text other) refl
  where
    at : (b : Bool) → bytes_eq text other ≡ b → numbers_or_none (if bytes_eq text other then Some numbers else mid other)
        ≡ (if bytes_eq text other then with_number (numbers_or_none (get other)) number else numbers_or_none (get other))
    at true same = rw same (more ∙ ap (λ f. with_number (numbers_or_none f) number) (is ∙ ap get ((bytes_eq-Decides text other).0 same)))
    at false apart = ap (λ b. numbers_or_none (if b then Some numbers else mid other)) apart ∙ ap numbers_or_none (taken other ∙ ap (λ b. if b then None else get other) apart)
        ∙ sym (ap (λ b. if b then with_number (numbers_or_none (get other)) number else numbers_or_none (get other)) apart)

-- the last number
pub ends_at : (numbers : List ℕ) (number : ℕ) → 1 ≤ length numbers → nat_eq (get_or numbers (length numbers - 1) 0) number ≡ ends_with numbers number
ends_at [] number some = let h : 1 ≤ 0 = some in absurd (omega (arith, h))
ends_at (n ∷ []) number some = refl
ends_at (n ∷ next ∷ numbers) number some =
    ap (λ k. nat_eq (get_or (n ∷ next ∷ numbers) k 0) number) (one (length numbers)) ∙ ends_at (next ∷ numbers) number (omega arith)
  where
    one : (m : ℕ) → suc (suc m) - 1 ≡ suc (suc m - 1)
    one m = omega arith
