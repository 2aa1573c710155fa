-- Tests of paths, and the lists that have them.
use Rattle.std.proofs.Common.{◌≡◌, ℕ, suc, ◌+◌, ◌<◌, ◌≢◌, Bool, true, false, cond, IsTrue, List, [], ◌∷◌, ◌++◌, length, map, drop, get_or, Option, Some, None, if◌then◌else◌, refl, sym, ap, ◌∙◌, append-nil}
use Rattle.std.specs.Prelude.{◌&&◌, ◌||◌}
use Rattle.std.specs.HashMap.{HashMap, get_by, UpdatesBy}
use Rattle.std.specs.List.{list_any}
use Rattle.std.specs.Str.{bytes_eq}
use Rattle.std.proofs.lemmas.Bool.Decides.{same_from_decides}
use Rattle.std.proofs.lemmas.List.{drop_more, map-append}
use Rattle.std.proofs.lemmas.List.Folds.{list_any-append}
use Rattle.std.proofs.lemmas.Slice.Eq.{bytes_eq-Decides}
use Rattle.mo_syntax.specs.ClassTable.{path_eq}
use Rattle.mo_scope.specs.Frames.{Listing}
use Rattle.mo_scope.specs.Held.{path_key}
use Rattle.mo_scope.proofs.Keys.{path_key_eq, updates_items}
use Rattle.mo_mods.specs.declared.paths.ByPath.{ByPath}
use Rattle.mo_mods.specs.Passes.{Listed_path, is_path_of}
use Rattle.mo_mods.specs.PathSights.{HasPaths, lists_held}

-- ---- two paths

pub text_test : (a b : List ℕ) (r : Bool) → (IsTrue r → a ≡ b) × (a ≡ b → IsTrue r) → bytes_eq a b ≡ r
text_test a b r h = sym (same_from_decides r (bytes_eq a b) h (bytes_eq-Decides a b))

pub other_lengths : {A : Type 0} (f : A → List ℕ) (a b : List A) → length a ≢ length b → false ≡ path_eq (map f a) (map f b)
other_lengths f [] [] other = absurd (other refl)
other_lengths f [] (y ∷ b) other = refl
other_lengths f (x ∷ a) [] other = refl
other_lengths f (x ∷ a) (y ∷ b) other = by (bytes_eq (f x) (f y)) (other_lengths f a b (λ same. other (ap suc same)))
  where
    by : (t : Bool) {r : Bool} → false ≡ r → false ≡ (t && r)
    by true rest = rest
    by false rest = refl

pub path_step : {A : Type 0} (f : A → List ℕ) (a b : List A) (i : ℕ) (x y : A) (t all : Bool) → i < length a → i < length b → x ≡ get_or a i x → y ≡ get_or b i y → bytes_eq (f x) (f y) ≡ t →
    path_eq (map f (drop i a)) (map f (drop i b)) ≡ all → (t && path_eq (map f (drop (i + 1) a)) (map f (drop (i + 1) b))) ≡ all
path_step f a b i x y t all below_a below_b is_a is_b test rest =
    ap (λ r. r && path_eq (map f (drop (i + 1) a)) (map f (drop (i + 1) b))) (sym test)
    ∙ ap (λ xs. path_eq (map f xs) (map f (y ∷ drop (i + 1) b))) (sym (drop_more a i x below_a ∙ ap (λ z. z ∷ drop (i + 1) a) (sym is_a)))
    ∙ ap (λ ys. path_eq (map f (drop i a)) (map f ys)) (sym (drop_more b i y below_b ∙ ap (λ z. z ∷ drop (i + 1) b) (sym is_b)))
    ∙ rest

-- ---- lists under a key

abbrev pub held_or_none : {A : Type 0} → (A → Listing) → Option (List A) → List Listing
held_or_none seen None = []
held_or_none seen (Some items) = map seen items

-- a list that is put behind those under a key, which are taken out before
pub lists_put : {A : Type 0} {K S : Type 0} (seen : A → Listing) (items : K → List ℕ) (query key : List ℕ) (old middle new : HashMap K (List A) S) (taken : Option (List A)) (group more : List A) (item : A) → query ≡ key →
    taken ≡ get_by (λ k. bytes_eq query (items k)) old → UpdatesBy (λ x y. bytes_eq (items x) (items y)) (λ k. bytes_eq query (items k)) old middle None →
    map seen group ≡ held_or_none seen taken → more ≡ group ++ item ∷ [] →
    UpdatesBy (λ x y. bytes_eq (items x) (items y)) (λ k. bytes_eq key (items k)) middle new (Some more) → (other : List ℕ) →
    held_or_none seen (get_by (λ k. bytes_eq other (items k)) new)
    ≡ held_or_none seen (get_by (λ k. bytes_eq other (items k)) old) ++ (if bytes_eq key other then seen item ∷ [] else [])
lists_put {A = A} {K = K} {S = S} seen items query key old middle new taken group more item same was removed group_is behind inserted other =
    by (bytes_eq key other) refl (updates_items items query old middle None removed other ∙ ap (λ (l : List ℕ). cond (bytes_eq l other) None before) same) (updates_items items key middle new (Some more) inserted other)
  where
    before : Option (List A)
    before = get_by (λ k. bytes_eq other (items k)) old

    by : (b : Bool) → bytes_eq key other ≡ b → get_by (λ k. bytes_eq other (items k)) middle ≡ cond (bytes_eq key other) None before →
        get_by (λ k. bytes_eq other (items k)) new ≡ cond (bytes_eq key other) (Some more) (get_by (λ k. bytes_eq other (items k)) middle) →
        held_or_none seen (get_by (λ k. bytes_eq other (items k)) new) ≡ held_or_none seen before ++ (if b then seen item ∷ [] else [])
    by true is taken_out put_in =
        ap (held_or_none seen) (put_in ∙ ap (λ b. cond b (Some more) (get_by (λ k. bytes_eq other (items k)) middle)) is)
        ∙ ap (map seen) behind ∙ map-append seen group (item ∷ [])
        ∙ ap (λ l. l ++ seen item ∷ []) (group_is ∙ ap (held_or_none seen) (was ∙ ap (λ (l : List ℕ). get_by (λ k. bytes_eq l (items k)) old) (same ∙ (bytes_eq-Decides key other).0 is)))
    by false is taken_out put_in =
        ap (held_or_none seen) (put_in ∙ ap (λ b. cond b (Some more) (get_by (λ k. bytes_eq other (items k)) middle)) is ∙ taken_out ∙ ap (λ b. cond b None before) is)
        ∙ sym (append-nil (held_or_none seen before))

-- ---- paths that lists have

pub or_swap : (a b : Bool) → (a || b) ≡ (b || a)
or_swap true true = refl
or_swap true false = refl
or_swap false true = refl
or_swap false false = refl

-- no list has a path
pub has_none : (lists : ByPath) → ((key : List ℕ) → lists_held lists key ≡ []) → HasPaths lists []
has_none lists none = λ path test. ap (list_any test) (none (path_key path))

-- one more list
pub has_more : (old new : ByPath) (paths : List Listed_path) (listing : Listing) (key : List ℕ) (path : List (List ℕ)) → key ≡ path_key path → HasPaths old paths →
    ((other : List ℕ) → lists_held new other ≡ lists_held old other ++ (if bytes_eq key other then listing ∷ [] else [])) →
    HasPaths new (paths ++ (listing, path) ∷ [])
has_more old new paths listing key path is has more = λ other test.
    ap (list_any test) (more (path_key other))
    ∙ list_any-append test (lists_held old (path_key other)) (if bytes_eq key (path_key other) then listing ∷ [] else [])
    ∙ ap (λ b. b || list_any test (if bytes_eq key (path_key other) then listing ∷ [] else [])) (has other test)
    ∙ ap (λ b. is_path_of test other paths || list_any test (if b then listing ∷ [] else [])) (ap (λ k. bytes_eq k (path_key other)) is ∙ path_key_eq path other)
    ∙ ap (λ b. is_path_of test other paths || b) (one_list test (path_eq path other))
    ∙ sym (list_any-append (λ one. path_eq one.1 other && test one.0) paths ((listing, path) ∷ []))
  where
    one_list : (test : Listing → Bool) (b : Bool) → list_any test (if b then listing ∷ [] else []) ≡ (b && test listing || false)
    one_list test true = refl
    one_list test false = refl

pub has_swapped : (lists : ByPath) (xs ys : List Listed_path) → HasPaths lists (xs ++ ys) → HasPaths lists (ys ++ xs)
has_swapped lists xs ys has = λ path test.
    has path test ∙ list_any-append (λ one. path_eq one.1 path && test one.0) xs ys
    ∙ or_swap (is_path_of test path xs) (is_path_of test path ys)
    ∙ sym (list_any-append (λ one. path_eq one.1 path && test one.0) ys xs)
