-- Reading lists one element after another.
use Rattle.std.proofs.Common.{◌≡◌, ℕ, ℤ, suc, ◌+◌, ◌<◌, ◌≢◌, Bool, true, false, cond, IsTrue, List, [], ◌∷◌, length, map, drop, get_or, Option, Some, refl, sym, ap, ◌∙◌, arith}
use Rattle.std.proofs.Math.Seq.{drop-cons}
use Rattle.std.specs.Prelude.{◌&&◌, slice_get, option_map}
use Rattle.std.specs.List.{position_from}
use Rattle.std.specs.Str.{bytes_eq}
use Rattle.std.proofs.lemmas.Bool.Decides.{same_from_decides}
use Rattle.std.proofs.lemmas.Slice.Eq.{bytes_eq-Decides}
use Rattle.std.proofs.lemmas.Option.{slice_get-map, slice_get_read}
use Rattle.mo_syntax.specs.ClassTable.{path_eq}
use Rattle.mo_scope.specs.Frames.{Frame, Iterations, listing_eq, same_listings}
use Rattle.mo_scope.specs.Lookup.{iteration}
use Rattle.mo_scope.specs.Worlds.{SourceEntry, sources_in}

-- what is left from an element on
pub at_element : {A : Type 0} (xs : List A) (i : ℕ) (x : A) → i < length xs → x ≡ get_or xs i x → drop i xs ≡ x ∷ drop (i + 1) xs
at_element xs i x below is =
    let next : suc i ≡ i + 1 = omega arith in
    drop-cons xs i x below ∙ ap (λ y. y ∷ drop (suc i) xs) (sym is) ∙ ap (λ k. x ∷ drop k xs) next

pub read_element : {A B : Type 0} (f : A → B) (xs : List A) (i : ℕ) (x : A) → i < length xs → x ≡ get_or xs i x → slice_get (map f xs) i ≡ Some (f x)
read_element f xs i x below is = slice_get-map f xs i ∙ ap (option_map f) (slice_get_read xs (length xs) i x refl below is)

-- the test of texts
pub text_test : (a b : List ℕ) (r : Bool) → (IsTrue r → a ≡ b) × (a ≡ b → IsTrue r) → bytes_eq a b ≡ r
text_test a b r h = sym (same_from_decides r (bytes_eq a b) h (bytes_eq-Decides a b))

-- ---- the place of a word

pub place_here : (words : List (List ℕ)) (name : List ℕ) (i p : ℕ) (x : List ℕ) (all : Option ℕ) → i < length words → x ≡ get_or words i x →
    position_from (λ word. bytes_eq word name) p (drop i words) ≡ all → bytes_eq x name ≡ true → Some p ≡ all
place_here words name i p x all below is rest same =
    ap (λ b. cond b (Some p) (position_from (λ word. bytes_eq word name) (p + 1) (drop (i + 1) words))) (sym same)
    ∙ ap (position_from (λ word. bytes_eq word name) p) (sym (at_element words i x below is)) ∙ rest

pub place_further : (words : List (List ℕ)) (name : List ℕ) (i p : ℕ) (x : List ℕ) (all : Option ℕ) → i < length words → x ≡ get_or words i x →
    position_from (λ word. bytes_eq word name) p (drop i words) ≡ all → bytes_eq x name ≡ false → position_from (λ word. bytes_eq word name) (p + 1) (drop (i + 1) words) ≡ all
place_further words name i p x all below is rest other =
    ap (λ b. cond b (Some p) (position_from (λ word. bytes_eq word name) (p + 1) (drop (i + 1) words))) (sym other)
    ∙ ap (position_from (λ word. bytes_eq word name) p) (sym (at_element words i x below is)) ∙ rest

-- ---- paths and lists of sources

pub other_lengths : {A : Type 0} (f : A → List ℕ) (a b : List A) → length a ≢ length b → false ≡ path_eq (map f a) (map f b)
other_lengths f [] [] other = absurd (other refl)
other_lengths f [] (y ∷ b) other = refl
other_lengths f (x ∷ a) [] other = refl
other_lengths f (x ∷ a) (y ∷ b) other = by (bytes_eq (f x) (f y)) (other_lengths f a b (λ same. other (ap suc same)))
  where
    by : (t : Bool) {r : Bool} → false ≡ r → false ≡ (t && r)
    by true rest = rest
    by false rest = refl

pub path_step : {A : Type 0} (f : A → List ℕ) (a b : List A) (i : ℕ) (x y : A) (t all : Bool) → i < length a → i < length b → x ≡ get_or a i x → y ≡ get_or b i y → bytes_eq (f x) (f y) ≡ t →
    path_eq (map f (drop i a)) (map f (drop i b)) ≡ all → (t && path_eq (map f (drop (i + 1) a)) (map f (drop (i + 1) b))) ≡ all
path_step f a b i x y t all below_a below_b is_a is_b test rest =
    ap (λ r. r && path_eq (map f (drop (i + 1) a)) (map f (drop (i + 1) b))) (sym test)
    ∙ ap (λ xs. path_eq (map f xs) (map f (y ∷ drop (i + 1) b))) (sym (at_element a i x below_a is_a))
    ∙ ap (λ ys. path_eq (map f (drop i a)) (map f ys)) (sym (at_element b i y below_b is_b))
    ∙ rest

pub other_counts : {A : Type 0} (f : A → SourceEntry) (frames : List Frame) (a b : List A) → length a ≢ length b → false ≡ same_listings (sources_in frames (map f a)) (sources_in frames (map f b))
other_counts f frames [] [] other = absurd (other refl)
other_counts f frames [] (y ∷ b) other = refl
other_counts f frames (x ∷ a) [] other = refl
other_counts f frames (x ∷ a) (y ∷ b) other = by (listing_eq (f x).piece.listing (f y).piece.listing) (other_counts f frames a b (λ same. other (ap suc same)))
  where
    by : (t : Bool) {r : Bool} → false ≡ r → false ≡ (t && r)
    by true rest = rest
    by false rest = refl

-- ---- iteration variables

iteration_step : (its : Iterations) (name : List ℕ) (i : ℕ) (x : List ℕ × ℤ) (b : Bool) → i < length its → x ≡ get_or its i x → bytes_eq x.0 name ≡ b →
    cond b (Some x.1) (iteration (drop (i + 1) its) name) ≡ iteration (drop i its) name
iteration_step its name i x b below is test =
    ap (λ t. cond t (Some x.1) (iteration (drop (i + 1) its) name)) (sym test)
    ∙ ap (λ (xs : Iterations). iteration xs name) (sym (at_element its i x below is))

pub iteration_here : (its : Iterations) (name : List ℕ) (i : ℕ) (x : List ℕ × ℤ) (all : Option ℤ) → i < length its → x ≡ get_or its i x → iteration (drop i its) name ≡ all → bytes_eq x.0 name ≡ true → Some x.1 ≡ all
iteration_here its name i x all below is rest test = iteration_step its name i x true below is test ∙ rest

pub iteration_further : (its : Iterations) (name : List ℕ) (i : ℕ) (x : List ℕ × ℤ) (all : Option ℤ) → i < length its → x ≡ get_or its i x → iteration (drop i its) name ≡ all → bytes_eq x.0 name ≡ false →
    iteration (drop (i + 1) its) name ≡ all
iteration_further its name i x all below is rest test = iteration_step its name i x false below is test ∙ rest
