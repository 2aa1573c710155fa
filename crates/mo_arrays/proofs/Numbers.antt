-- Elements in the order of their indices.
use Rattle.std.proofs.Common.{◌≡◌, ℕ, ◌+◌, ◌<◌, Bool, List, [], ◌∷◌, ◌++◌, map, flat_map, length, Option, Some, None, refl, ap, sym, ◌∙◌, add-one, append_assoc, arith}
use Rattle.std.proofs.lemmas.List.{map-append, append-nil}
use Rattle.std.proofs.lemmas.Grind.{common_steps, flat_map-append}
use Rattle.std.proofs.lemmas.Simd.{map-map}
use Rattle.mo_flat.specs.declared.array.ArrayExpr.{ArrayExpr}
use Rattle.mo_flat.specs.declared.expr.FlatExpr.{FlatExpr}
use Rattle.mo_typing.specs.Dims.{Dims}
use Rattle.mo_typing.specs.Indices.{Index, numbers_to, indices}
use Rattle.mo_arrays.specs.Elements.{Chain, inner_term}
use Rattle.mo_arrays.specs.steps.Parts.{inner_terms_with, inner_term_with, part_of}

next : (k : ℕ) → numbers_to (k + 1) ≡ numbers_to k ++ (k + 1) ∷ []
next k = rw add-one refl

-- one more number
pub flat_map_more : {A : Type 0} (f : ℕ → List A) (k : ℕ) → flat_map f (numbers_to (k + 1)) ≡ flat_map f (numbers_to k) ++ f (k + 1)
flat_map_more f k = ap (flat_map f) (next k) ∙ (flat_map-append f (numbers_to k) ((k + 1) ∷ []) ∙ ap (λ xs. flat_map f (numbers_to k) ++ xs) (append-nil (f (k + 1))))

pub inner_more : (chain : Chain) (factor : Option (Bool × Bool × ArrayExpr)) (row column : Index) (k : ℕ) (made : List (Bool × FlatExpr)) (term : Bool × FlatExpr) →
    made ≡ inner_terms_with chain factor row column k → term ∷ [] ≡ inner_term_with chain factor row column (k + 1) →
    made ++ term ∷ [] ≡ inner_terms_with chain factor row column (k + 1)
inner_more chain None row column k made term h t = absurd (let e : ◌≡◌ {A = List (Bool × FlatExpr)} (term ∷ []) [] = t in cc)
inner_more chain (Some factor) row column k made term h t =
    rw (h, t) (sym (map-append (inner_term chain.factors (part_of factor.2) row column) (numbers_to k) ((k + 1) ∷ [])) ∙ ap (map (inner_term chain.factors (part_of factor.2) row column)) (sym (next k)))

maps_flat : {A B C : Type 0} (f : B → C) (g : A → List B) (xs : List A) → map f (flat_map g xs) ≡ flat_map (λ x. map f (g x)) xs
maps_flat f g [] = refl
maps_flat f g (x ∷ xs) = map-append f (g x) (flat_map g xs) ∙ ap (λ ys. map f (g x) ++ ys) (maps_flat f g xs)

flat_same : {A B : Type 0} (f g : A → List B) → ((x : A) → f x ≡ g x) → (xs : List A) → flat_map f xs ≡ flat_map g xs
flat_same f g same [] = refl
flat_same f g same (x ∷ xs) = ap (λ ys. ys ++ flat_map f xs) (same x) ∙ ap (λ ys. g x ++ ys) (flat_same f g same xs)

map_same : {A B : Type 0} (f g : A → B) → ((x : A) → f x ≡ g x) → (xs : List A) → map f xs ≡ map g xs
map_same f g same [] = refl
map_same f g same (x ∷ xs) = ap (λ y. y ∷ map f xs) (same x) ∙ ap (λ ys. g x ∷ ys) (map_same f g same xs)

-- the indices that begin so, by their next number
pub begun_more : {A : Type 0} (f : Index → A) (begun : Index) (n : ℕ) (dims : Dims) →
    flat_map (λ k. map (λ i. f ((begun ++ k ∷ []) ++ i)) (indices dims)) (numbers_to n) ≡ map (λ i. f (begun ++ i)) (indices (n ∷ dims))
begun_more f begun n dims =
    flat_same _ _ (λ k. map_same _ _ (λ i. ap f (append_assoc begun (k ∷ []) i)) (indices dims) ∙ sym (map-map (λ i. f (begun ++ i)) (λ i. k ∷ i) (indices dims))) (numbers_to n)
    ∙ sym (maps_flat (λ i. f (begun ++ i)) (λ k. map (λ i. k ∷ i) (indices dims)) (numbers_to n))

-- the one index of a scalar
pub begun_whole : {A : Type 0} (f : Index → A) (begun : Index) (dims : Dims) (made : List A) (x : A) → length dims < 1 → made ≡ x ∷ [] → x ≡ f begun →
    made ≡ map (λ i. f (begun ++ i)) (indices dims)
begun_whole f begun [] made x small h e = h ∙ (ap (λ y. y ∷ []) e ∙ ap (λ i. f i ∷ []) (sym (append-nil begun)))
begun_whole f begun (n ∷ dims) made x small h e = absurd (grind (arith, common_steps))
