-- Lists that are gathered element by element.
use Rattle.std.proofs.Common.{◌≡◌, ℕ, zero, suc, ◌+◌, ◌<◌, List, [], ◌∷◌, ◌++◌, map, length, drop, get_or, Ok, Err, refl, ap, sym, ◌∙◌, append_assoc, add-one, drop-cons}
use Rattle.std.specs.Prelude.{fold}
use Rattle.std.proofs.lemmas.List.{append-nil}
use Rattle.mo_flat.specs.declared.array.Subscript.{Subscript}
use Rattle.mo_syntax.specs.Outcome.{Outcome, and_then}
use Rattle.mo_typing.specs.Outcome.{each}
use Rattle.mo_typing.specs.Dims.{Dims, kept, behind, subscripted}
use Rattle.mo_typing.proofs.Gathering.{gathered}

-- one more element at the end
abbrev pub snoc : {A : Type 0} → List A → A → List A
snoc xs x = xs ++ x ∷ []

snoc_all : {A : Type 0} (xs ys : List A) → fold snoc xs ys ≡ xs ++ ys
snoc_all xs [] = sym (append-nil xs)
snoc_all xs (y ∷ ys) = snoc_all (xs ++ y ∷ []) ys ∙ append_assoc xs (y ∷ []) ys

map_id : {A : Type 0} (xs : List A) → map (λ x. x) xs ≡ xs
map_id [] = refl
map_id (x ∷ xs) = ap (λ ys. x ∷ ys) (map_id xs)

whole : {A : Type 0} (o : Outcome (List A)) → and_then o (λ ys. Ok (fold snoc [] ys)) ≡ o
whole (Ok ys) = ap (λ zs. Ok zs) (snoc_all [] ys)
whole (Err b) = refl

-- gathering the values of all
pub all_gathered : {A B : Type 0} (f : A → Outcome B) (xs : List A) → gathered (λ x. x) f snoc (λ made. Ok made) [] xs ≡ each f xs
all_gathered f xs = rw (map_id xs) (whole (each f xs))

behind_drop : {A : Type 0} (k : ℕ) (xs : List A) → behind (drop k xs) ≡ drop (suc k) xs
behind_drop zero [] = refl
behind_drop zero (x ∷ xs) = refl
behind_drop (suc k) [] = refl
behind_drop (suc k) (x ∷ xs) = behind_drop k xs

-- one more dimension
subscripted_at : (subs : List Subscript) (dims : Dims) (k n : ℕ) → k < length dims → n ≡ get_or dims k 0 →
    subscripted (drop k subs) (drop k dims) ≡ kept (drop k subs) n ++ subscripted (drop (k + 1) subs) (drop (k + 1) dims)
subscripted_at subs dims k n small is =
    rw (add-one, drop-cons dims k 0 small, is) (ap (λ s. kept (drop k subs) (get_or dims k 0) ++ subscripted s (drop (suc k) dims)) (behind_drop k subs))

pub subscripted_step : (made new : Dims) (subs : List Subscript) (dims : Dims) (k : ℕ) (all : Dims) → k < length dims →
    new ≡ made ++ kept (drop k subs) (get_or dims k 0) → made ++ subscripted (drop k subs) (drop k dims) ≡ all →
    new ++ subscripted (drop (k + 1) subs) (drop (k + 1) dims) ≡ all
subscripted_step made new subs dims k all small is before =
    rw is (append_assoc made (kept (drop k subs) (get_or dims k 0)) (subscripted (drop (k + 1) subs) (drop (k + 1) dims))
    ∙ (ap (λ r. made ++ r) (sym (subscripted_at subs dims k (get_or dims k 0) small refl)) ∙ before))
