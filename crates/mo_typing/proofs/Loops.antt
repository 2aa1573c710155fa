-- Loops over lists.
use Rattle.std.proofs.Common.{◌≡◌, ℕ, suc, ◌+◌, ◌<◌, ◌≤◌, List, ◌∷◌, map, length, drop, get_or, ap, sym, ◌∙◌, add-one, drop-cons}
use Rattle.std.specs.Prelude.{fold}
use Rattle.std.proofs.lemmas.List.{drop_all}

-- the first of what is left
pub opened : {X T : Type 0} (f : List X → T) (xs : List X) (i : ℕ) (x : X) → i < length xs → x ≡ get_or xs i x → f (x ∷ drop (i + 1) xs) ≡ f (drop i xs)
opened f xs i x small is = ap f (rw add-one (ap (λ y. y ∷ drop (suc i) xs) is ∙ sym (drop-cons xs i x small)))

-- one more step of a fold
pub fold_step : {S A B : Type 0} (f : S → B → S) (g : A → B) (s new : S) (xs : List A) (i : ℕ) (x : A) (whole : S) →
    i < length xs → x ≡ get_or xs i x → fold f s (map g (drop i xs)) ≡ whole → new ≡ f s (g x) →
    fold f new (map g (drop (i + 1) xs)) ≡ whole
fold_step f g s new xs i x whole small is before h = rw h (opened (λ ys. fold f s (map g ys)) xs i x small is ∙ before)

-- nothing is left
pub fold_ended : {S A B : Type 0} (f : S → B → S) (g : A → B) (s : S) (xs : List A) (i : ℕ) (whole : S) →
    length xs ≤ i → fold f s (map g (drop i xs)) ≡ whole → s ≡ whole
fold_ended f g s xs i whole all before = ap (λ ys. fold f s (map g ys)) (sym (drop_all i xs all)) ∙ before
