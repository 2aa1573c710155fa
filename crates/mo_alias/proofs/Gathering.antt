-- What is made of each element of a list, and of two answers.
use Rattle.std.proofs.Common.{◌≡◌, ℕ, ◌+◌, ◌<◌, List, [], ◌∷◌, ◌++◌, get_or, length, map, take, sym, ap, ap₂, ◌∙◌, subst, add-one}
use Rattle.std.specs.Prelude.{Result, Ok, Err, IfOk}
use Rattle.std.proofs.Math.Seq.{take-suc}
use Rattle.std.proofs.lemmas.List.{map-append}

pub one_more_taken : {A : Type 0} (xs : List A) (i : ℕ) (x : A) → i < length xs → x ≡ get_or xs i x → take (i + 1) xs ≡ take i xs ++ x ∷ []
one_more_taken xs i x small is = rw add-one (take-suc xs i x small ∙ ap (λ y. take i xs ++ y ∷ []) (sym is))

pub mapped_more : {A B E : Type 0} (f : A → B) (xs : List A) (i : ℕ) (x : A) (made new : List B) (r : Result B E) → i < length xs → x ≡ get_or xs i x → made ≡ map f (take i xs)
    → IfOk r (λ y. y ≡ f x) → (y : B) × (r ≡ Ok y) × (new ≡ made ++ y ∷ []) → new ≡ map f (take (i + 1) xs)
mapped_more f xs i x made new r small is so_far made_is put =
    put.2 ∙ ap₂ (λ a b. a ++ b ∷ []) so_far (subst (λ w. IfOk w (λ y. y ≡ f x)) put.1 made_is)
    ∙ sym (map-append f (take i xs) (x ∷ [])) ∙ ap (map f) (sym (one_more_taken xs i x small is))

pub both_made : {A B E : Type 0} (first : Result A E) (second : Result B E) (r : Result (A × B) E) (p : A) (q : B)
    → IfOk r (λ pair. (first ≡ Ok pair.0) × (second ≡ Ok pair.1)) → IfOk first (λ x. x ≡ p) → IfOk second (λ y. y ≡ q) → IfOk r (λ pair. pair ≡ (p, q))
both_made first second (Ok made) p q values f s =
    ap₂ (λ x y. (x, y)) (subst (λ w. IfOk w (λ x. x ≡ p)) values.0 f) (subst (λ w. IfOk w (λ y. y ≡ q)) values.1 s)
both_made first second (Err e) p q values f s = tt

pub both_each : {A B E : Type 0} (first : Result A E) (second : Result B E) (r : Result (A × B) E) (P : A → Type 0) (Q : B → Type 0)
    → IfOk r (λ pair. (first ≡ Ok pair.0) × (second ≡ Ok pair.1)) → IfOk first P → IfOk second Q → IfOk r (λ pair. P pair.0 × Q pair.1)
both_each first second (Ok made) P Q values f s = (subst (λ w. IfOk w P) values.0 f, subst (λ w. IfOk w Q) values.1 s)
both_each first second (Err e) P Q values f s = tt

pub same_inside : {A E : Type 0} (inner r : Result A E) (P : A → Type 0) → IfOk r (λ made. inner ≡ Ok made) → IfOk inner P → IfOk r P
same_inside inner (Ok made) P is holds = subst (λ w. IfOk w P) is holds
same_inside inner (Err e) P is holds = tt
