-- What lists of what is kept hold.
use Rattle.std.proofs.Common.{◌≡◌, ℕ, inl, inr, List, [], ◌∷◌, ◌++◌, Some, ap, sym, subst, ◌∙◌}
use Rattle.std.specs.Prelude.{slice_get}
use Rattle.mo_scope.specs.Kept.{IsHeld, OldOr}
use Rattle.mo_scope.proofs.Numbered.{at_append}

pub none_held : {A : Type 0} (P : A → Type 0) (items : List A) → items ≡ [] → (x : A) → IsHeld items x → P x
none_held P items none x held = absurd (empty held.at (ap (λ xs. slice_get xs held.at) (sym none) ∙ held.is))
  where
    empty : (n : ℕ) → slice_get [] n ≡ Some x → ⊥
    empty n is = cc

pub none_more : {A : Type 0} (P : A → Type 0) (old new : List A) → new ≡ old → OldOr old new P
none_more P old new same held is = inl (subst (λ xs. IsHeld xs held) same is)

pub one_more : {A : Type 0} (P : A → Type 0) (old new : List A) (made : A) → new ≡ old ++ made ∷ [] → P made → OldOr old new P
one_more P old new made pushed is_this held is =
    elim (at_append old made is.at held (ap (λ xs. slice_get xs is.at) (sym pushed) ∙ is.is)) [
      | inl before ↦ inl (record { at = is.at; is = before })
      | inr last ↦ inr (subst P last.1 is_this)
    ]
