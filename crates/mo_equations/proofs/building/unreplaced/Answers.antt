-- One more.
use Rattle.std.proofs.Common.{◌≡◌, ℕ, zero, suc, ◌+◌, ◌++◌, ◌∷◌, [], List, Option, None, refl, ap, sym, ◌∙◌, add-one}
use Rattle.mo_equations.specs.declared.flat.Flat.{Flat}
use Rattle.mo_equations.specs.steps.Standing.{unasked}
use Rattle.mo_equations.proofs.building.unreplaced.Goals as goal

one_more : (n : ℕ) → unasked n ++ None ∷ [] ≡ unasked (suc n)
one_more zero = refl
one_more (suc n) = ap (λ (xs : List (Option Flat)). None ∷ xs) (one_more n)

pub loop-k-preserved : goal.loop-k-preserved
loop-k-preserved c =
    let pushed = c.in_ok-push.ensures.items in
    pushed ∙ (ap (λ (xs : List (Option Flat)). xs ++ None ∷ []) c.loop-k.invariant ∙ (one_more c.loop-k._k ∙ ap unasked (sym (add-one c.loop-k._k))))
