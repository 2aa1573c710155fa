-- A condition that no value decides and the equations of its branch, both or the first stop of them.
use Rattle.std.proofs.Common.{◌≡◌, inl, inr, ℕ, List, Result, Ok, Err, ap, subst}
use Rattle.std.specs.Prelude.{◌⊎◌, IfErr, IfOk, IsOk}
use Rattle.mo_syntax.specs.declared.equation.EquationKind.{EquationKind}
use Rattle.mo_syntax.specs.declared.equation.EquationOf.{EquationOf}
use Rattle.mo_syntax.specs.declared.expr.Expr.{Expr}
use Rattle.mo_syntax.specs.declared.place.Stop.{Stop}
use Rattle.mo_flat.specs.declared.expr.FlatExpr.{FlatExpr}
use Rattle.mo_equations.specs.declared.desk.Desk.{Desk}
use Rattle.mo_equations.specs.declared.flat.Flat.{Flat}
use Rattle.mo_equations.specs.declared.made.Made.{Made as MadeAt}
use Rattle.mo_equations.specs.Equations.{Site, flat_condition, in_branch}
use Rattle.mo_equations.specs.Leaves.{Tree}
use Rattle.mo_equations.specs.steps.Flats.{IsFlat}
use Rattle.mo_equations.specs.steps.Turns.{GivesBranch, GivesMade, all_made_at, undecided_at}
use Rattle.mo_equations.proofs.Formed.{branch_made, branch_stops}

module _ (tree : Tree) (site : Site) (condition : Expr) (equations : List (EquationOf EquationKind)) (turns : ℕ) where
  held_flat : (a b : Flat) → ◌≡◌ {A = Result Flat Stop} (Ok a) (Ok b) → a ≡ b
  held_flat a b e = ap one e
    where
      one : Result Flat Stop → Flat
      one (Ok x) = x
      one (Err stop) = a

  pub both_branch : (result : Result (Flat × MadeAt) Stop) (flat : Flat) (made : Result MadeAt Stop) (desk : Desk) (e : FlatExpr) →
      IfOk result (λ pair. (◌≡◌ {A = Result Flat Stop} (Ok flat) (Ok pair.0)) × (made ≡ Ok pair.1)) →
      IfErr result (λ error. (◌≡◌ {A = Result Flat Stop} (Ok flat) (Err error)) ⊎ (IsOk {T = Flat} {E = Stop} (Ok flat) × (made ≡ Err error))) →
      flat_condition tree site.scope condition ≡ Ok e → IsFlat flat e → GivesMade made desk (all_made_at tree equations (in_branch site) turns) →
      GivesBranch result desk (undecided_at tree site condition equations turns)
  both_branch (Ok pair) flat made desk e v r h is k =
      branch_made tree site condition equations turns desk pair.0 pair.1 e h (subst (λ (f : Flat). IsFlat f e) (held_flat flat pair.0 v.0) is)
      (subst (λ (m : Result MadeAt Stop). GivesMade m desk (all_made_at tree equations (in_branch site) turns)) v.1 k)
  both_branch (Err stop) flat made desk e v (inl clash) h is k = absurd (let no : ◌≡◌ {A = Result Flat Stop} (Ok flat) (Err stop) = clash in cc)
  both_branch (Err stop) flat made desk e v (inr x) h is k =
      branch_stops tree site condition equations turns desk desk e stop h (subst (λ (m : Result MadeAt Stop). GivesMade m desk (all_made_at tree equations (in_branch site) turns)) x.1 k)
