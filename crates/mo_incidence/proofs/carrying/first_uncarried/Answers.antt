use Rattle.std.proofs.Common.{◌≡◌, ℕ, ◌+◌, ◌<◌, true, false, List, ◌∷◌, Some, length, get_or, drop, sym, ap, ◌∙◌, drop-cons, add-one}
use Rattle.std.specs.Prelude.{◌&&◌, if◌then◌else◌}
use Rattle.mo_flat.specs.declared.model.FlatEquation.{FlatEquation}
use Rattle.mo_flat.specs.declared.model.FlatVar.{FlatVar}
use Rattle.mo_symdiff.specs.Carried.{carries}
use Rattle.mo_incidence.specs.Model.{first_uncarried}
use Rattle.mo_incidence.proofs.carrying.first_uncarried.Goals as goal

opened : (vars : List FlatVar) (qs : List FlatEquation) (i : ℕ) (q : FlatEquation) → i < length qs → q ≡ get_or qs i q → first_uncarried vars (drop i qs) ≡ first_uncarried vars (q ∷ drop (i + 1) qs)
opened vars qs i q h e = ap (first_uncarried vars) (rw (add-one) (drop-cons qs i q h) ∙ ap (λ x. x ∷ drop (i + 1) qs) (sym e))

pub returns-then-not-can_carry_both : goal.returns-then-not-can_carry_both
returns-then-not-can_carry_both c =
    let q = c.equation-item.result in
    let bad : (carries c.args.vars.now q.left && carries c.args.vars.now q.right) ≡ false = sym c.can_carry_both.ensures ∙ c.if-not-can_carry_both.true in
    sym (sym c.loop-equation.invariant ∙ opened c.args.vars.now c.args.equations.now c.loop-equation.equation-index q c.loop-equation-test.true c.equation-item.is
    ∙ ap (λ b. if b then first_uncarried c.args.vars.now (drop (c.loop-equation.equation-index + 1) c.args.equations.now) else Some q.place) bad)

pub loop-equation-preserved : goal.loop-equation-preserved
loop-equation-preserved c =
    let q = c.equation-item.result in
    let good : (carries c.args.vars.now q.left && carries c.args.vars.now q.right) ≡ true = sym c.can_carry_both.ensures ∙ c.if-not-can_carry_both.false in
    sym (sym c.loop-equation.invariant ∙ opened c.args.vars.now c.args.equations.now c.loop-equation.equation-index q c.loop-equation-test.true c.equation-item.is
    ∙ ap (λ b. if b then first_uncarried c.args.vars.now (drop (c.loop-equation.equation-index + 1) c.args.equations.now) else Some q.place) good)
