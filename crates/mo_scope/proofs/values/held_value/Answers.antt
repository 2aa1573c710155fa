-- An argument of which names are left has no value.
use Rattle.std.proofs.Common.{◌<◌, ◌∙◌, ap, sym, subst}
use Rattle.mo_scope.specs.Parts.{held}
use Rattle.mo_scope.specs.Sights.{given_seen}
use Rattle.mo_scope.proofs.Picking.{no_value_before}
use Rattle.mo_scope.proofs.values.held_value.Goals as goal

pub returns-then-passed-len : goal.returns-then-passed-len
returns-then-passed-len c = sym
    (ap (λ given. (held (given_seen given)).value) c.in-Argued.is
    ∙ no_value_before c.in-Argued.argument.now c.in-Argued.passed (subst (λ n. c.in-Argued.passed < n) c.len.ensures c.if-passed-len.true))
