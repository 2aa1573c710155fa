-- Names that are left keep the argument; else its list stays.
use Rattle.std.proofs.Common.{◌<◌, ap, sym, subst, ◌∙◌}
use Rattle.mo_scope.specs.Sights.{given_seen}
use Rattle.mo_scope.proofs.Lists.{valueless_left}
use Rattle.mo_scope.proofs.written.valueless.Goals as goal

pub returns-then-passed-len : goal.returns-then-passed-len
returns-then-passed-len c = λ source given.
    ap given_seen c.in-Argued.is
    ∙ sym (valueless_left source c.in-Argued.argument.now c.in-Argued.passed (given ∙ ap given_seen c.in-Argued.is) (subst (λ n. c.in-Argued.passed < n) c.len.ensures c.if-passed-len.true))
