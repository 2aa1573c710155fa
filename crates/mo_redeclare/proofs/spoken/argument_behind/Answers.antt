-- An argument redeclares where no name of it is left.
use Rattle.std.proofs.Common.{◌<◌, ◌≤◌, subst, sym}
use Rattle.mo_scope.specs.Worlds.{frames_of, table_in}
use Rattle.mo_redeclare.proofs.Speaking.{behind_left, behind_some}
use Rattle.mo_redeclare.proofs.spoken.argument_behind.Goals as goal

pub returns-then-passed-len-clause-are : goal.returns-then-passed-len-clause-are
returns-then-passed-len-clause-are c =
    behind_left (table_in c.args.s.now) c.args.argument.now c.args.passed _ c.args.passing.now.name.now (subst (λ n. c.args.passed < n) c.len.ensures c.if-passed-len.true)

pub returns-in_ok-behind-in-Some-clause-are : goal.returns-in_ok-behind-in-Some-clause-are
returns-in_ok-behind-in-Some-clause-are c =
    behind_some (table_in c.args.s.now) c.args.argument.now c.args.passed _ c.args.passing.now.name.now c.in-Some.element.now c.in-Some.keeps _ _
    (subst (λ n. n ≤ c.args.passed) c.len.ensures c.if-passed-len.false)
    (sym c.in-Some.ensures)
    c.declared.ensures.is (c.in_ok-behind-in-Some.ensures.is (frames_of c.args.s.now))
