-- One after another.
use Rattle.std.proofs.lemmas.List.Elements.{All-nil}
use Rattle.mo_equations.specs.steps.Checking.{JoinsNumbers}
use Rattle.mo_equations.proofs.Checked.{all_done, all_next}
use Rattle.mo_equations.proofs.checks.join_numbers.Goals as goal

pub loop-connect-init : goal.loop-connect-init
loop-connect-init c = All-nil (JoinsNumbers c.args.vars.now)

pub loop-connect-preserved : goal.loop-connect-preserved
loop-connect-preserved c = all_next (JoinsNumbers c.args.vars.now) c.args.connects.now c.loop-connect.connect-index c.connect-item.result c.loop-connect-test.true c.connect-item.is (c.has_number_ends.ensures c.if-not-has_number_ends.false) c.loop-connect.invariant

pub returns : goal.returns
returns c = λ yes. all_done (JoinsNumbers c.args.vars.now) c.args.connects.now c.loop-connect.connect-index c.loop-connect-test.false c.loop-connect.invariant
