-- One after another.
use Rattle.std.proofs.lemmas.List.Elements.{All-nil}
use Rattle.mo_equations.specs.steps.Checking.{AreNumbers}
use Rattle.mo_equations.proofs.Checked.{all_done, all_next}
use Rattle.mo_equations.proofs.checks.have_numbers.Goals as goal

pub loop-leaves-init : goal.loop-leaves-init
loop-leaves-init c = All-nil (AreNumbers c.args.vars.now)

pub loop-leaves-preserved : goal.loop-leaves-preserved
loop-leaves-preserved c = all_next (AreNumbers c.args.vars.now) c.args.elements.now c.loop-leaves.leaves-index c.leaves-item.result c.loop-leaves-test.true c.leaves-item.is (rw c.as_slice.ensures at (c.are_numbers.ensures c.if-not-are_numbers.false)) c.loop-leaves.invariant

pub returns : goal.returns
returns c = λ yes. all_done (AreNumbers c.args.vars.now) c.args.elements.now c.loop-leaves.leaves-index c.loop-leaves-test.false c.loop-leaves.invariant
