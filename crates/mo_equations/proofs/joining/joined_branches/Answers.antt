-- One branch more.
use Rattle.std.proofs.Common.{Ok, ap, sym, ◌∙◌}
use Rattle.std.proofs.lemmas.List.{take_all}
use Rattle.mo_typing.specs.Outcome.{each}
use Rattle.mo_equations.specs.steps.Choices.{branch_at}
use Rattle.mo_equations.proofs.Joined.{next_of}
use Rattle.mo_equations.proofs.Tabled.{one_more}
use Rattle.mo_equations.proofs.joining.joined_branches.Goals as goal

pub loop-branch-init : goal.loop-branch-init
loop-branch-init c = ap (λ made. Ok made) (sym c.new-made.ensures)

pub loop-branch-preserved : goal.loop-branch-preserved
loop-branch-preserved c =
    rw c.in_ok-push.ensures.ok
    (next_of (branch_at c.args.k) c.args.branches.now c.loop-branch.branch-index c.loop-branch.made c.branch-item.result _
    (one_more c.args.branches.now c.loop-branch.branch-index c.branch-item.result c.loop-branch-test.true c.branch-item.is) c.loop-branch.invariant c.in_ok-joined_branch.ensures)

pub returns : goal.returns
returns c = ap (each (branch_at c.args.k)) (sym (take_all c.loop-branch.branch-index c.args.branches.now c.loop-branch-test.false)) ∙ c.loop-branch.invariant
