-- One prefix more.
use Rattle.std.proofs.Common.{◌∙◌, arith, ap, sym, if◌then◌else◌}
use Rattle.std.specs.HashMap.{get_by_text}
use Rattle.mo_equations.specs.steps.LeafTables.{has_text, numbers_or_none, with_number}
use Rattle.mo_equations.proofs.Around.{any_of_all, around_more}
use Rattle.mo_equations.proofs.leaves.put_around.Goals as goal

pub loop-k-preserved : goal.loop-k-preserved
loop-k-preserved c = λ other.
    around_more other c.args.path.now c.args.number c.loop-k.k (numbers_or_none (get_by_text c.args.below.now other)) (numbers_or_none (get_by_text c.loop-k.below other))
    (numbers_or_none (get_by_text c.put.new.below other)) (omega (arith, c.loop-k-test.true)) (c.loop-k.invariant other) (rw (sym c.in_ok-text.ensures) (c.in_ok-put.ensures other))

pub returns : goal.returns
returns c = λ other.
    c.loop-k.invariant other
    ∙ ap (λ b. if b then with_number (numbers_or_none (get_by_text c.args.below.now other)) c.args.number else numbers_or_none (get_by_text c.args.below.now other))
    (any_of_all (has_text other) c.args.path.now c.loop-k.k c.loop-k-test.false)
