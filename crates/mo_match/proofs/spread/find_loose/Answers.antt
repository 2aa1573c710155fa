use Rattle.std.proofs.Common.{◌≡◌, arith, subst, ℕ}
use Rattle.mo_match.specs.steps.Spreading.{IsSpreadTo}
use Rattle.mo_match.proofs.Loose.{marked_undetermined, undetermined_marked}
use Rattle.mo_match.proofs.spread.find_loose.Goals as goal

pub returns-clause-marked : goal.returns-clause-marked
returns-clause-marked c =
    let at : c.loop-head.head ≡ c.loop-head.tail = omega arith in
    let closed = subst (λ (h : ℕ). IsSpreadTo c.args.inc.now c.args.held.now.pairs.now c.loop-head.reached c.loop-head.order h) at c.loop-head.invariant.closed in
    marked_undetermined _ _ _ _ _ _ c.requires.matching c.requires.all c.loop-head.invariant.spread c.equations-equations.ensures.sound c.loop-head.invariant.free closed

pub returns-clause-all : goal.returns-clause-all
returns-clause-all c =
    let at : c.loop-head.head ≡ c.loop-head.tail = omega arith in
    let closed = subst (λ (h : ℕ). IsSpreadTo c.args.inc.now c.args.held.now.pairs.now c.loop-head.reached c.loop-head.order h) at c.loop-head.invariant.closed in
    undetermined_marked _ _ _ _ _ _ c.requires.matching c.requires.all c.loop-head.invariant.spread c.equations-equations.ensures.sound c.loop-head.invariant.free closed
