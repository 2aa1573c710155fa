-- The lines of an equation are put into an empty list.
use Rattle.mo_symdiff.specs.Reduced.{carried_equation}
use Rattle.mo_symdiff.proofs.Bounding.{short_by}
use Rattle.mo_symdiff.proofs.Reducing.{into_empty, short_first}
use Rattle.mo_symdiff.proofs.reduce.equation_lines.Goals as goal

pub returns-then-short : goal.returns-then-short
returns-then-short c =
    let line = carried_equation c.args.vars.now c.args.q.now in
    short_first c.args.vars.now c.args.count line c.args.room.nodes c.args.room.bytes (short_by _ _ _ _ _ _ (c.is_short-short.ensures c.if-short.true) c.in_ok-least.ensures.0 c.in_ok-least.ensures.1)

pub returns-in_default : goal.returns-in_default
returns-in_default c =
    let short = rw c.in_default.is at c.in_ok-rest.ensures in
    rw (← c.in_ok-line.ensures) short

pub returns : goal.returns
returns c =
    let made = rw c.in-Some.is at c.in_ok-rest.ensures in
    rw (← c.in_ok-line.ensures) (into_empty _ _ _ c.new-made.ensures made.0, made.1)
