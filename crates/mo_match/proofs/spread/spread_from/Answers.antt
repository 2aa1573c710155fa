use Rattle.std.proofs.Common.{arith}
use Rattle.mo_match.proofs.SpreadLemmas.{mark_room, walk_unknown, walk_on, walk_ends}
use Rattle.mo_match.proofs.spread.spread_from.Goals as goal

pub mark_unknown-tail-requires-clause-room : goal.mark_unknown-tail-requires-clause-room
mark_unknown-tail-requires-clause-room c = λ unmarked.
    let walk = c.loop-cursor.invariant in
    mark_room _ _ _ _ _ _ walk.2.spread
    (walk_unknown _ _ _ _ _ _ _ walk.1 c.requires.matching c.requires.all _ _ _ _ c.requires.head _ _ _ _ walk.2 c.loop-cursor-test.true) unmarked

pub loop-cursor-preserved : goal.loop-cursor-preserved
loop-cursor-preserved c =
    let walk = c.loop-cursor.invariant in
    (walk.0, walk.1, walk_on _ _ _ _ _ _ _ walk.1 c.requires.matching c.requires.all _ _ _ _ c.requires.head _ _ _ _ walk.2 c.loop-cursor-test.true _ _ _ c.mark_unknown-tail.ensures)

pub returns-clause-from : goal.returns-clause-from
returns-clause-from c =
    let walk = c.loop-cursor.invariant in
    walk_ends _ _ _ _ _ _ _ walk.1 c.requires.matching c.requires.all _ _ _ _ c.requires.head _ _ _ _ walk.2 (omega arith)
