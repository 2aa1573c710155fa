use Rattle.std.proofs.Common.{List, ℕ, slice_index}
use Rattle.mo_incidence.specs.Signature.{equations, entries}
use Rattle.mo_match.specs.steps.Threads.{IsThreadedTo}
use Rattle.mo_match.proofs.SpreadLemmas.{IsWalkingTo}
use Rattle.mo_match.proofs.spread.spread_from.Given as goal

abbrev pub invariant-loop-cursor : goal.invariant-loop-cursor
invariant-loop-cursor l = (target : List ℕ) × IsThreadedTo l.inc l.threaded.last.now l.threaded.before.now l.threaded.row_of.now target (entries l.inc) (equations l.inc) 0
    × IsWalkingTo l.inc l.threaded.pairs.now l.threaded.owner.now l.threaded.last.now l.threaded.before.now l.threaded.row_of.now target l.initial.reached l.initial.order l.end l.reached l.order l.tail (slice_index l.initial.order l.head) l.cursor

abbrev pub decreases-loop-cursor : goal.decreases-loop-cursor
decreases-loop-cursor l = l.cursor
