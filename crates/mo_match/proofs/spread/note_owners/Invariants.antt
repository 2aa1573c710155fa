use Rattle.mo_match.proofs.SpreadLemmas.{IsNotedTo}
use Rattle.mo_match.proofs.spread.note_owners.Given as goal

abbrev pub invariant-loop-i : goal.invariant-loop-i
invariant-loop-i l = IsNotedTo l.pairs l.owner l.i
