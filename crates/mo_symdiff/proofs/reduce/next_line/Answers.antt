use Rattle.mo_symdiff.proofs.Bounding.{short_by}
use Rattle.mo_symdiff.proofs.reduce.next_line.Goals as goal

pub returns-then-short : goal.returns-then-short
returns-then-short c = short_by _ _ _ _ _ _ (c.is_short-short.ensures c.if-short.true) c.least_of_derived.ensures.nodes c.least_of_derived.ensures.bytes
