use Rattle.mo_graph.specs.Lists.{ListsWhere}
use Rattle.mo_alias.specs.Aliases.{IsSpare}
use Rattle.mo_alias.proofs.find.dropped.Given as goal

abbrev pub invariant-loop-at : goal.invariant-loop-at
invariant-loop-at l = ListsWhere (IsSpare l._said) l.at l.dropped
