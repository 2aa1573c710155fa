use Rattle.std.proofs.Common.{refl, arith}
use Rattle.mo_match.proofs.Entries.{entry_allowed, entry_refused, entry_loose}
use Rattle.mo_match.proofs.graph.Graph.usable.Goals as goal

pub overflow_sub-unknown : goal.overflow_sub-unknown
overflow_sub-unknown g c = omega (arith, c.entry-unknown.ensures.known)

pub bounds-self-inside-unknown : goal.bounds-self-inside-unknown
bounds-self-inside-unknown g c = omega (arith, c.entry-unknown.ensures.known, c.self.invariant.unknowns c.if-self.true)

pub returns-then-from-sum-clause-none : goal.returns-then-from-sum-clause-none
returns-then-from-sum-clause-none g c = rw (← c.self.view_is) (entry_refused _ _ _ _ _ _ _ c.entry-unknown.ensures.unknown c.entry-unknown.ensures.order refl refl c.if-self.true (λ e. c.if-from-sum.true (omega arith)))

pub returns-else-from-sum-clause-some : goal.returns-else-from-sum-clause-some
returns-else-from-sum-clause-some g c = rw (← c.self.view_is) (c.entry-unknown.ensures.unknown, entry_allowed _ _ _ _ _ _ _ c.entry-unknown.ensures.unknown c.entry-unknown.ensures.order refl refl (omega (arith, c.if-from-sum.false)))

pub returns-else-self-clause-some : goal.returns-else-self-clause-some
returns-else-self-clause-some g c = rw (← c.self.view_is) (c.entry-unknown.ensures.unknown, entry_loose _ _ _ c.if-self.false)
