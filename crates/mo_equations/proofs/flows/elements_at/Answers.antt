-- The levels before the one that was taken.
use Rattle.std.proofs.Common.{sym, subst}
use Rattle.mo_scope.specs.Places.{Every}
use Rattle.mo_equations.specs.steps.Owners.{IsOwnElements}
use Rattle.mo_equations.proofs.Owners.{front_of}
use Rattle.mo_equations.proofs.flows.elements_at.Goals as goal
use Rattle.mo_equations.proofs.flows.elements_at.Goals.{in-Some+else-own-owner, in_default}

pub returns-then-own-owner-clause-levels : goal.returns-then-own-owner-clause-levels
returns-then-own-owner-clause-levels c = front_of (IsOwnElements c.args.s.now) c.args.levels.now c.pop.new.self c.in-Some.own c.requires.levels c.in-Some.ensures

pub returns-clause-levels : goal.returns-clause-levels
returns-clause-levels c = elim c.match-pop.branch [
  | in-Some+else-own-owner w ↦ front_of (IsOwnElements c.args.s.now) c.args.levels.now c.pop.new.self w.in-Some.own c.requires.levels w.in-Some.ensures
  | in_default w ↦ subst (Every (IsOwnElements c.args.s.now)) (sym w.in_default.ensures.1) tt
]
