-- One more element.
use Rattle.std.proofs.Common.{◌∷◌, [], ap, arith, length, length-append, map, refl, reverse, sym, ◌∙◌}
use Rattle.mo_scope.specs.Lookup.{with_members}
use Rattle.mo_scope.specs.Worlds.{frames_of}
use Rattle.mo_names.specs.Sights.{IsInherited, inherited_seen, walk_at}
use Rattle.mo_names.proofs.Joining.{every_turned, members_go_on}
use Rattle.mo_names.proofs.Outcomes.{at_exit}
use Rattle.mo_names.proofs.join.with_members.Goals as goal

pub loop-next-init : goal.loop-next-init
loop-next-init c = record { stand = c.requires.walk; exist = c.requires.inherited; left = refl }

pub with_member-requires-clause-inherited : goal.with_member-requires-clause-inherited
with_member-requires-clause-inherited c = (every_turned (IsInherited c.args.s.now) c.loop-next.rest c.pop.new.self c.in-Some.next c.in-Some.ensures c.loop-next.invariant.exist).0

pub with_member-requires-clause-walk : goal.with_member-requires-clause-walk
with_member-requires-clause-walk c = c.loop-next.invariant.stand

pub returns-in_err-with_member-clause-stand : goal.returns-in_err-with_member-clause-stand
returns-in_err-with_member-clause-stand c = at_exit _ _ c.from_residual.result c.from_residual.ensures.1

pub loop-next-smaller : goal.loop-next-smaller
loop-next-smaller c = omega (arith, ap length c.in-Some.ensures, length-append c.pop.new.self (c.in-Some.next ∷ []))

pub loop-next-preserved : goal.loop-next-preserved
loop-next-preserved c = record {
  stand = c.in_ok-with_member.ensures.stand;
  exist = (every_turned (IsInherited c.args.s.now) c.loop-next.rest c.pop.new.self c.in-Some.next c.in-Some.ensures c.loop-next.invariant.exist).1;
  left =
      members_go_on (inherited_seen (frames_of c.args.s.now)) c.loop-next.rest c.pop.new.self c.in-Some.next (walk_at c.args.s.now c.loop-next.walk) (walk_at c.args.s.now c.with_member.new.walk) _
      c.in-Some.ensures c.loop-next.invariant.left c.in_ok-with_member.ensures.value;
}

pub returns-clause-value : goal.returns-clause-value
returns-clause-value c =
    sym c.loop-next.invariant.left ∙ ap (λ xs. with_members (map (inherited_seen (frames_of c.args.s.now)) (reverse xs)) (walk_at c.args.s.now c.loop-next.walk)) c.in_default.ensures.0

pub returns-clause-stand : goal.returns-clause-stand
returns-clause-stand c = c.loop-next.invariant.stand
