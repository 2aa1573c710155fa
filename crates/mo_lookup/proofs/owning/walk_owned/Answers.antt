-- What was made stands in the last world.
use Rattle.mo_scope.specs.Worlds.{frame_at}
use Rattle.mo_lookup.proofs.OwnedWalks.{owned_names, same_names, same_walk}
use Rattle.mo_names.proofs.Outcomes.{at_exit}
use Rattle.mo_lookup.proofs.owning.walk_owned.Goals as goal

pub parts_owned-requires-clause-frame : goal.parts_owned-requires-clause-frame
parts_owned-requires-clause-frame c = c.requires.frame

pub parts_owned-requires-clause-walk : goal.parts_owned-requires-clause-walk
parts_owned-requires-clause-walk c = c.requires.walk

pub returns-in_err-members-clause-grows : goal.returns-in_err-members-clause-grows
returns-in_err-members-clause-grows c = c.in_err-members.ensures.grows

pub returns-in_err-members-clause-is : goal.returns-in_err-members-clause-is
returns-in_err-members-clause-is c = at_exit _ _ c.from_residual.result c.from_residual.ensures.1

pub returns-in_err-members-clause-stand : goal.returns-in_err-members-clause-stand
returns-in_err-members-clause-stand c = at_exit _ _ c.from_residual.result c.from_residual.ensures.1

pub returns-clause-grows : goal.returns-clause-grows
returns-clause-grows c = c.in_ok-members.ensures.grows

pub returns-clause-is : goal.returns-clause-is
returns-clause-is c = same_walk _ _ _ _ _ _ c.in_ok-members.ensures.members c.in_ok-members.ensures.bases c.in_ok-members.ensures.sections

pub returns-clause-stand : goal.returns-clause-stand
returns-clause-stand c = record {
  members = c.in_ok-members.ensures.members_exist;
  bases = c.in_ok-members.ensures.bases_exist;
  sections = c.in_ok-members.ensures.sections_exist;
  leaf = tt;
  names =
      same_names c.args.walk.members c.in_ok-members.members c.args.walk.names.value
      (owned_names c.args.s.now c.parts_owned.new.s (frame_at c.args.s.now c.args.frame.0) c.args.walk.members c.in_ok-members.members c.in_ok-members.ensures.members) c.requires.walk.names;
}
