-- Each list in the last world.
use Rattle.std.proofs.Common.{sym, subst}
use Rattle.mo_scope.specs.Places.{Every}
use Rattle.mo_lookup.specs.steps.Settled.{AreOwned}
use Rattle.mo_names.specs.Sights.{IsBase, IsInherited}
use Rattle.mo_names.proofs.Later.{are_bases_later, grows_refl, grows_trans, is_frame_later}
use Rattle.mo_lookup.proofs.OwnedWalks.{bases_last, bases_stand, members_last, members_stand, of_first, of_second}
use Rattle.mo_lookup.proofs.owning.parts_owned.Goals as goal

pub members_owned-members-requires-clause-frame : goal.members_owned-members-requires-clause-frame
members_owned-members-requires-clause-frame c = c.requires.frame

pub members_owned-members-requires-clause-members : goal.members_owned-members-requires-clause-members
members_owned-members-requires-clause-members c = subst (Every (IsInherited c.args.s.now)) (sym c.as_slice.ensures) c.requires.walk.members

pub members_owned-members-requires-clause-made : goal.members_owned-members-requires-clause-made
members_owned-members-requires-clause-made c = subst (AreOwned c.args.s.now) (sym c.new-made.ensures) tt

pub bases_owned-bases-requires-clause-frame : goal.bases_owned-bases-requires-clause-frame
bases_owned-bases-requires-clause-frame c = is_frame_later c.args.s.now c.members_owned-members.new.s c.args.frame.0 c.members_owned-members.ensures.grows c.requires.frame

pub bases_owned-bases-requires-clause-bases : goal.bases_owned-bases-requires-clause-bases
bases_owned-bases-requires-clause-bases c = subst (Every (IsBase c.members_owned-members.new.s)) (sym c.as_slice-2.ensures) (are_bases_later c.args.s.now c.members_owned-members.new.s c.args.walk.now.bases c.members_owned-members.ensures.grows c.requires.walk.bases)

pub bases_owned-bases-requires-clause-made : goal.bases_owned-bases-requires-clause-made
bases_owned-bases-requires-clause-made c = c.members_owned-members.ensures.made

pub bases_owned-sections-requires-clause-frame : goal.bases_owned-sections-requires-clause-frame
bases_owned-sections-requires-clause-frame c = is_frame_later c.args.s.now c.bases_owned-bases.new.s c.args.frame.0 (grows_trans c.args.s.now c.members_owned-members.new.s c.bases_owned-bases.new.s c.members_owned-members.ensures.grows c.bases_owned-bases.ensures.grows) c.requires.frame

pub bases_owned-sections-requires-clause-bases : goal.bases_owned-sections-requires-clause-bases
bases_owned-sections-requires-clause-bases c = subst (Every (IsBase c.bases_owned-bases.new.s)) (sym c.as_slice-3.ensures) (are_bases_later c.args.s.now c.bases_owned-bases.new.s c.args.walk.now.sections (grows_trans c.args.s.now c.members_owned-members.new.s c.bases_owned-bases.new.s c.members_owned-members.ensures.grows c.bases_owned-bases.ensures.grows) c.requires.walk.sections)

pub bases_owned-sections-requires-clause-made : goal.bases_owned-sections-requires-clause-made
bases_owned-sections-requires-clause-made c = c.bases_owned-bases.ensures.made

pub returns-clause-grows : goal.returns-clause-grows
returns-clause-grows c = grows_trans c.args.s.now c.bases_owned-bases.new.s c.bases_owned-sections.new.s (grows_trans c.args.s.now c.members_owned-members.new.s c.bases_owned-bases.new.s c.members_owned-members.ensures.grows c.bases_owned-bases.ensures.grows) c.bases_owned-sections.ensures.grows

pub returns-clause-members : goal.returns-clause-members
returns-clause-members c =
    let s = c.args.s.now in
    let u = c.members_owned-members.new.s in
    let v = c.bases_owned-bases.new.s in
    let w = c.bases_owned-sections.new.s in
    of_first c.members_owned-members.result c.both.result c.both-2.result _ c.both-2.ensures.values
    (members_last s u w c.args.frame.0 c.args.walk.now.members c.as_slice.result.now c.members_owned-members.result c.as_slice.ensures (grows_trans u v w c.bases_owned-bases.ensures.grows c.bases_owned-sections.ensures.grows) c.members_owned-members.ensures.are c.members_owned-members.ensures.exist)

pub returns-clause-bases : goal.returns-clause-bases
returns-clause-bases c =
    let s = c.args.s.now in
    let u = c.members_owned-members.new.s in
    let v = c.bases_owned-bases.new.s in
    let w = c.bases_owned-sections.new.s in
    of_second c.members_owned-members.result c.both.result c.both-2.result _ c.both-2.ensures.values (of_first c.bases_owned-bases.result c.bases_owned-sections.result c.both.result _ c.both.ensures.values
    (bases_last s u v w c.args.frame.0 c.args.walk.now.bases c.as_slice-2.result.now c.bases_owned-bases.result c.as_slice-2.ensures c.members_owned-members.ensures.grows c.bases_owned-sections.ensures.grows c.requires.frame c.requires.walk.bases c.bases_owned-bases.ensures.are c.bases_owned-bases.ensures.exist))

pub returns-clause-sections : goal.returns-clause-sections
returns-clause-sections c =
    let s = c.args.s.now in
    let u = c.members_owned-members.new.s in
    let v = c.bases_owned-bases.new.s in
    let w = c.bases_owned-sections.new.s in
    of_second c.members_owned-members.result c.both.result c.both-2.result _ c.both-2.ensures.values (of_second c.bases_owned-bases.result c.bases_owned-sections.result c.both.result _ c.both.ensures.values
    (bases_last s v w w c.args.frame.0 c.args.walk.now.sections c.as_slice-3.result.now c.bases_owned-sections.result c.as_slice-3.ensures (grows_trans s u v c.members_owned-members.ensures.grows c.bases_owned-bases.ensures.grows) (grows_refl w) c.requires.frame c.requires.walk.sections c.bases_owned-sections.ensures.are c.bases_owned-sections.ensures.exist))

pub returns-clause-members_exist : goal.returns-clause-members_exist
returns-clause-members_exist c =
    let u = c.members_owned-members.new.s in
    let v = c.bases_owned-bases.new.s in
    let w = c.bases_owned-sections.new.s in
    of_first c.members_owned-members.result c.both.result c.both-2.result (Every (IsInherited w)) c.both-2.ensures.values
    (members_stand u w c.members_owned-members.result (grows_trans u v w c.bases_owned-bases.ensures.grows c.bases_owned-sections.ensures.grows) c.members_owned-members.ensures.exist)

pub returns-clause-bases_exist : goal.returns-clause-bases_exist
returns-clause-bases_exist c =
    let w = c.bases_owned-sections.new.s in
    of_second c.members_owned-members.result c.both.result c.both-2.result _ c.both-2.ensures.values (of_first c.bases_owned-bases.result c.bases_owned-sections.result c.both.result (Every (IsBase w)) c.both.ensures.values
    (bases_stand c.bases_owned-bases.new.s w c.bases_owned-bases.result c.bases_owned-sections.ensures.grows c.bases_owned-bases.ensures.exist))

pub returns-clause-sections_exist : goal.returns-clause-sections_exist
returns-clause-sections_exist c =
    of_second c.members_owned-members.result c.both.result c.both-2.result _ c.both-2.ensures.values (of_second c.bases_owned-bases.result c.bases_owned-sections.result c.both.result (Every (IsBase c.bases_owned-sections.new.s)) c.both.ensures.values c.bases_owned-sections.ensures.exist)
