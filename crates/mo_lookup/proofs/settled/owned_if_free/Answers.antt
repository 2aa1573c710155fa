-- Where no class is having its bases found, none of these is.
use Rattle.std.proofs.Common.{◌≡◌, Ok, true, ap, rules, sym, ◌∙◌}
use Rattle.mo_scope.specs.Frames.{Frame}
use Rattle.mo_scope.specs.Worlds.{frame_at, table_in}
use Rattle.mo_names.specs.steps.Twins.{owned_walk}
use Rattle.mo_names.proofs.Later.{grows_refl}
use Rattle.mo_lookup.proofs.Settling.{elements_freely}
use Rattle.mo_names.specs.Sights.{walk_at}
use Rattle.mo_lookup.proofs.settled.owned_if_free.Goals as goal

pub returns-in-Ok-clause-is : goal.returns-in-Ok-clause-is
returns-in-Ok-clause-is c =
    let F : Frame = frame_at c.args.s.now c.args.frame.0 in
    let so : c.is_so_freely.result ≡ true = search rules in
    λ place. elements_freely (table_in c.args.s.now) F (owned_walk F (walk_at c.args.s.now c.args.made.walk)) c.args.made.classes c.args.made.deep place
    (c.is_so_freely.ensures.other so) (c.is_so_freely.ensures.less so) (c.requires.told (c.is_so_freely.ensures.alike so)) ∙ ap Ok (sym c.in-Ok.ensures.is)

pub is_so_freely-requires : goal.is_so_freely-requires
is_so_freely-requires c = c.requires.frame

pub returns-then-not-is_so_freely-clause-grows : goal.returns-then-not-is_so_freely-clause-grows
returns-then-not-is_so_freely-clause-grows c = grows_refl c.args.s.now

pub returns-then-not-is_so_freely-clause-is : goal.returns-then-not-is_so_freely-clause-is
returns-then-not-is_so_freely-clause-is c = tt

pub returns-then-not-is_so_freely-clause-stand : goal.returns-then-not-is_so_freely-clause-stand
returns-then-not-is_so_freely-clause-stand c = tt

pub walk_owned-requires-clause-frame : goal.walk_owned-requires-clause-frame
walk_owned-requires-clause-frame c = c.requires.frame

pub walk_owned-requires-clause-walk : goal.walk_owned-requires-clause-walk
walk_owned-requires-clause-walk c = c.requires.stand

pub returns-in-Ok-clause-grows : goal.returns-in-Ok-clause-grows
returns-in-Ok-clause-grows c = c.in-Ok.ensures.grows

pub returns-in-Ok-clause-stand : goal.returns-in-Ok-clause-stand
returns-in-Ok-clause-stand c = c.in-Ok.ensures.stand
