-- By a walk, told of a later world.
use Rattle.std.proofs.Common.{ap}
use Rattle.mo_scope.specs.Lookup.{asking_of}
use Rattle.mo_scope.specs.Worlds.{frame_at, table_in}
use Rattle.mo_names.proofs.Circling.{later_gives}
use Rattle.mo_names.proofs.Later.{frame_later, grows_trans}
use Rattle.mo_names.specs.Sights.{walk_at}
use Rattle.mo_lookup.proofs.free.elements_at.Goals as goal

pub returns-in-None-clause-value : goal.returns-in-None-clause-value
returns-in-None-clause-value c =
    let u = c.args.s.now in
    let v = c.walked_once.new.s in
    later_gives (walk_at c.elements_by_walk.new.s) c.elements_by_walk.result u v
    (λ t. (asking_of t).elements c.args.place (frame_at v c.args.frame.0)) _ c.in_ok-walk.ensures.grows c.elements_by_walk.ensures.value
    (ap (λ f. (asking_of (table_in u)).elements c.args.place f) (frame_later u v c.args.frame.0 c.in_ok-walk.ensures.grows c.requires))

pub returns-in-None-clause-grows : goal.returns-in-None-clause-grows
returns-in-None-clause-grows c = grows_trans _ _ _ c.in_ok-walk.ensures.grows c.elements_by_walk.ensures.grows
