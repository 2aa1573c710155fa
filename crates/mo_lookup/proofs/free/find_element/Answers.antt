-- By a lookup, told of a later world.
use Rattle.std.proofs.Common.{ap}
use Rattle.mo_scope.specs.Lookup.{asking_of, reached}
use Rattle.mo_scope.specs.Worlds.{frame_at, frames_of, table_in}
use Rattle.mo_names.specs.Sights.{reached_seen}
use Rattle.mo_names.proofs.Circling.{later_gives}
use Rattle.mo_names.proofs.Later.{frame_later, grows_trans}
use Rattle.mo_lookup.proofs.free.find_element.Goals as goal

pub returns-clause-value : goal.returns-clause-value
returns-clause-value c =
    let u = c.args.s.now in
    let v = c.keep_ahead.new.s in
    later_gives (reached_seen (frames_of c.reached_by_lookup.new.s)) c.reached_by_lookup.result u v
    (λ t. reached t (asking_of t) c.args.place (frame_at v c.args.frame.0) c.args.name.now) _ c.in_ok-keep_ahead.ensures c.reached_by_lookup.ensures.value
    (ap (λ f. reached (table_in u) (asking_of (table_in u)) c.args.place f c.args.name.now) (frame_later u v c.args.frame.0 c.in_ok-keep_ahead.ensures c.requires))

pub returns-clause-grows : goal.returns-clause-grows
returns-clause-grows c = grows_trans _ _ _ c.in_ok-keep_ahead.ensures c.reached_by_lookup.ensures.grows
