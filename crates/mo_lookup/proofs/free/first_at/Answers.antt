-- By a lookup, told of a later world.
use Rattle.std.proofs.Common.{ap, false}
use Rattle.mo_scope.specs.Frames.{Frame}
use Rattle.mo_scope.specs.Lookup.{asking_of}
use Rattle.mo_scope.specs.Worlds.{frames_of, table_in}
use Rattle.mo_scope.specs.Sights.{scope_at}
use Rattle.mo_names.specs.Past.{first_met}
use Rattle.mo_names.specs.Sights.{met_seen}
use Rattle.mo_names.proofs.Circling.{later_gives}
use Rattle.mo_names.proofs.Later.{frame_later, grows_trans}
use Rattle.mo_lookup.proofs.free.first_at.Goals as goal

pub returns-clause-value : goal.returns-clause-value
returns-clause-value c =
    let u = c.args.s.now in
    let v = c.keep_for_name.new.s in
    later_gives (met_seen (frames_of c.first_by_lookup.new.s)) c.first_by_lookup.result u v
    (λ t. first_met t (asking_of t) false c.args.top (scope_at v c.args.at.now) c.args.place c.args.name.now) _ c.in_ok-keep_for_name.ensures c.first_by_lookup.ensures.value
    (ap (λ (f : Frame). first_met (table_in u) (asking_of (table_in u)) false c.args.top (record { frame = f; iterations = c.args.at.now.iters }) c.args.place c.args.name.now)
    (frame_later u v c.args.at.now.frame.0 c.in_ok-keep_for_name.ensures c.requires))

pub returns-clause-grows : goal.returns-clause-grows
returns-clause-grows c = grows_trans _ _ _ c.in_ok-keep_for_name.ensures c.first_by_lookup.ensures.grows
