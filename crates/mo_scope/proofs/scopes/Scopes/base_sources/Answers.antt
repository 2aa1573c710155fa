-- Each part of the sources has frames that exist.
use Rattle.std.proofs.Common.{List, map, subst, sym}
use Rattle.mo_scope.specs.declared.source.Source.{Source as SourceAt}
use Rattle.mo_scope.specs.Sights.{clause_seen, row_seen, source_seen}
use Rattle.mo_scope.specs.Worlds.{AreFrames, frame_at, frames_of}
use Rattle.mo_scope.proofs.Numbered.{is_no_top}
use Rattle.mo_scope.proofs.Scoped.{IsReal, no_frames, frames_append, frames_more, inherited_scoped}
use Rattle.mo_scope.proofs.scopes.Scopes.base_sources.Goals as goal

pub returns-clause-exist : goal.returns-clause-exist
returns-clause-exist c =
    let w = c.args.self.now in
    let exist = λ (xs : List SourceAt). AreFrames w (map source_seen xs) in
    frames_append w (map source_seen c.extend_inherited.new.made) (map source_seen c.as_slice-2.result.now) (map source_seen c.extend_sources-2.new.made) c.in_ok-extend_sources-2.ensures
    (frames_more w (map source_seen c.extend_sources.new.made) (map source_seen c.extend_inherited.new.made) _ (c.in_ok-extend_inherited.ensures (frames_of w))
    (frames_append w (map source_seen c.new-made.result) (map source_seen c.as_slice.result.now) (map source_seen c.extend_sources.new.made) c.in_ok-extend_sources.ensures
    (subst exist (sym c.new-made.ensures) (no_frames w)) (subst exist (sym c.as_slice.ensures) c.sources.ensures.exist))
    (inherited_scoped IsReal (frame_at w c.args.frame.0) (row_seen c.args.row.now) (clause_seen c.args.clause.now) (is_no_top w c.args.frame.0 c.requires.frame)))
    (subst exist (sym c.as_slice-2.ensures) c.sources-2.ensures.exist)
