-- The scopes stay, and those of the class exist.
use Rattle.std.proofs.Common.{List, map, subst, sym}
use Rattle.mo_scope.specs.declared.source.Source.{Source as SourceAt}
use Rattle.mo_scope.specs.Parts.{through_component}
use Rattle.mo_scope.specs.Sights.{source_seen, sources_at}
use Rattle.mo_scope.specs.Worlds.{AreFrames, frames_of}
use Rattle.mo_scope.proofs.Scoped.{frames_is, frames_append, scoped_from, through_scoped}
use Rattle.mo_scope.proofs.scopes.Scopes.component_sources.Goals as goal

pub returns-clause-exist : goal.returns-clause-exist
returns-clause-exist c =
    let w = c.args.self.now in
    let made = sources_at w c.in_ok-made.made in
    frames_append w (map source_seen c.in_ok-passed.passed) (map source_seen c.as_slice.result.now) (map source_seen c.extend_sources.new.made) c.in_ok-extend_sources.ensures
    (frames_is w (map source_seen c.in_ok-passed.passed) (map through_component made) (c.in_ok-passed.ensures (frames_of w)) (through_scoped made (scoped_from w (map source_seen c.in_ok-made.made) c.in_ok-made.ensures.exist)))
    (subst (λ (xs : List SourceAt). AreFrames w (map source_seen xs)) (sym c.as_slice.ensures) c.sources.ensures.exist)
