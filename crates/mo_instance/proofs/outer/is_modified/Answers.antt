-- What the sources speak of.
use Rattle.std.proofs.Common.{List, map, ap, ◌∙◌}
use Rattle.std.specs.List.{list_any}
use Rattle.mo_scope.specs.declared.source.Source.{Source as SourceAt}
use Rattle.mo_scope.specs.Frames.{Source, sources_of}
use Rattle.mo_scope.specs.Sights.{source_seen}
use Rattle.mo_scope.specs.Worlds.{frame_at, frames_of, sources_in, table_in}
use Rattle.mo_instance.specs.declared.spoken.Spoken.{Spoken as SpokenAt}
use Rattle.mo_instance.specs.steps.Outer.{speaks_for}
use Rattle.mo_instance.specs.steps.Speeches.{speech_seen, speeches_in}
use Rattle.mo_instance.proofs.Speaking.{speaks_is}
use Rattle.mo_instance.proofs.outer.is_modified.Goals as goal

pub returns : goal.returns
returns c =
    let F = frames_of c.args.s.now in
    let T = table_in c.args.s.now in
    let speaks = speaks_for c.args.member.now.name.now in
    c.is_given_for.ensures
    ∙ ap (λ (xs : List SpokenAt). list_any speaks (map speech_seen xs)) c.as_slice.ensures
    ∙ ap (list_any speaks) (c.in_ok-spoken.ensures F)
    ∙ ap (λ (xs : List SourceAt). list_any speaks (speeches_in T (sources_in F (map source_seen xs)))) c.as_slice-sources.ensures
    ∙ ap (λ (xs : List Source). list_any speaks (speeches_in T xs)) c.sources.ensures.is
    ∙ speaks_is T c.args.member.now.name.now (sources_of (frame_at c.args.s.now c.args.member.now.home.0))
