-- A source of the list.
use Rattle.std.proofs.Common.{ap, sym, ◌∙◌}
use Rattle.std.specs.Prelude.{option_map, slice_get}
use Rattle.std.proofs.lemmas.Option.{slice_get-map}
use Rattle.mo_scope.specs.Sights.{source_seen}
use Rattle.mo_scope.proofs.frame_sources.FrameSources.get.Goals as goal

pub returns : goal.returns
returns c =
    ap (option_map source_seen) c.get.ensures ∙ sym (slice_get-map source_seen c.self.inside.list c.args.at)
    ∙ ap (λ entries. slice_get entries c.args.at) c.self.view_is
