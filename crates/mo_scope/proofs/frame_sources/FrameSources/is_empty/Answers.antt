-- A list is empty where what it is seen as is.
use Rattle.std.proofs.Common.{◌≡◌, List, [], ◌∷◌, map, refl, ap, sym, ◌∙◌}
use Rattle.mo_scope.specs.declared.source.Source.{Source as SourceAt}
use Rattle.mo_scope.specs.Sights.{source_seen}
use Rattle.mo_scope.proofs.frame_sources.FrameSources.is_empty.Goals as goal

none_seen : (xs : List SourceAt) → map source_seen xs ≡ [] → xs ≡ []
none_seen [] none = refl
none_seen (x ∷ xs) none = cc

pub returns : goal.returns
returns c = (
  λ yes. sym c.self.view_is ∙ ap (map source_seen) (c.is_empty.ensures.0 yes),
  λ none. c.is_empty.ensures.1 (none_seen c.self.inside.list (c.self.view_is ∙ none)),
)
