-- The mentions are those by the list.
use Rattle.std.proofs.Common.{List, map, subst}
use Rattle.mo_scope.specs.declared.source.Source.{Source as SourceAt}
use Rattle.mo_scope.specs.Mentions.{AreMentions}
use Rattle.mo_scope.specs.Sights.{source_seen}
use Rattle.mo_scope.proofs.frame_sources.FrameSources.new.Goals as goal

pub invariant_of-result : goal.invariant_of-result
invariant_of-result c = subst (λ (xs : List SourceAt). AreMentions (map source_seen xs) c.in_ok-mentions.mentions) c.as_slice.ensures c.in_ok-mentions.ensures
