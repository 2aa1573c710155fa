-- One source after another.
use Rattle.std.proofs.Common.{◌≡◌, ◌+◌, ◌∷◌, [], List, length, map, ap, sym, ◌∙◌, arith}
use Rattle.std.proofs.lemmas.List.{nil_from_length}
use Rattle.std.specs.Vec.Iter.{into_iter_items, into_iter_len}
use Rattle.mo_scope.specs.declared.source.Source.{Source as SourceAt}
use Rattle.mo_scope.specs.Parts.{without_value}
use Rattle.mo_scope.specs.Sights.{source_seen}
use Rattle.mo_scope.specs.Worlds.{source_in, sources_in}
use Rattle.mo_scope.proofs.Sayings.{seen_more, taken_more, taken_all}
use Rattle.mo_scope.proofs.sources.all_without_value.Goals as goal

pub loop-source-preserved : goal.loop-source-preserved
loop-source-preserved c =
    let steps : (into_iter_items c.loop-source.source-iterator ≡ c.in-Some.source ∷ into_iter_items c.next.new.self) × (into_iter_len c.next.new.self + 1 ≡ into_iter_len c.loop-source.source-iterator)
    = c.in-Some.ensures.steps in
    record {
      left = λ frames.
          let all = λ (xs : List SourceAt). map without_value (sources_in frames (map source_seen xs)) in
          taken_more (sources_in frames (map source_seen c.loop-source.made)) (sources_in frames (map source_seen c.push.new.self)) (without_value (source_in frames (source_seen c.in-Some.source)) ∷ [])
          (all (into_iter_items c.loop-source.source-iterator)) (all (into_iter_items c.next.new.self)) _
          (seen_more frames c.loop-source.made c.push.new.self c.without_value.result _ c.in_ok-push.ensures.ok (c.without_value.ensures frames))
          (sym (ap all steps.0))
          (c.loop-source.invariant.left frames);
      counted = let counted : into_iter_len c.loop-source.source-iterator ≡ length (into_iter_items c.loop-source.source-iterator) = c.loop-source.invariant.counted in
          omega (arith, ap length steps.0);
    }

pub returns : goal.returns
returns c = λ frames.
    let all = λ (xs : List SourceAt). map without_value (sources_in frames (map source_seen xs)) in
    taken_all (sources_in frames (map source_seen c.loop-source.made)) (all (into_iter_items c.loop-source.source-iterator)) _
    (ap all (nil_from_length (into_iter_items c.loop-source.source-iterator) (sym c.loop-source.invariant.counted ∙ c.in-None.ensures.steps.0)))
    (c.loop-source.invariant.left frames)
    ∙ ap all (c.into_iter-source-iterator.ensures.into_iter_gives.0 ∙ c.into_vec-source-items.ensures)
