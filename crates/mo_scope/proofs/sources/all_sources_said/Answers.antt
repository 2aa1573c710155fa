-- One saying after another.
use Rattle.std.proofs.Common.{◌≡◌, ◌+◌, ◌∷◌, true, List, length, map, ap, sym, ◌∙◌, arith}
use Rattle.std.proofs.lemmas.List.{nil_from_length}
use Rattle.std.specs.Option.{option_to_list}
use Rattle.std.specs.Vec.Iter.{into_iter_items, into_iter_len}
use Rattle.mo_scope.specs.declared.saying.Saying.{Saying as SayingAt}
use Rattle.mo_scope.specs.Parts.{sources_said}
use Rattle.mo_scope.specs.Sights.{saying_in, source_seen}
use Rattle.mo_scope.specs.Worlds.{sources_in}
use Rattle.mo_scope.proofs.Sayings.{seen_append, taken_more, taken_all}
use Rattle.mo_scope.proofs.sources.all_sources_said.Goals as goal

pub loop-saying-preserved : goal.loop-saying-preserved
loop-saying-preserved c =
    let steps : (into_iter_items c.loop-saying.saying-iterator ≡ c.in-Some.saying ∷ into_iter_items c.next.new.self) × (into_iter_len c.next.new.self + 1 ≡ into_iter_len c.loop-saying.saying-iterator)
    = c.in-Some.ensures.steps in
    record {
      left = λ frames.
          let all = λ (xs : List SayingAt). sources_said c.loop-saying.wins (map (saying_in frames) xs) in
          let rest = map (saying_in frames) (into_iter_items c.next.new.self) in
          taken_more (sources_in frames (map source_seen c.loop-saying.made)) (sources_in frames (map source_seen c.put.new.made)) (sources_in frames (map source_seen (option_to_list c.source_said.result)))
          (all (into_iter_items c.loop-saying.saying-iterator)) (sources_said c.source_said.new.wins rest) _
          (seen_append frames c.loop-saying.made (option_to_list c.source_said.result) c.put.new.made c.in_ok-put.ensures)
          (c.source_said.ensures frames rest ∙ sym (ap all steps.0))
          (c.loop-saying.invariant.left frames);
      counted = let counted : into_iter_len c.loop-saying.saying-iterator ≡ length (into_iter_items c.loop-saying.saying-iterator) = c.loop-saying.invariant.counted in
          omega (arith, ap length steps.0);
    }

pub returns : goal.returns
returns c = λ frames.
    let all = λ (xs : List SayingAt). sources_said c.loop-saying.wins (map (saying_in frames) xs) in
    taken_all (sources_in frames (map source_seen c.loop-saying.made)) (all (into_iter_items c.loop-saying.saying-iterator)) _
    (ap all (nil_from_length (into_iter_items c.loop-saying.saying-iterator) (sym c.loop-saying.invariant.counted ∙ c.in-None.ensures.steps.0)))
    (c.loop-saying.invariant.left frames)
    ∙ ap (λ (xs : List SayingAt). sources_said true (map (saying_in frames) xs)) (c.into_iter-saying-iterator.ensures.into_iter_gives.0 ∙ c.into_vec-saying-items.ensures)
