-- One after another.
use Rattle.std.proofs.Common.{◌≡◌, ◌+◌, ◌∷◌, true, List, length, map, ap, sym, ◌∙◌, arith}
use Rattle.std.proofs.lemmas.List.{map-append, nil_from_length}
use Rattle.std.specs.Option.{option_to_list}
use Rattle.std.specs.Vec.Iter.{into_iter_items, into_iter_len}
use Rattle.mo_mods.specs.declared.left.Said.{Said as SaidAt}
use Rattle.mo_mods.specs.Left.{lefts_said}
use Rattle.mo_mods.specs.Sights.{left_in, said_in}
use Rattle.mo_scope.proofs.Sayings.{taken_more, taken_all}
use Rattle.mo_mods.proofs.left.lefts_said.Goals as goal

pub loop-one-preserved : goal.loop-one-preserved
loop-one-preserved c =
    let steps : (into_iter_items c.loop-one.one-iterator ≡ c.in-Some.one ∷ into_iter_items c.next.new.self) × (into_iter_len c.next.new.self + 1 ≡ into_iter_len c.loop-one.one-iterator)
    = c.in-Some.ensures.steps in
    record {
      left = λ frames.
          let all = λ (xs : List SaidAt). lefts_said c.loop-one.wins (map (said_in frames) xs) in
          let rest = map (said_in frames) (into_iter_items c.next.new.self) in
          taken_more (map (left_in frames) c.loop-one.made) (map (left_in frames) c.put.new.made) (map (left_in frames) (option_to_list c.left_said.result))
          (all (into_iter_items c.loop-one.one-iterator)) (lefts_said c.left_said.new.wins rest) _
          (ap (map (left_in frames)) c.in_ok-put.ensures ∙ map-append (left_in frames) c.loop-one.made (option_to_list c.left_said.result))
          (c.left_said.ensures frames rest ∙ sym (ap all steps.0))
          (c.loop-one.invariant.left frames);
      counted = let counted : into_iter_len c.loop-one.one-iterator ≡ length (into_iter_items c.loop-one.one-iterator) = c.loop-one.invariant.counted in
          omega (arith, ap length steps.0);
    }

pub returns : goal.returns
returns c = λ frames.
    let all = λ (xs : List SaidAt). lefts_said c.loop-one.wins (map (said_in frames) xs) in
    taken_all (map (left_in frames) c.loop-one.made) (all (into_iter_items c.loop-one.one-iterator)) _
    (ap all (nil_from_length (into_iter_items c.loop-one.one-iterator) (sym c.loop-one.invariant.counted ∙ c.in-None.ensures.steps.0)))
    (c.loop-one.invariant.left frames)
    ∙ ap (λ (xs : List SaidAt). lefts_said true (map (said_in frames) xs)) (c.into_iter-one-iterator.ensures.into_iter_gives.0 ∙ c.into_vec-one-items.ensures)
