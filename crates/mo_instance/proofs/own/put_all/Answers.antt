-- One argument after another.
use Rattle.std.proofs.Common.{◌≡◌, ◌+◌, ◌∷◌, ◌++◌, List, length, flat_map, map, ap, sym, ◌∙◌, arith}
use Rattle.std.proofs.lemmas.List.{nil_from_length}
use Rattle.std.specs.Vec.Iter.{into_iter_items, into_iter_len}
use Rattle.mo_mods.specs.PathSights.{claim_seen}
use Rattle.mo_scope.proofs.Sayings.{taken_all, taken_more}
use Rattle.mo_instance.specs.declared.spoken.Spoken.{Spoken as SpokenAt}
use Rattle.mo_instance.specs.steps.Speeches.{Speech, speech_seen}
use Rattle.mo_instance.proofs.own.put_all.Goals as goal

pub loop-one-preserved : goal.loop-one-preserved
loop-one-preserved c =
    let all = λ (xs : List SpokenAt). flat_map (λ (one : Speech). one.claims) (map speech_seen xs) in
    let steps : (into_iter_items c.loop-one.one-iterator ≡ c.in-Some.one ∷ into_iter_items c.next.new.self) × (into_iter_len c.next.new.self + 1 ≡ into_iter_len c.loop-one.one-iterator)
    = c.in-Some.ensures.steps in
    record {
      left = taken_more (map claim_seen c.loop-one.made) (map claim_seen c.put_one.new.made) (map claim_seen c.in-Some.one.claims)
          (all (into_iter_items c.loop-one.one-iterator)) (all (into_iter_items c.next.new.self)) _
          c.in_ok-put_one.ensures (sym (ap all steps.0)) c.loop-one.invariant.left;
      counted = let counted : into_iter_len c.loop-one.one-iterator ≡ length (into_iter_items c.loop-one.one-iterator) = c.loop-one.invariant.counted in
          omega (arith, ap length steps.0);
    }

pub returns : goal.returns
returns c =
    let all = λ (xs : List SpokenAt). flat_map (λ (one : Speech). one.claims) (map speech_seen xs) in
    taken_all (map claim_seen c.loop-one.made) (all (into_iter_items c.loop-one.one-iterator)) _
    (ap all (nil_from_length (into_iter_items c.loop-one.one-iterator) (sym c.loop-one.invariant.counted ∙ c.in-None.ensures.steps.0)))
    c.loop-one.invariant.left
    ∙ ap (λ (xs : List SpokenAt). map claim_seen c.args.made.now ++ all xs) (c.into_iter-one-iterator.ensures.into_iter_gives.0 ∙ c.into_vec-one-items.ensures)
