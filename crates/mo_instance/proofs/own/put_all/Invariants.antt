-- What was put with what is left is what all give.
use Rattle.std.proofs.Common.{◌≡◌, ◌++◌, flat_map, length, map}
use Rattle.std.specs.Vec.Iter.{into_iter_items, into_iter_len}
use Rattle.mo_mods.specs.PathSights.{claim_seen}
use Rattle.mo_instance.specs.steps.Speeches.{Speech, speech_seen}
use Rattle.mo_instance.proofs.own.put_all.Given as goal

abbrev pub invariant-loop-one : goal.invariant-loop-one
invariant-loop-one l = record {
  left : map claim_seen l.made ++ flat_map (λ (one : Speech). one.claims) (map speech_seen (into_iter_items l.one-iterator))
      ≡ map claim_seen l.initial.made ++ flat_map (λ (one : Speech). one.claims) (map speech_seen (into_iter_items l.initial.one-iterator));
  counted : into_iter_len l.one-iterator ≡ length (into_iter_items l.one-iterator);
}
