-- What was made with what is left is what all give.
use Rattle.std.proofs.Common.{◌≡◌, ◌++◌, true, List, length, map}
use Rattle.std.specs.Vec.Iter.{into_iter_items, into_iter_len}
use Rattle.mo_scope.specs.Frames.{Frame}
use Rattle.mo_mods.specs.Left.{lefts_said}
use Rattle.mo_mods.specs.Sights.{left_in, said_in}
use Rattle.mo_mods.proofs.left.lefts_said.Given as goal

abbrev pub invariant-loop-one : goal.invariant-loop-one
invariant-loop-one l = record {
  left : (frames : List Frame) → map (left_in frames) l.made ++ lefts_said l.wins (map (said_in frames) (into_iter_items l.one-iterator))
      ≡ lefts_said true (map (said_in frames) (into_iter_items l.initial.one-iterator));
  counted : into_iter_len l.one-iterator ≡ length (into_iter_items l.one-iterator);
}
