-- The answer for the names that are left is the answer for all.
use Rattle.std.proofs.Common.{◌≡◌, ℕ, List, length}
use Rattle.std.specs.Vec.Iter.{into_iter_items, into_iter_len}
use Rattle.mo_tree.specs.Keys.{holds}
use Rattle.mo_tree.specs.steps.Repeats.{repeated, with_keys}
use Rattle.mo_tree.proofs.building.put_all.Given as goal

abbrev pub invariant-loop-name : goal.invariant-loop-name
invariant-loop-name l = record {
  left : repeated (holds l.keys) (into_iter_items l.name-iterator) ≡ repeated (holds l.initial.keys) (into_iter_items l.initial.name-iterator);
  kept : (key : List ℕ) → with_keys (holds l.keys) (into_iter_items l.name-iterator) key ≡ with_keys (holds l.initial.keys) (into_iter_items l.initial.name-iterator) key;
  counted : into_iter_len l.name-iterator ≡ length (into_iter_items l.name-iterator);
}
