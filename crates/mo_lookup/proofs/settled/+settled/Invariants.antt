-- What is left of the parts of a class, and how deep each function goes.
use Rattle.std.proofs.Common.{◌≡◌, ℕ, List, true, drop, ◌+◌, ◌*◌}
use Rattle.mo_scope.specs.Frames.{Frame}
use Rattle.mo_scope.specs.Worlds.{Grows, table_in, frame_at, row_of_frame}
use Rattle.mo_names.specs.steps.Bases.{parts_walked}
use Rattle.mo_names.specs.steps.Parts.{parts_of}
use Rattle.mo_lookup.specs.steps.Settled.{AreFree, AreSettled}
use Rattle.mo_names.specs.Sights.{IsWalk, walk_at}
use Rattle.mo_scope.specs.Lookup.{asking_at}
use Rattle.mo_names.specs.steps.Twins.{owned_walk, unowned}
use Rattle.mo_names.proofs.OwnElements.{elements_before}
use Rattle.mo_lookup.proofs.settled.+settled.Given as goal

abbrev pub invariant-parts_settled-loop-at : goal.invariant-parts_settled-loop-at
invariant-parts_settled-loop-at l = record {
  grows : Grows l.initial.s l.s;
  known : AreSettled l.s l.known;
  stand : IsWalk l.s l.so_far.walk;
  left : (left : ℕ) (busy : List ℕ) → AreFree l.so_far.classes l.so_far.deep left busy →
      parts_walked (table_in l.initial.s) (asking_at (table_in l.initial.s) left busy) (frame_at l.initial.s l.frame.0) (row_of_frame l.initial.s l.frame.0) l.so_far.item (drop l.at (parts_of (row_of_frame l.initial.s l.frame.0))) (walk_at l.s l.so_far.walk)
      ≡ parts_walked (table_in l.initial.s) (asking_at (table_in l.initial.s) left busy) (frame_at l.initial.s l.frame.0) (row_of_frame l.initial.s l.frame.0) 0 (parts_of (row_of_frame l.initial.s l.frame.0)) (walk_at l.initial.s l.initial.so_far.walk);
  owned : l.so_far.alike ≡ true → (owned : Frame) → unowned owned ≡ frame_at l.initial.s l.frame.0 → (left : ℕ) (busy : List ℕ) → AreFree l.so_far.classes l.so_far.deep left busy →
      parts_walked (table_in l.initial.s) (asking_at (table_in l.initial.s) left busy) owned (row_of_frame l.initial.s l.frame.0) l.so_far.item (drop l.at (parts_of (row_of_frame l.initial.s l.frame.0))) (owned_walk owned (walk_at l.s l.so_far.walk))
      ≡ parts_walked (table_in l.initial.s) (asking_at (table_in l.initial.s) left busy) owned (row_of_frame l.initial.s l.frame.0) 0 (parts_of (row_of_frame l.initial.s l.frame.0)) (owned_walk owned (walk_at l.initial.s l.initial.so_far.walk));
  alike : l.so_far.alike ≡ true → l.initial.so_far.alike ≡ true;
  counted : l.so_far.item ≡ elements_before l.at (parts_of (row_of_frame l.initial.s l.frame.0));
}

abbrev pub decreases-settle : goal.decreases-settle
decreases-settle l = 8 * l.left + 0

abbrev pub decreases-base_settled : goal.decreases-base_settled
decreases-base_settled l = 8 * l.left + 1

abbrev pub decreases-part_settled : goal.decreases-part_settled
decreases-part_settled l = 8 * l.left + 2

abbrev pub decreases-parts_settled : goal.decreases-parts_settled
decreases-parts_settled l = 8 * l.left + 3

abbrev pub decreases-class_settled : goal.decreases-class_settled
decreases-class_settled l = 8 * l.left + 4
