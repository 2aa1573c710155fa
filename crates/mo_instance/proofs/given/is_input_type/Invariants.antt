-- What is left says what all says.
use Rattle.std.proofs.Common.{◌≡◌}
use Rattle.mo_scope.specs.Rows.{number_of_classes}
use Rattle.mo_scope.specs.Worlds.{Grows, IsFrame, frame_at, table_in}
use Rattle.mo_instance.specs.Prefixes.{input_from}
use Rattle.mo_instance.proofs.given.is_input_type.Given as goal

abbrev pub invariant-loop-left : goal.invariant-loop-left
invariant-loop-left l = record {
  grows : Grows l.initial.s l.s;
  stand : IsFrame l.s l.frame.0;
  left : input_from (table_in l.initial.s) l.left (frame_at l.s l.frame.0) ≡ input_from (table_in l.initial.s) (number_of_classes (table_in l.initial.s)) (frame_at l.initial.s l.initial.frame.0);
}

abbrev pub decreases-loop-left : goal.decreases-loop-left
decreases-loop-left l = l.left
