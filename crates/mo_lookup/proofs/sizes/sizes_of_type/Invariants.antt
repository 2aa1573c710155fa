-- What was found, and what is still behind it.
use Rattle.std.proofs.Common.{◌≡◌, []}
use Rattle.mo_scope.specs.Rows.{number_of_classes}
use Rattle.mo_scope.specs.Worlds.{Grows, IsFrame, frame_at, frames_of, table_in}
use Rattle.mo_scope.specs.Sizes.{behind_own, sizes_from}
use Rattle.mo_lookup.specs.Sizing.{AreSized, sizes_seen}
use Rattle.mo_lookup.proofs.sizes.sizes_of_type.Given as goal

abbrev pub invariant-loop-left : goal.invariant-loop-left
invariant-loop-left l = record {
  grows : Grows l.initial.s l.s;
  stand : IsFrame l.s l.frame.0;
  sized : AreSized l.s l.made;
  is : behind_own (sizes_seen (frames_of l.s) l.made) (sizes_from (table_in l.initial.s) l.left l.busy (frame_at l.s l.frame.0)) ≡ sizes_from (table_in l.initial.s) (number_of_classes (table_in l.initial.s)) [] (frame_at l.initial.s l.initial.frame.0);
}

abbrev pub decreases-loop-left : goal.decreases-loop-left
decreases-loop-left l = l.left
