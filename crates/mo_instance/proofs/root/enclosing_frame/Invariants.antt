-- What is around the names so far, then the names that are left.
use Rattle.std.proofs.Common.{◌≡◌, [], drop, take}
use Rattle.std.specs.Prelude.{option_map}
use Rattle.mo_scope.specs.Entries.{number_of}
use Rattle.mo_scope.specs.Frames.{Top}
use Rattle.mo_scope.specs.Worlds.{Grows, IsFrameOrNone, frame_or_top, frames_of, table_in}
use Rattle.mo_instance.specs.Instances.{enclosing}
use Rattle.mo_instance.specs.steps.Roots.{names_seen}
use Rattle.mo_instance.proofs.root.enclosing_frame.Given as goal

abbrev pub invariant-loop-at : goal.invariant-loop-at
invariant-loop-at l = record {
  grows : Grows l.initial.s l.s;
  stand : IsFrameOrNone l.s (option_map number_of l.outer);
  left : enclosing (table_in l.initial.s) (frame_or_top (frames_of l.s) (option_map number_of l.outer)) (names_seen (take l.at l.path)) (names_seen (drop l.at l.path))
      ≡ enclosing (table_in l.initial.s) Top [] (names_seen l.path);
}
