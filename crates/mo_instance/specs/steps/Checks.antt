-- Steps of the checks of a frame.
use Rattle.std.specs.Prelude.{ℕ, Bool, List}
use Rattle.mo_scope.specs.Rows.{Table}
use Rattle.mo_scope.specs.Frames.{Frame, Source, sources_of}
use Rattle.mo_scope.specs.Arguments.{second_pass}
use Rattle.mo_scope.specs.Lookup.{Walked, final_frame}
use Rattle.mo_scope.specs.Redeclarations.{Checked, redeclared_checked}
use Rattle.mo_instance.specs.Checks.{base_passed, before_last, in_profile, replaces_inherited}
use Rattle.mo_instance.specs.Passes.{first_pass}
use Rattle.mo_syntax.specs.Outcome.{and_then}

-- the checks of a frame with these elements, where the redeclarations find the elements themselves
abbrev pub frame_passes : Table → (is_replaced : List ℕ → Bool) → (added : List Source) → Frame → Walked → Checked
frame_passes table is_replaced added frame walked =
    and_then (in_profile table frame) (λ _.
    and_then (first_pass table frame is_replaced walked added) (λ _.
    and_then (second_pass table (sources_of frame)) (λ _.
    and_then (redeclared_checked table frame) (λ _. replaces_inherited table frame))))

-- the checks of a base, with the base frames on the way to it
abbrev pub through_passed : Table → Frame → List Frame → Checked
through_passed table frame through = base_passed table (before_last frame through) (final_frame through)
