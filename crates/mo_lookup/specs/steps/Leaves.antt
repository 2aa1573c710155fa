-- One base among several.
use Rattle.std.specs.Prelude.{Option, Some, None, Ok, Err, if◌then◌else◌}
use Rattle.mo_syntax.specs.Outcome.{Outcome}
use Rattle.mo_scope.specs.Frames.{Frame}
use Rattle.mo_scope.specs.Names.{walk_of}
use Rattle.mo_scope.specs.Rows.{Table}
use Rattle.mo_scope.specs.Sizes.{is_leaf}

-- the base, if it is of leaf type
abbrev pub base_if_leaf : Table → Outcome Frame → Option Frame
base_if_leaf table (Ok base) = if is_leaf (walk_of table base) then Some base else None
base_if_leaf table (Err broken) = None
