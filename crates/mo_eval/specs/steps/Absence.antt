-- Why the elements of a reference are not found, for an expression and for an end of a connect: words of the contracts inside this crate
-- alone.
use Rattle.std.specs.Prelude.{Result, Ok, Err}
use Rattle.mo_syntax.specs.Outcome.{breach}
use Rattle.mo_syntax.specs.declared.place.Broken.{Broken}
use Rattle.mo_syntax.specs.declared.place.Place.{Place}
use Rattle.mo_syntax.specs.declared.place.Stop.{Stop}
use Rattle.mo_syntax.specs.declared.place.Stop.TheVariants.{Broken as broken_by}
use Rattle.mo_eval.specs.declared.absent.Absent.{Absent}
use Rattle.mo_eval.specs.declared.absent.Absent.TheVariants.{Removed, Stopped}
use Rattle.mo_eval.specs.Ends.{reading_of_end, removed}
use Rattle.mo_eval.specs.Virtuals.{Reading}
use Rattle.mo_syntax.specs.declared.rules.TheConstants.{NAME_NOT_FOUND}

-- A component that its condition removes breaks rule 12 in an expression, and removes an end of a connect.
pub data Removal : Type 0 where
  Breaks : Removal
  Removes : Removal

abbrev pub reading_for : Removal → Reading → Reading
reading_for Breaks reading = reading
reading_for Removes reading = reading_of_end reading

abbrev pub broken_for : Removal → Place → Broken
broken_for Breaks place = breach NAME_NOT_FOUND place
broken_for Removes place = removed

abbrev pub stop_for : Removal → Absent → Stop
stop_for asking (Removed place) = broken_by (broken_for asking place)
stop_for asking (Stopped stop) = stop

abbrev pub as_stopped : {T : Type 0} → Removal → Result T Absent → Result T Stop
as_stopped asking (Ok value) = Ok value
as_stopped asking (Err absent) = Err (stop_for asking absent)
