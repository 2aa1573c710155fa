-- What is wanted of the kind and of the dimensions of an expression.
use Rattle.std.specs.Prelude.{◌≤◌}
use Rattle.mo_syntax.specs.declared.meaning.Kind.{Kind}
use Rattle.mo_syntax.specs.declared.place.Place.{Place}
use Rattle.mo_syntax.specs.declared.rules.TheConstants.{CONDITION_NOT_BOOLEAN}
use Rattle.mo_typing.specs.Dims.{Dims}
use Rattle.mo_typing.specs.Kinds.{accepts}
use Rattle.mo_typing.specs.Subscripts.{Checked}
use Rattle.mo_values.specs.Asked.{only_scalar, only_truth, fitted}
use Rattle.mo_equations.specs.declared.layers.Fit.{Fit}
use Rattle.mo_equations.specs.declared.layers.Fit.TheVariants.{Scalar, Along, Pending}
use Rattle.mo_equations.specs.declared.layers.Want.{Want}
use Rattle.mo_equations.specs.declared.layers.Want.TheVariants.{Accepted, Condition}
use Rattle.mo_equations.specs.Variables.{fits_along}

abbrev pub wanted_of : Want → Place → Kind → Checked
wanted_of (Accepted kind) place got = accepts kind got place
wanted_of Condition place got = only_truth CONDITION_NOT_BOOLEAN place got

abbrev pub fit_of : Fit → Place → Dims → Checked
fit_of (Scalar rule) place dims = only_scalar rule place dims
fit_of (Along pending indices sizes) place dims = fits_along place pending.now indices.now sizes.now dims
fit_of (Pending index) place dims = fitted place index.now dims

-- the rule that is broken where no scalar stands is one
abbrev pub HasRule : Fit → Type 0
HasRule (Scalar rule) = (1 ≤ rule) × (rule ≤ 46)
HasRule fit = Unit {0}
