-- Refusals: which rule is broken, and where.
use Rattle.mo_syntax.specs.declared.place.Place.{Place}
use Rattle.mo_syntax.specs.declared.place.Broken.{Broken}
use Rattle.mo_syntax.specs.declared.rules.TheConstants.{DERIVATIVE_OF_INPUT}

-- a given variable is differentiated
abbrev pub of_given : Place → Broken
of_given place = record { rule = DERIVATIVE_OF_INPUT; place = place }
