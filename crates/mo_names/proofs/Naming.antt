-- The names of classes and bases, one identifier after another.
use Rattle.std.proofs.Common.{◌≡◌, Bool, List, [], ◌∷◌, drop, refl, sym}
use Rattle.mo_syntax.specs.Outcome.{Outcome, and_then, breaks}
use Rattle.mo_syntax.specs.declared.expr.Expr.{Expr}
use Rattle.mo_syntax.specs.declared.expr.PartOf.{PartOf}
use Rattle.mo_syntax.specs.declared.expr.ReferenceOf.{ReferenceOf}
use Rattle.mo_scope.specs.Rows.{Table}
use Rattle.mo_scope.specs.Frames.{Scope}
use Rattle.mo_scope.specs.Lookup.{Met, Classed, Asking, class_behind, class_named, classed, found_first}
use Rattle.mo_names.specs.steps.Bases.{first_of_parts}
use Rattle.mo_names.proofs.Circling.{then_then}
use Rattle.mo_syntax.specs.declared.rules.TheConstants.{NAME_NOT_FOUND}

pub class_named_is : (table : Table) (asking : Asking) (bare : Bool) (scope : Scope) (reference : ReferenceOf Expr) →
    and_then (first_of_parts table asking bare reference.top scope reference.parts) (λ class. class_behind table asking class (drop 1 reference.parts)) ≡ class_named table asking bare scope reference
class_named_is table asking bare scope reference = by reference.parts
  where
    named_from : List (PartOf Expr) → Outcome Classed
    named_from [] = breaks NAME_NOT_FOUND (record { file = 0; byte = 0 })
    named_from (part ∷ parts) =
        and_then (found_first table asking bare reference.top scope part) (λ met.
        and_then (classed part.place met.found) (λ class. class_behind table asking class parts))

    by : (parts : List (PartOf Expr)) →
        and_then (first_of_parts table asking bare reference.top scope parts) (λ class. class_behind table asking class (drop 1 parts)) ≡ named_from parts
    by [] = refl
    by (part ∷ parts) =
        sym (then_then (found_first table asking bare reference.top scope part) (λ (met : Met). classed part.place met.found) (λ class. class_behind table asking class parts))
