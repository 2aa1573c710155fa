-- What was made is what the attributes so far give.
use Rattle.std.proofs.Common.{◌≡◌, ℕ, List}
use Rattle.mo_flat.specs.declared.expr.FlatExpr.{FlatExpr}
use Rattle.mo_scope.specs.Worlds.{frames_of}
use Rattle.mo_typing.specs.Outcome.{each}
use Rattle.mo_equations.specs.Variables.{flat_attribute}
use Rattle.mo_equations.specs.steps.Declaring.{AreAttributes, attributes_in, variable_in}
use Rattle.mo_equations.specs.steps.Desks.{Stays}
use Rattle.mo_equations.specs.steps.Standing.{tree_in}
use Rattle.mo_equations.proofs.Eaching.{Left}
use Rattle.mo_equations.proofs.variables.flat_attributes.Given as goal

abbrev pub invariant-loop-attribute : goal.invariant-loop-attribute
invariant-loop-attribute l =
    Stays l.initial.s l.s l.initial.desk l.desk
    × (attributes : List (ℕ × FlatExpr))
    × AreAttributes l.made attributes
    × (Left (flat_attribute (tree_in l.initial.s l.initial.desk.leaves) (variable_in (frames_of l.initial.s) l.variable)) (attributes_in (frames_of l.initial.s) l.variable) l.attribute-index attributes
    ≡ each (flat_attribute (tree_in l.initial.s l.initial.desk.leaves) (variable_in (frames_of l.initial.s) l.variable)) (attributes_in (frames_of l.initial.s) l.variable))
