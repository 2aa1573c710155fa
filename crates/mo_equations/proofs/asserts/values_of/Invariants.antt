-- With those that are left these are the values of all.
use Rattle.std.proofs.Common.{◌≡◌}
use Rattle.mo_equations.specs.Asserts.{values_of}
use Rattle.mo_equations.proofs.Arguments.{ValuesLeft}
use Rattle.mo_equations.proofs.asserts.values_of.Given as goal

abbrev pub invariant-loop-argument : goal.invariant-loop-argument
invariant-loop-argument l = ValuesLeft l.arguments l.argument-index l.values ≡ values_of l.arguments
