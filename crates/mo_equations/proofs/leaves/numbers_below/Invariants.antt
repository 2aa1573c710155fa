-- With the numbers of the variables that are left it is that of all.
use Rattle.std.proofs.Common.{◌≡◌, ℕ, List, drop}
use Rattle.std.specs.HashMap.{get_by_text}
use Rattle.mo_equations.specs.steps.LeafTables.{leaves_in, numbers_at, numbers_from, numbers_or_none}
use Rattle.mo_equations.proofs.leaves.numbers_below.Given as goal

abbrev pub invariant-loop-instance : goal.invariant-loop-instance
invariant-loop-instance l =
    (text : List ℕ) → numbers_from text l.number (numbers_or_none (get_by_text l.made text)) (leaves_in (drop l.instance-index l.instances)) ≡ numbers_at (leaves_in l.instances) text
