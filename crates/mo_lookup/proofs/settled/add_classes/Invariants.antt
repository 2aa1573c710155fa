-- A class that was there or is left to be added is one that was there or is added.
use Rattle.std.proofs.Common.{◌≡◌, ℕ, drop}
use Rattle.std.specs.Prelude.{◌||◌}
use Rattle.mo_scope.specs.Lookup.{contains}
use Rattle.mo_lookup.proofs.settled.add_classes.Given as goal

abbrev pub invariant-loop-class : goal.invariant-loop-class
invariant-loop-class l = (n : ℕ) → (contains l.classes n || contains (drop l.class-index l.more) n) ≡ (contains l.initial.classes n || contains l.more n)
