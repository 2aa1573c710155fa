-- What stands first among those behind.
use Rattle.std.proofs.Common.{◌≡◌, drop}
use Rattle.mo_scope.specs.Rows.{Table}
use Rattle.mo_instance.specs.steps.Firsts.{wrong_items}
use Rattle.mo_instance.proofs.profile.first_item.Given as goal

abbrev pub invariant-loop-at : goal.invariant-loop-at
invariant-loop-at l = (table : Table) → l.first ≡ wrong_items table (drop l.at l.items)
