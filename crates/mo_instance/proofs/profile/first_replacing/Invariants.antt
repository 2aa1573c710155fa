-- The first of those that are left is the first of all.
use Rattle.std.proofs.Common.{◌≡◌, drop, flat_map}
use Rattle.mo_scope.specs.Rows.{Table, replacing_in}
use Rattle.mo_instance.specs.steps.Firsts.{first_replaced}
use Rattle.mo_instance.proofs.profile.first_replacing.Given as goal

abbrev pub invariant-loop-item : goal.invariant-loop-item
invariant-loop-item l = (table : Table) → first_replaced table (flat_map replacing_in (drop l.item-index l.items)) ≡ first_replaced table (flat_map replacing_in l.items)
