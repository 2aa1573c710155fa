-- The unknowns so far with those that are left are all.
use Rattle.std.proofs.Common.{◌≡◌, ◌+◌, ◌≤◌, drop, length}
use Rattle.mo_flat.specs.Roles.{unknowns_from, unknown_numbers}
use Rattle.mo_flatten.proofs.size.unknowns.Given as goal

abbrev pub invariant-loop-v : goal.invariant-loop-v
invariant-loop-v l = (l.all + length (unknowns_from (l.v-index + 1) (drop l.v-index l.vars)) ≡ length (unknown_numbers l.vars)) × (l.all ≤ l.v-index)
