-- Whether one is left is whether there is one at all.
use Rattle.std.proofs.Common.{◌≡◌, drop, flat_map, is_some}
use Rattle.mo_scope.specs.Parts.{first_of}
use Rattle.mo_scope.specs.Rows.{replacing_in}
use Rattle.mo_scope.proofs.written.replaces.Given as goal

abbrev pub invariant-loop-item : goal.invariant-loop-item
invariant-loop-item l = is_some (first_of (flat_map replacing_in (drop l.item-index l.items))) ≡ is_some (first_of (flat_map replacing_in l.items))
