-- Whether the parts that are left may stand in a package is whether all may.
use Rattle.std.proofs.Common.{◌≡◌, drop, map}
use Rattle.std.specs.List.{list_all}
use Rattle.mo_scope.specs.Open.{is_open_declares}
use Rattle.mo_scope.specs.Rows.{elements_in}
use Rattle.mo_scope.specs.Sights.{part_seen}
use Rattle.mo_names.proofs.own.are_open.Given as goal

abbrev pub invariant-loop-part : goal.invariant-loop-part
invariant-loop-part l = list_all is_open_declares (elements_in (map part_seen (drop l.part-index l.parts))) ≡ list_all is_open_declares (elements_in (map part_seen l.parts))
