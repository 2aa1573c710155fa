-- Whether the elements that are left may stand in a package is whether all may.
use Rattle.std.proofs.Common.{◌≡◌, List, drop, map}
use Rattle.std.specs.List.{list_all}
use Rattle.mo_scope.specs.Frames.{Frame}
use Rattle.mo_scope.specs.Lookup.{counts_in_package}
use Rattle.mo_names.specs.Sights.{inherited_seen}
use Rattle.mo_names.proofs.reach.are_all_open.Given as goal

abbrev pub invariant-loop-inherited : goal.invariant-loop-inherited
invariant-loop-inherited l = (frames : List Frame) →
    list_all counts_in_package (map (λ inherited. inherited.member) (map (inherited_seen frames) (drop l.inherited-index l.members)))
    ≡ list_all counts_in_package (map (λ inherited. inherited.member) (map (inherited_seen frames) l.members))
