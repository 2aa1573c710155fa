-- What is said of those that are left is said of all.
use Rattle.std.proofs.Common.{◌≡◌, drop}
use Rattle.std.specs.List.{list_any}
use Rattle.mo_instance.specs.steps.Walks.{inherits_name}
use Rattle.mo_instance.proofs.first_pass.is_inherited.Given as goal

abbrev pub invariant-loop-inherited : goal.invariant-loop-inherited
invariant-loop-inherited l = list_any (inherits_name l.name) (drop l.inherited-index l.members) ≡ list_any (inherits_name l.name) l.members
