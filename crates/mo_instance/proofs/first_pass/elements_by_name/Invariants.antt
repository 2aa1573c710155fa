-- What was put is the elements so far.
use Rattle.std.proofs.Common.{◌≡◌, take}
use Rattle.mo_instance.specs.steps.Walks.{members_held}
use Rattle.mo_instance.proofs.first_pass.elements_by_name.Given as goal

abbrev pub invariant-loop-inherited : goal.invariant-loop-inherited
invariant-loop-inherited l = l.made ≡ members_held (take l.inherited-index l.members)
