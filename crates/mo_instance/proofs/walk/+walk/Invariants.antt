-- How many names are left, and how deep each function goes.
use Rattle.std.proofs.Common.{◌≡◌, ◌+◌, ◌-◌, ◌*◌, Ok, drop, length, map}
use Rattle.mo_scope.specs.Places.{Every}
use Rattle.mo_scope.specs.Worlds.{Grows, frames_of, table_in}
use Rattle.mo_names.specs.Sights.{inherited_seen, member_of}
use Rattle.mo_eval.specs.Keeping.{IsKept}
use Rattle.mo_instance.specs.Instances.{deeper, parts_entered}
use Rattle.mo_scope.specs.Trees.{instances_in}
use Rattle.mo_instance.specs.steps.Sights.{IsEntered, around_seen}
use Rattle.mo_instance.specs.steps.Instances.{elements_to, members_added}
use Rattle.mo_instance.proofs.walk.+walk.Given as goal

abbrev pub decreases-members_entered : goal.decreases-members_entered
decreases-members_entered l = 73786976294838206464 * l.level.now.left + 2

abbrev pub decreases-member_entered : goal.decreases-member_entered
decreases-member_entered l = 73786976294838206464 * l.level.now.left + 1

abbrev pub decreases-component_entered : goal.decreases-component_entered
decreases-component_entered l = 73786976294838206464 * l.level.now.left

abbrev pub decreases-element_entered : goal.decreases-element_entered
decreases-element_entered l = 73786976294838206464 * l.level.now.left + 3

abbrev pub decreases-elements_under : goal.decreases-elements_under
decreases-elements_under l = 73786976294838206464 * l.level.now.left + 4 + (length l.dims.now - length l.before.now)

abbrev pub invariant-members_entered-loop-inherited : goal.invariant-members_entered-loop-inherited
invariant-members_entered-loop-inherited l = record {
  grows : Grows l.initial.s l.s;
  kept : IsKept l.s l.work.reader;
  are : Every (IsEntered l.s) l.work.instances;
  left : members_added (table_in l.initial.s) l.level.left (around_seen l.level.around) (map (inherited_seen (frames_of l.initial.s)) (drop l.inherited-index l.members)) (instances_in l.s l.work.instances)
      ≡ members_added (table_in l.initial.s) l.level.left (around_seen l.level.around) (map (inherited_seen (frames_of l.initial.s)) l.members) (instances_in l.initial.s l.initial.work.instances);
}

abbrev pub invariant-elements_under-loop-place : goal.invariant-elements_under-loop-place
invariant-elements_under-loop-place l = record {
  grows : Grows l.initial.s l.s;
  kept : IsKept l.s l.work.reader;
  are : Every (IsEntered l.s) l.work.instances;
  so_far : elements_to (table_in l.initial.s) (parts_entered (table_in l.initial.s) (deeper (table_in l.initial.s) l.level.left)) (around_seen l.level.around) (member_of (frames_of l.initial.s) l.member) l.dims l.before l.place (instances_in l.initial.s l.initial.work.instances)
      ≡ Ok (instances_in l.s l.work.instances);
}
