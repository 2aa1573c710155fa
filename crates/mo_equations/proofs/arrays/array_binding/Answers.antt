-- What is kept, or what is resolved now.
use Rattle.std.proofs.Common.{◌∙◌}
use Rattle.mo_equations.proofs.ArrayBindings.{resolved_for_element}
use Rattle.mo_equations.proofs.ResolvedOnce.{left_all}
use Rattle.mo_equations.proofs.Staying.{stays_on}
use Rattle.mo_equations.proofs.arrays.array_binding.Goals as goal

pub returns-in-Some-clause-is : goal.returns-in-Some-clause-is
returns-in-Some-clause-is c =
    left_all c.args.s.now c.args.asked.now.left c.args.asked.now.at.now c.args.asked.now.value.now c.requires.left
    ∙ resolved_for_element c.args.s.now _ c.in-Some.binding c.args.instance.now.frame.0 _ c.in-Some.ensures.binding c.in-Some.ensures.element c.requires.chosen.is

pub resolved_for-requires-clause-desk : goal.resolved_for-requires-clause-desk
resolved_for-requires-clause-desk c = c.taken.ensures.stays.goes.desk

-- ---- what stays

pub returns-in-Some-component_of-clause-stays : goal.returns-in-Some-component_of-clause-stays
returns-in-Some-component_of-clause-stays c = stays_on c.args.s.now c.args.s.now c.resolved_for.new.s c.args.desk.now c.taken.new.desk c.resolved_for.new.desk c.taken.ensures.stays c.resolved_for.ensures.stays
