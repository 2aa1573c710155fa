-- What is chosen, with the indices and sizes of its path; where indices are pending, resolved once for its array.
use Rattle.std.proofs.Common.{refl, subst, sym}
use Rattle.mo_scope.specs.declared.source.ScopeAt.{ScopeAt}
use Rattle.mo_scope.specs.Worlds.{IsFrame, frames_of}
use Rattle.mo_equations.specs.steps.Declaring.{variable_in}
use Rattle.mo_equations.specs.steps.Flats.{IsFlat}
use Rattle.mo_equations.proofs.Declares.{chosen_asked, leaf_asked}
use Rattle.mo_equations.proofs.Replacings.{answers_as}
use Rattle.mo_equations.proofs.Staying.{stays_still}
use Rattle.mo_equations.proofs.variables.expression_of_binding.Goals as goal

pub flat_of_element-requires : goal.flat_of_element-requires
flat_of_element-requires c =
    let so = c.asked_of-asked.ensures in
    record {
      frame = subst (λ (at : ScopeAt). IsFrame c.args.s.now at.frame.0) (sym so.at) c.requires.chosen;
      instance = c.requires.variable.instance.frame;
      left = so.left;
      rule = so.rule;
      chosen = chosen_asked c.args.s.now c.args.variable.now c.args.binding.now c.asked_of-asked.result _ _ _ c.requires.variable c.requires.own so;
      desk = c.requires.desk;
    }

pub returns-clause-exact : goal.returns-clause-exact
returns-clause-exact c =
    let world = c.args.s.now in
    let variable = variable_in (frames_of world) c.args.variable.now in
    answers_as IsFlat c.flat_of_element.result _ _
    (leaf_asked world c.args.desk.now.leaves c.asked_of-asked.result c.args.binding.now c.args.variable.now.leaf.now.kind _ _ variable c.asked_of-asked.ensures (c.in_ok-ranges.ensures variable refl)) c.flat_of_element.ensures.exact

-- ---- what stays

pub returns-in_err-ranges-clause-stays : goal.returns-in_err-ranges-clause-stays
returns-in_err-ranges-clause-stays c = stays_still c.args.s.now c.args.desk.now c.requires.desk

pub returns-clause-stays : goal.returns-clause-stays
returns-clause-stays c = c.flat_of_element.ensures.stays
