-- What is chosen, with the indices and sizes of its path; where indices are pending, resolved once for its array.
use Rattle.std.proofs.Common.{refl, subst, sym}
use Rattle.mo_scope.specs.declared.source.ScopeAt.{ScopeAt}
use Rattle.mo_scope.specs.Worlds.{IsFrame, frames_of}
use Rattle.mo_syntax.specs.Outcome.{Outcome}
use Rattle.mo_typing.specs.Outcome.{Gives}
use Rattle.mo_values.specs.Scalars.{Known}
use Rattle.mo_equations.specs.steps.Declaring.{variable_in}
use Rattle.mo_equations.proofs.Declares.{chosen_asked, known_asked}
use Rattle.mo_equations.proofs.Staying.{stays_still}
use Rattle.mo_equations.proofs.variables.known_of_leaf.Goals as goal

pub returns-clause-exact : goal.returns-clause-exact
returns-clause-exact c =
    let world = c.args.s.now in
    let variable = variable_in (frames_of world) c.args.variable.now in
    subst (λ (o : Outcome Known). Gives c.known_at.result o)
    (known_asked world c.args.desk.now.leaves c.asked_of-asked.result c.args.chosen.now _ _ variable c.asked_of-asked.ensures (c.in_ok-ranges.ensures variable refl)) c.known_at.ensures.exact

pub known_of_element-requires : goal.known_of_element-requires
known_of_element-requires c =
    let so = c.asked_of-asked.ensures in
    record {
      frame = subst (λ (at : ScopeAt). IsFrame c.args.s.now at.frame.0) (sym so.at) c.requires.chosen;
      instance = c.requires.variable.instance.frame;
      rule = so.rule;
      chosen = chosen_asked c.args.s.now c.args.variable.now c.args.chosen.now c.asked_of-asked.result _ _ _ c.requires.variable c.requires.own so;
      desk = c.requires.desk;
    }

pub returns-then-is_in_array-clause-exact : goal.returns-then-is_in_array-clause-exact
returns-then-is_in_array-clause-exact c =
    let world = c.args.s.now in
    let variable = variable_in (frames_of world) c.args.variable.now in
    subst (λ (o : Outcome Known). Gives c.known_of_element.result o)
    (known_asked world c.args.desk.now.leaves c.asked_of-asked.result c.args.chosen.now _ _ variable c.asked_of-asked.ensures (c.in_ok-ranges.ensures variable refl)) c.known_of_element.ensures.exact

-- ---- what stays

pub returns-in_err-ranges-clause-stays : goal.returns-in_err-ranges-clause-stays
returns-in_err-ranges-clause-stays c = stays_still c.args.s.now c.args.desk.now c.requires.desk

pub returns-clause-stays : goal.returns-clause-stays
returns-clause-stays c = c.known_at.ensures.stays

pub returns-then-is_in_array-clause-stays : goal.returns-then-is_in_array-clause-stays
returns-then-is_in_array-clause-stays c = c.known_of_element.ensures.stays
