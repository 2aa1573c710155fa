-- What is chosen, with the indices and sizes of its path.
use Rattle.std.proofs.Common.{refl}
use Rattle.mo_scope.specs.Worlds.{frames_of}
use Rattle.mo_equations.specs.steps.Declaring.{variable_in}
use Rattle.mo_equations.specs.steps.Flats.{IsFlat}
use Rattle.mo_equations.proofs.Declares.{leaf_asked}
use Rattle.mo_equations.proofs.Replacings.{answers_as}
use Rattle.mo_equations.proofs.Staying.{stays_still}
use Rattle.mo_equations.proofs.variables.flat_of_leaf.Goals as goal

pub returns-clause-exact : goal.returns-clause-exact
returns-clause-exact c =
    let world = c.args.s.now in
    let variable = variable_in (frames_of world) c.args.variable.now in
    answers_as IsFlat c.flat_at.result _ _
    (leaf_asked world c.args.desk.now.leaves c.asked_of-asked.result c.args.chosen.now c.args.kind _ _ variable c.asked_of-asked.ensures (c.in_ok-ranges.ensures variable refl)) c.flat_at.ensures.exact

pub returns-then-may_share-clause-exact : goal.returns-then-may_share-clause-exact
returns-then-may_share-clause-exact c =
    let world = c.args.s.now in
    let variable = variable_in (frames_of world) c.args.variable.now in
    answers_as IsFlat c.flat_of_shared.result _ _
    (leaf_asked world c.args.desk.now.leaves c.asked_of-asked.result c.args.chosen.now c.args.kind _ _ variable c.asked_of-asked.ensures (c.in_ok-ranges.ensures variable refl)) c.flat_of_shared.ensures.exact

-- ---- what stays

pub returns-in_err-ranges-clause-stays : goal.returns-in_err-ranges-clause-stays
returns-in_err-ranges-clause-stays c = stays_still c.args.s.now c.args.desk.now c.requires.desk

pub returns-clause-stays : goal.returns-clause-stays
returns-clause-stays c = c.flat_at.ensures.stays
