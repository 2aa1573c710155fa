-- The condition, then what stands behind it.
use Rattle.std.proofs.Common.{◌≡◌, Err, rules, option_copied}
use Rattle.mo_scope.specs.Worlds.{frames_of, scope_in}
use Rattle.mo_equations.specs.steps.Asserts.{IsRest, rest_of}
use Rattle.mo_equations.specs.steps.Standing.{tree_in}
use Rattle.mo_equations.specs.steps.Makings.{IsMade}
use Rattle.mo_equations.proofs.Arguments.{assert_by, rest_later, stop_condition}
use Rattle.mo_equations.proofs.Replacings.{answers_as}
use Rattle.mo_equations.proofs.Staying.{stays_on}
use Rattle.mo_equations.proofs.asserts.assert_with.Goals as goal

pub returns-in_err-condition-clause-exact : goal.returns-in_err-condition-clause-exact
returns-in_err-condition-clause-exact c =
    let u = c.args.s.now in
    let at = c.args.at.now in
    let stop = c.in_err-condition.field-0.0 in
    let p : c.from_residual.result ≡ Err stop = search rules in
    rw p (stop_condition (tree_in u c.args.desk.now.leaves) (scope_in (frames_of u) at.frame.0 at.iters) c.args.condition.now c.args.message.now (option_copied c.args.level) stop c.in_err-condition.ensures.exact)

pub returns-clause-exact : goal.returns-clause-exact
returns-clause-exact c =
    let u = c.args.s.now in
    let at = c.args.at.now in
    let tree = tree_in u c.args.desk.now.leaves in
    let scope = scope_in (frames_of u) at.frame.0 at.iters in
    let level = option_copied c.args.level in
    let first = c.in_ok-condition.ensures.exact in
    let later = rest_later u c.flat_argument.new.s c.args.desk.now c.flat_argument.new.desk at.frame.0 at.iters c.args.message.now level c.requires.desk c.in_ok-condition.ensures.stays.goes c.requires.frame in
    answers_as IsMade c.with_rest.result _ _ (assert_by tree scope c.args.condition.now c.args.message.now level first.0 first.1)
    (c.with_rest.ensures first.0 (rest_of tree scope c.args.message.now level) first.2 (answers_as IsRest c.message_and_level-rest.result _ _ later c.message_and_level-rest.ensures.exact))

-- ---- what stays

pub returns-in_err-condition-clause-stays : goal.returns-in_err-condition-clause-stays
returns-in_err-condition-clause-stays c = c.in_err-condition.ensures.stays

pub returns-clause-stays : goal.returns-clause-stays
returns-clause-stays c = stays_on c.args.s.now c.flat_argument.new.s c.message_and_level-rest.new.s c.args.desk.now c.flat_argument.new.desk c.message_and_level-rest.new.desk c.in_ok-condition.ensures.stays c.message_and_level-rest.ensures.stays
