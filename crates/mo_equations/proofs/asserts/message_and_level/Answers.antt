-- The message, then the level.
use Rattle.std.proofs.Common.{◌≡◌, Err, Ok, rules, ap, sym, option_copied}
use Rattle.mo_syntax.specs.Outcome.{and_then}
use Rattle.mo_syntax.specs.declared.meaning.Kind.TheVariants.{Str}
use Rattle.mo_flat.specs.declared.expr.FlatExpr.{FlatExpr}
use Rattle.mo_scope.specs.Worlds.{frames_of, scope_in}
use Rattle.mo_equations.specs.Asserts.{flat_argument}
use Rattle.mo_equations.specs.steps.Asserts.{IsRest, level_of}
use Rattle.mo_equations.specs.steps.Standing.{tree_in}
use Rattle.mo_equations.specs.steps.Flats.{IsFlat}
use Rattle.mo_equations.specs.steps.Makings.{IsFlatOption}
use Rattle.mo_equations.proofs.Arguments.{level_later, rest_both, rest_halts}
use Rattle.mo_equations.proofs.Replacings.{answers_as}
use Rattle.mo_equations.proofs.Staying.{stays_on}
use Rattle.mo_equations.proofs.asserts.message_and_level.Goals as goal

pub returns-in_err-message-clause-exact : goal.returns-in_err-message-clause-exact
returns-in_err-message-clause-exact c =
    let u = c.args.s.now in
    let at = c.args.at.now in
    let tree = tree_in u c.args.desk.now.leaves in
    let scope = scope_in (frames_of u) at.frame.0 at.iters in
    let stop = c.in_err-message.field-0.0 in
    let p : c.from_residual.result ≡ Err stop = search rules in
    rw p (rest_halts IsFlat IsRest stop (flat_argument tree scope Str c.args.message.now) (λ m. and_then (level_of tree scope (option_copied c.args.level)) (λ l. Ok (m, l))) c.in_err-message.ensures.exact)

pub returns-clause-exact : goal.returns-clause-exact
returns-clause-exact c =
    let u = c.args.s.now in
    let at = c.args.at.now in
    let tree = tree_in u c.args.desk.now.leaves in
    let scope = scope_in (frames_of u) at.frame.0 at.iters in
    let level = option_copied c.args.level in
    let first = c.in_ok-message.ensures.exact in
    let later = level_later u c.flat_argument.new.s c.args.desk.now c.flat_argument.new.desk at.frame.0 at.iters level c.requires.desk c.in_ok-message.ensures.stays.goes c.requires.frame in
    answers_as IsRest c.both.result _ _
    (ap (λ o. and_then o (λ (m : FlatExpr). and_then (level_of tree scope level) (λ l. Ok (m, l)))) (sym first.1))
    (rest_both c.in_ok-message.message c.flat_level-level.result c.both.result first.0 (level_of tree scope level) c.both.ensures.values c.both.ensures.error first.2
    (answers_as IsFlatOption c.flat_level-level.result _ _ later c.flat_level-level.ensures.exact))

-- ---- what stays

pub returns-in_err-message-clause-stays : goal.returns-in_err-message-clause-stays
returns-in_err-message-clause-stays c = c.in_err-message.ensures.stays

pub returns-clause-stays : goal.returns-clause-stays
returns-clause-stays c = stays_on c.args.s.now c.flat_argument.new.s c.flat_level-level.new.s c.args.desk.now c.flat_argument.new.desk c.flat_level-level.new.desk c.in_ok-message.ensures.stays c.flat_level-level.ensures.stays
