-- By how many arguments there are.
use Rattle.std.proofs.Common.{◌<◌, ◌≤◌, length, List, Some, ap, subst, sym, ◌∙◌, arith}
use Rattle.std.specs.Borrow.{Bor}
use Rattle.std.specs.Prelude.{Ok, option_map}
use Rattle.mo_syntax.specs.Outcome.{Outcome, and_then}
use Rattle.mo_syntax.specs.declared.expr.Expr.{Expr}
use Rattle.mo_flat.specs.declared.model.FlatAssert.{FlatAssert}
use Rattle.mo_scope.specs.Worlds.{frames_of, scope_in}
use Rattle.mo_equations.specs.Asserts.{plain_values}
use Rattle.mo_equations.specs.Gathering.{made_assert}
use Rattle.mo_equations.specs.steps.Asserts.{GivesAssert, values_seen}
use Rattle.mo_equations.specs.steps.Standing.{tree_in}
use Rattle.mo_equations.proofs.ByCount.{other_values, three_values, two_values}
use Rattle.mo_equations.proofs.asserts.assert_of.Goals as goal

pub returns-in-len2-clause-exact : goal.returns-in-len2-clause-exact
returns-in-len2-clause-exact c =
    let u = c.args.s.now in
    let tree = tree_in u c.args.desk.now.leaves in
    let scope = scope_in (frames_of u) c.args.at.now.frame.0 c.args.at.now.iters in
    let values = c.as_slice.result.now in
    let given = ap (λ (vs : List (Bor Expr)). option_map values_seen (Some vs)) c.as_slice.ensures ∙ (ap (option_map values_seen) (sym c.in-Some.is) ∙ c.in_ok-values.ensures) in
    let l : 2 ≤ length values = c.in-len2.len_at_least in
    let b : length values < 3 = c.in-len2.len_below in
    subst (GivesAssert c.assert_with.result)
    (two_values tree scope c.args.place (plain_values c.args.arguments.now) values c.condition-item.result c.message-item.result given (omega (arith, l, b)) c.condition-item.is c.message-item.is)
    c.assert_with.ensures.exact

pub returns-in-len3-clause-exact : goal.returns-in-len3-clause-exact
returns-in-len3-clause-exact c =
    let u = c.args.s.now in
    let tree = tree_in u c.args.desk.now.leaves in
    let scope = scope_in (frames_of u) c.args.at.now.frame.0 c.args.at.now.iters in
    let values = c.as_slice.result.now in
    let given = ap (λ (vs : List (Bor Expr)). option_map values_seen (Some vs)) c.as_slice.ensures ∙ (ap (option_map values_seen) (sym c.in-Some.is) ∙ c.in_ok-values.ensures) in
    let l : 3 ≤ length values = c.in-len3.len_at_least in
    let b : length values < 4 = c.in-len3.len_below in
    subst (GivesAssert c.assert_with-in-len3.result)
    (three_values tree scope c.args.place (plain_values c.args.arguments.now) values c.condition-item-then-this-lt4.result c.message-item-then-this-lt4.result c.level-item.result given (omega (arith, l, b))
    c.condition-item-then-this-lt4.is c.message-item-then-this-lt4.is c.level-item.is)
    c.assert_with-in-len3.ensures.exact

pub returns-in-empty-clause-exact : goal.returns-in-empty-clause-exact
returns-in-empty-clause-exact c =
    let u = c.args.s.now in
    let values = c.as_slice.result.now in
    let given = ap (λ (vs : List (Bor Expr)). option_map values_seen (Some vs)) c.as_slice.ensures ∙ (ap (option_map values_seen) (sym c.in-Some.is) ∙ c.in_ok-values.ensures) in
    let b : length values < 1 = c.in-empty.len_below in
    rw c.stop-in-empty.ensures
    (ap (λ (o : Outcome FlatAssert). and_then o (λ (a : FlatAssert). Ok (made_assert a)))
    (other_values (tree_in u c.args.desk.now.leaves) (scope_in (frames_of u) c.args.at.now.frame.0 c.args.at.now.iters) c.args.place (plain_values c.args.arguments.now) values given (λ e. omega (arith, b, e)) (λ e. omega (arith, b, e))))

pub returns-in-len1-clause-exact : goal.returns-in-len1-clause-exact
returns-in-len1-clause-exact c =
    let u = c.args.s.now in
    let values = c.as_slice.result.now in
    let given = ap (λ (vs : List (Bor Expr)). option_map values_seen (Some vs)) c.as_slice.ensures ∙ (ap (option_map values_seen) (sym c.in-Some.is) ∙ c.in_ok-values.ensures) in
    let b : length values < 2 = c.in-len1.len_below in
    rw c.stop-in-len1.ensures
    (ap (λ (o : Outcome FlatAssert). and_then o (λ (a : FlatAssert). Ok (made_assert a)))
    (other_values (tree_in u c.args.desk.now.leaves) (scope_in (frames_of u) c.args.at.now.frame.0 c.args.at.now.iters) c.args.place (plain_values c.args.arguments.now) values given (λ e. omega (arith, b, e)) (λ e. omega (arith, b, e))))

pub returns-clause-exact : goal.returns-clause-exact
returns-clause-exact c =
    let u = c.args.s.now in
    let values = c.as_slice.result.now in
    let given = ap (λ (vs : List (Bor Expr)). option_map values_seen (Some vs)) c.as_slice.ensures ∙ (ap (option_map values_seen) (sym c.in-Some.is) ∙ c.in_ok-values.ensures) in
    let l : 4 ≤ length values = c.in-len4-up.len_at_least in
    rw c.stop-in-len4-up.ensures
    (ap (λ (o : Outcome FlatAssert). and_then o (λ (a : FlatAssert). Ok (made_assert a)))
    (other_values (tree_in u c.args.desk.now.leaves) (scope_in (frames_of u) c.args.at.now.frame.0 c.args.at.now.iters) c.args.place (plain_values c.args.arguments.now) values given (λ e. omega (arith, l, e)) (λ e. omega (arith, l, e))))
