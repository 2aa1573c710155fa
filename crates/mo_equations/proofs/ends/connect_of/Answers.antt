-- The left end, then the right one.
use Rattle.std.proofs.Common.{◌≡◌, Option, Ok, Err, ap, sym, subst, ◌∙◌, rules}
use Rattle.std.specs.Option.{option_to_list}
use Rattle.mo_flat.specs.declared.connect.End.{End}
use Rattle.mo_scope.specs.Worlds.{frames_of, scope_in}
use Rattle.mo_names.proofs.Later.{is_frame_later}
use Rattle.mo_typing.specs.Outcome.{Gives}
use Rattle.mo_equations.specs.Ends.{end_of}
use Rattle.mo_equations.specs.steps.Standing.{tree_in}
use Rattle.mo_equations.proofs.Ended.{both_made, left_removed, left_stops, right_removed, right_stops, told_later}
use Rattle.mo_equations.proofs.Staying.{stays_on}
use Rattle.mo_equations.proofs.ends.connect_of.Goals as goal

pub returns-in_err-left-clause-exact : goal.returns-in_err-left-clause-exact
returns-in_err-left-clause-exact c =
    let u = c.args.s.now in
    let at = c.args.at.now in
    let stop = c.in_err-left.field-0.0 in
    let p : c.from_residual.result ≡ Err stop = search rules in
    rw p (left_stops (tree_in u c.args.desk.now.leaves) (scope_in (frames_of u) at.frame.0 at.iters) c.args.place c.args.left.now c.args.right.now option_to_list stop c.in_err-left.ensures.exact)

pub returns-in_default-clause-exact : goal.returns-in_default-clause-exact
returns-in_default-clause-exact c =
    let u = c.args.s.now in
    let at = c.args.at.now in
    left_removed (tree_in u c.args.desk.now.leaves) (scope_in (frames_of u) at.frame.0 at.iters) c.args.place c.args.left.now c.args.right.now
    (c.in_ok-left.ensures.exact ∙ ap (λ (o : Option End). Ok o) c.in_default.is)

pub end_of-requires-2-clause-frame : goal.end_of-requires-2-clause-frame
end_of-requires-2-clause-frame c = is_frame_later c.args.s.now c.end_of.new.s c.args.at.now.frame.0 c.in_ok-left.ensures.stays.goes.grows c.requires.frame

pub end_of-requires-2-clause-desk : goal.end_of-requires-2-clause-desk
end_of-requires-2-clause-desk c = c.in_ok-left.ensures.stays.goes.desk

pub returns-in_err-right-clause-exact : goal.returns-in_err-right-clause-exact
returns-in_err-right-clause-exact c =
    let u = c.args.s.now in
    let v = c.end_of.new.s in
    let at = c.args.at.now in
    let right = c.args.right.now in
    let later = told_later (λ tree scope. end_of tree scope right) u v c.args.desk.now c.end_of.new.desk at.frame.0 at.iters c.requires.desk c.in_ok-left.ensures.stays.goes c.requires.frame in
    let stop = c.in_err-right.field-0.0 in
    let p : c.from_residual-in_err-right.result ≡ Err stop = search rules in
    rw p (right_stops (tree_in u c.args.desk.now.leaves) (scope_in (frames_of u) at.frame.0 at.iters) c.args.place c.args.left.now right c.in-Some.left
    (c.in_ok-left.ensures.exact ∙ ap (λ (o : Option End). Ok o) c.in-Some.is) option_to_list stop (subst (Gives {T = Option End} (Err stop)) later c.in_err-right.ensures.exact))

pub returns-in-Some-2-clause-exact : goal.returns-in-Some-2-clause-exact
returns-in-Some-2-clause-exact c =
    let u = c.args.s.now in
    let v = c.end_of.new.s in
    let at = c.args.at.now in
    let right = c.args.right.now in
    let later = told_later (λ tree scope. end_of tree scope right) u v c.args.desk.now c.end_of.new.desk at.frame.0 at.iters c.requires.desk c.in_ok-left.ensures.stays.goes c.requires.frame in
    both_made (tree_in u c.args.desk.now.leaves) (scope_in (frames_of u) at.frame.0 at.iters) c.args.place c.args.left.now right c.in-Some.left
    (c.in_ok-left.ensures.exact ∙ ap (λ (o : Option End). Ok o) c.in-Some.is) c.in-Some-2.right (sym later ∙ (c.in_ok-right.ensures.exact ∙ ap (λ (o : Option End). Ok o) c.in-Some-2.is))

pub returns-in-None-clause-exact : goal.returns-in-None-clause-exact
returns-in-None-clause-exact c =
    let u = c.args.s.now in
    let v = c.end_of.new.s in
    let at = c.args.at.now in
    let right = c.args.right.now in
    let later = told_later (λ tree scope. end_of tree scope right) u v c.args.desk.now c.end_of.new.desk at.frame.0 at.iters c.requires.desk c.in_ok-left.ensures.stays.goes c.requires.frame in
    right_removed (tree_in u c.args.desk.now.leaves) (scope_in (frames_of u) at.frame.0 at.iters) c.args.place c.args.left.now right c.in-Some.left
    (c.in_ok-left.ensures.exact ∙ ap (λ (o : Option End). Ok o) c.in-Some.is) (sym later ∙ (c.in_ok-right.ensures.exact ∙ ap (λ (o : Option End). Ok o) c.in-None.is))

-- ---- what stays

pub returns-in_err-left-clause-stays : goal.returns-in_err-left-clause-stays
returns-in_err-left-clause-stays c = c.in_err-left.ensures.stays

pub returns-in_default-clause-stays : goal.returns-in_default-clause-stays
returns-in_default-clause-stays c = c.in_ok-left.ensures.stays

pub returns-in_err-right-clause-stays : goal.returns-in_err-right-clause-stays
returns-in_err-right-clause-stays c = stays_on c.args.s.now c.end_of.new.s c.end_of-2.new.s c.args.desk.now c.end_of.new.desk c.end_of-2.new.desk c.in_ok-left.ensures.stays c.in_err-right.ensures.stays

pub returns-in-Some-2-clause-stays : goal.returns-in-Some-2-clause-stays
returns-in-Some-2-clause-stays c = stays_on c.args.s.now c.end_of.new.s c.end_of-2.new.s c.args.desk.now c.end_of.new.desk c.end_of-2.new.desk c.in_ok-left.ensures.stays c.in_ok-right.ensures.stays

pub returns-in-None-clause-stays : goal.returns-in-None-clause-stays
returns-in-None-clause-stays c = stays_on c.args.s.now c.end_of.new.s c.end_of-2.new.s c.args.desk.now c.end_of.new.desk c.end_of-2.new.desk c.in_ok-left.ensures.stays c.in_ok-right.ensures.stays
