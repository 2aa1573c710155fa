-- One redeclaration after another.
use Rattle.std.proofs.Common.{◌+◌, List, Err, drop, map, ap, sym, subst, ◌∙◌}
use Rattle.std.proofs.lemmas.List.{drop_all}
use Rattle.std.proofs.lemmas.Result.{err_from_is_err_and}
use Rattle.mo_scope.specs.Frames.{Member}
use Rattle.mo_scope.specs.Outcome.{Gives}
use Rattle.mo_scope.specs.Redeclarations.{each_checked}
use Rattle.mo_scope.specs.Worlds.{frames_of, member_in, table_in}
use Rattle.mo_names.proofs.Later.{grows_trans}
use Rattle.mo_redeclare.specs.declared.spoken.Named.{Named}
use Rattle.mo_redeclare.specs.steps.Sights.{IsNamed, named_seen}
use Rattle.mo_redeclare.specs.steps.Comparing.{found_checked}
use Rattle.mo_redeclare.proofs.Outcomes.{err_on, every_at, left_from, then_ok}
use Rattle.mo_redeclare.proofs.Later.{checked_before}
use Rattle.mo_redeclare.proofs.check.each_checked_in.Goals as goal

pub returns-in_err-named_checked-clause-value : goal.returns-in_err-named_checked-clause-value
returns-in_err-named_checked-clause-value c =
    let p = err_from_is_err_and c.from_residual.result c.from_residual.ensures.1 in
    let M : List Member = map (member_in (frames_of c.args.s.now)) c.args.members.now in
    let check = found_checked (table_in c.args.s.now) M c.args.is_leaf in
    let G = λ (xs : List Named). each_checked check (map (named_seen (frames_of c.args.s.now)) xs) in
    let is = every_at (IsNamed c.args.s.now) c.args.redeclared.now c.loop-one.one-index c.one-item.result c.requires.redeclared c.loop-one-test.true c.one-item.is in
    rw (p.1, p.2) (err_on {T = Unit {0}} {U = Unit {0}} (λ _. tt) (λ _. tt) c.in_err-named_checked.field-0.0 (check (named_seen (frames_of c.args.s.now) c.one-item.result))
    (λ _. G (drop (c.loop-one.one-index + 1) c.args.redeclared.now)) _
    (subst (Gives {T = Unit {0}} (λ _. tt) (Err c.in_err-named_checked.field-0.0))
    (checked_before c.args.s.now c.loop-one.s c.args.members.now c.args.is_leaf c.one-item.result c.loop-one.invariant.grows c.requires.members is)
    c.in_err-named_checked.ensures.value)
    (left_from G c.args.redeclared.now c.loop-one.one-index c.one-item.result _ c.loop-one-test.true c.one-item.is c.loop-one.invariant.left))

pub loop-one-preserved : goal.loop-one-preserved
loop-one-preserved c =
    let M : List Member = map (member_in (frames_of c.args.s.now)) c.args.members.now in
    let check = found_checked (table_in c.args.s.now) M c.args.is_leaf in
    let G = λ (xs : List Named). each_checked check (map (named_seen (frames_of c.args.s.now)) xs) in
    let is = every_at (IsNamed c.args.s.now) c.args.redeclared.now c.loop-one.one-index c.one-item.result c.requires.redeclared c.loop-one-test.true c.one-item.is in
    record {
      grows = grows_trans c.args.s.now c.loop-one.s c.named_checked.new.s c.loop-one.invariant.grows c.in_ok-named_checked.ensures.grows;
      left =
          then_ok (check (named_seen (frames_of c.args.s.now) c.one-item.result)) (λ _. G (drop (c.loop-one.one-index + 1) c.args.redeclared.now)) tt _
          (left_from G c.args.redeclared.now c.loop-one.one-index c.one-item.result _ c.loop-one-test.true c.one-item.is c.loop-one.invariant.left)
          (sym (checked_before c.args.s.now c.loop-one.s c.args.members.now c.args.is_leaf c.one-item.result c.loop-one.invariant.grows c.requires.members is)
          ∙ c.in_ok-named_checked.ensures.value);
    }

pub returns-clause-value : goal.returns-clause-value
returns-clause-value c =
    let M : List Member = map (member_in (frames_of c.args.s.now)) c.args.members.now in
    sym c.loop-one.invariant.left
    ∙ ap (λ (xs : List Named). each_checked (found_checked (table_in c.args.s.now) M c.args.is_leaf) (map (named_seen (frames_of c.args.s.now)) xs)) (drop_all c.loop-one.one-index c.args.redeclared.now c.loop-one-test.false)
