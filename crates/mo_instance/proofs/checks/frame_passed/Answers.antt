-- The elements of the frame, then its checks.
use Rattle.std.proofs.Common.{Err, Ok, ap, drop, subst, sym, ◌∙◌}
use Rattle.std.specs.Prelude.{option_copied}
use Rattle.std.proofs.lemmas.Result.{err_from_is_err_and}
use Rattle.mo_scope.specs.Frames.{sources_of}
use Rattle.mo_scope.specs.Lookup.{Walked}
use Rattle.mo_scope.specs.Outcome.{Gives}
use Rattle.mo_scope.specs.Redeclarations.{Checked}
use Rattle.mo_scope.specs.Worlds.{frame_at, frames_of, table_in}
use Rattle.mo_names.specs.Sights.{walk_seen}
use Rattle.mo_names.proofs.Later.{grows_trans, is_frame_later, is_walk_later, walk_later}
use Rattle.mo_instance.specs.steps.Checks.{frame_passes}
use Rattle.mo_instance.specs.steps.FirstPass.{is_replaced_by}
use Rattle.mo_instance.specs.steps.Walks.{walk_or_none}
use Rattle.mo_instance.proofs.Checking.{passes_are, passes_before}
use Rattle.mo_instance.proofs.Later.{elements_later, elements_stay}
use Rattle.mo_instance.proofs.Lists.{broken_on}
use Rattle.mo_syntax.specs.Outcome.{and_then}
use Rattle.mo_instance.proofs.checks.frame_passed.Goals as goal

pub passes-requires-clause-elements : goal.passes-requires-clause-elements
passes-requires-clause-elements c = elements_stay c.args.s.now c.walk_of.new.s c.args.frame.0 _ c.in_ok-walk.ensures.grows c.requires.frame c.in_ok-walk.ensures.value

pub returns-in_err-passes-clause-value : goal.returns-in_err-passes-clause-value
returns-in_err-passes-clause-value c =
    let p = err_from_is_err_and c.from_residual-in_err-passes.result c.from_residual-in_err-passes.ensures.1 in
    let u = c.args.s.now in
    let v = c.walk_of.new.s in
    let R = is_replaced_by (walk_or_none (frames_of u) (option_copied c.args.replaced)) in
    let added = drop c.args.passed (sources_of (frame_at u c.args.frame.0)) in
    let walked = walk_seen (frames_of v) c.in_ok-walk.walk in
    rw (p.1, p.2) (broken_on {T = Unit {0}} {A = Unit {0}} {B = Walked} (λ _. tt) (walk_seen (frames_of c.passes.new.s)) c.in_err-passes.field-0.0 (frame_passes (table_in u) R added (frame_at u c.args.frame.0) walked) (λ _. Ok walked) _
    (subst (Gives {T = Unit {0}} (λ _. tt) (Err c.in_err-passes.field-0.0))
    (passes_before u v (option_copied c.args.replaced) c.args.passed c.args.frame.0 walked c.in_ok-walk.ensures.grows c.requires.frame c.requires.replaced)
    c.in_err-passes.ensures.value)
    (passes_are (table_in u) R added (frame_at u c.args.frame.0) walked c.in_ok-walk.ensures.value))

pub returns-clause-value : goal.returns-clause-value
returns-clause-value c =
    let u = c.args.s.now in
    let v = c.walk_of.new.s in
    let R = is_replaced_by (walk_or_none (frames_of u) (option_copied c.args.replaced)) in
    let added = drop c.args.passed (sources_of (frame_at u c.args.frame.0)) in
    let walked = walk_seen (frames_of v) c.in_ok-walk.walk in
    sym (passes_are (table_in u) R added (frame_at u c.args.frame.0) walked c.in_ok-walk.ensures.value)
    ∙ ap (λ (o : Checked). and_then o (λ _. Ok walked))
    (sym (passes_before u v (option_copied c.args.replaced) c.args.passed c.args.frame.0 walked c.in_ok-walk.ensures.grows c.requires.frame c.requires.replaced) ∙ c.in_ok-passes.ensures.value)
    ∙ ap (λ (x : Walked). Ok x) (sym (walk_later v c.passes.new.s c.in_ok-walk.walk c.in_ok-passes.ensures.grows c.in_ok-walk.ensures.stand))

pub returns-clause-stand : goal.returns-clause-stand
returns-clause-stand c = is_walk_later c.walk_of.new.s c.passes.new.s c.in_ok-walk.walk c.in_ok-passes.ensures.grows c.in_ok-walk.ensures.stand

pub returns-clause-elements : goal.returns-clause-elements
returns-clause-elements c =
    elements_later c.walk_of.new.s c.passes.new.s c.args.frame.0 c.in_ok-walk.walk c.in_ok-passes.ensures.grows (is_frame_later c.args.s.now c.walk_of.new.s c.args.frame.0 c.in_ok-walk.ensures.grows c.requires.frame) c.in_ok-walk.ensures.stand
    (elements_stay c.args.s.now c.walk_of.new.s c.args.frame.0 _ c.in_ok-walk.ensures.grows c.requires.frame c.in_ok-walk.ensures.value)

pub returns-in_err-walk-clause-grows : goal.returns-in_err-walk-clause-grows
returns-in_err-walk-clause-grows c = c.in_err-walk.ensures.grows

pub returns-in_err-passes-clause-grows : goal.returns-in_err-passes-clause-grows
returns-in_err-passes-clause-grows c = grows_trans c.args.s.now c.walk_of.new.s c.passes.new.s c.in_ok-walk.ensures.grows c.in_err-passes.ensures.grows

pub returns-clause-grows : goal.returns-clause-grows
returns-clause-grows c = grows_trans c.args.s.now c.walk_of.new.s c.passes.new.s c.in_ok-walk.ensures.grows c.in_ok-passes.ensures.grows
