-- The base, where the class is a partial short one.
use Rattle.std.proofs.Common.{ap, sym, ◌∙◌}
use Rattle.mo_syntax.specs.Outcome.{Outcome, and_then}
use Rattle.mo_syntax.specs.declared.meaning.FrameId.{FrameId}
use Rattle.mo_scope.specs.Frames.{Frame}
use Rattle.mo_scope.specs.Names.{clauses_of}
use Rattle.mo_scope.specs.Redeclarations.{fine}
use Rattle.mo_scope.specs.Sizes.{first_base}
use Rattle.mo_scope.specs.Worlds.{frame_at, table_in}
use Rattle.mo_instance.specs.Checks.{partial_base}
use Rattle.mo_instance.proofs.Checking.{base_asked, whole_base}
use Rattle.mo_instance.proofs.Lists.{broken_on}
use Rattle.mo_names.proofs.Later.{grows_refl}
use Rattle.mo_instance.proofs.checks.partial_base.Goals as goal

pub returns-then-not-is_partial_short-clause-value : goal.returns-then-not-is_partial_short-clause-value
returns-then-not-is_partial_short-clause-value c =
    whole_base (table_in c.args.s.now) (frame_at c.args.s.now c.args.frame.0) (sym c.if-not-is_partial_short.ensures)

pub returns-in-Ok-clause-value : goal.returns-in-Ok-clause-value
returns-in-Ok-clause-value c =
    sym (base_asked (table_in c.args.s.now) (frame_at c.args.s.now c.args.frame.0) (sym c.if-not-is_partial_short.ensures))
    ∙ ap (λ (o : Outcome Frame). and_then o (λ _. fine)) c.in-Ok.ensures.value

pub returns-in-Err-clause-value : goal.returns-in-Err-clause-value
returns-in-Err-clause-value c =
    let u = c.args.s.now in
    let v = c.first_base.new.s in
    let T = table_in u in
    let f = frame_at u c.args.frame.0 in
    broken_on {T = FrameId} {U = Unit {0}} {A = Frame} {B = Unit {0}} (λ (base : FrameId). frame_at v base.0) (λ _. tt) c.in-Err.stop
    (first_base T f (clauses_of T f)) (λ _. fine) (partial_base T f) c.in-Err.ensures.value (base_asked T f (sym c.if-not-is_partial_short.ensures))

pub returns-then-not-is_partial_short-clause-grows : goal.returns-then-not-is_partial_short-clause-grows
returns-then-not-is_partial_short-clause-grows c = grows_refl _
