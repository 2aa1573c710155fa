-- No class is having its bases found, or the class of the frame has none.
use Rattle.std.proofs.Common.{ap, sym, ◌∙◌, arith}
use Rattle.mo_scope.specs.Frames.{class_of}
use Rattle.mo_scope.specs.Lookup.{contains}
use Rattle.mo_scope.specs.Worlds.{frame_at, table_in}
use Rattle.mo_names.proofs.Alone.{elements_alike, is_false, row_alone}
use Rattle.mo_names.proofs.kept.is_unhindered.Goals as goal

pub returns-then-is_free-clause-same : goal.returns-then-is_free-clause-same
returns-then-is_free-clause-same c = λ yes place. ap (λ asking. asking.elements place (frame_at c.args.s.now c.args.frame.0)) (c.is_free.ensures c.if-is_free.true)

pub returns-then-is_free-clause-idle : goal.returns-then-is_free-clause-idle
returns-then-is_free-clause-idle c = λ yes. ap (λ asking. contains asking.busy (class_of (frame_at c.args.s.now c.args.frame.0))) (c.is_free.ensures c.if-is_free.true)

pub returns-clause-same : goal.returns-clause-same
returns-clause-same c = λ yes place.
    elements_alike (table_in c.args.s.now) c.args.ask.now.left c.args.ask.now.busy.now place (frame_at c.args.s.now c.args.frame.0) (omega (arith, c.if-ask-eq0.false))
    (ap (contains c.args.ask.now.busy.now) (sym c.class_of.ensures.is) ∙ sym c.is_busy.ensures ∙ c.if-is_busy.false)
    (row_alone (table_in c.args.s.now) (frame_at c.args.s.now c.args.frame.0) (sym c.has_base.ensures ∙ is_false c.has_base.result yes))
