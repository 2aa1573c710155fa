use Rattle.std.proofs.Common.{sym, ◌∙◌}
use Rattle.mo_report_lines.proofs.OffsetLines.{number_is, offset_is, pair_is, never_order, order_is, equation_line_is, nothing_of, something_of}
use Rattle.mo_report_lines.proofs.offsets.equation_line.Goals as goal

pub returns-in_err-order-clause-none : goal.returns-in_err-order-clause-none
returns-in_err-order-clause-none c =
    rw c.from_residual-in_err-order.ensures
    (λ i o k name e. never_order c.args.line.now i o k name e _ _ c.in_ok-number.ensures.some _ _ c.in_ok-offset.ensures.some _ _ c.in_ok-unknown.ensures.some c.in_err-order.ensures.none)

pub returns-then-not-is_empty-clause-none : goal.returns-then-not-is_empty-clause-none
returns-then-not-is_empty-clause-none c =
    λ i o k name e. something_of _ (sym c.is_empty.ensures ∙ c.if-not-is_empty.true)
    (order_is c.args.line.now i o k name e _ _ c.in_ok-number.ensures.some _ _ c.in_ok-offset.ensures.some _ _ c.in_ok-unknown.ensures.some _ _ c.in_ok-order.ensures.some).1

pub returns-clause-some : goal.returns-clause-some
returns-clause-some c =
    equation_line_is c.args.line.now _ _ _ _ _ _ _ _ c.in_ok-number.ensures.some c.in_ok-offset.ensures.some c.in_ok-unknown.ensures.some c.in_ok-order.ensures.some
    (nothing_of _ (sym c.is_empty.ensures ∙ c.if-not-is_empty.false))

pub returns-clause-only : goal.returns-clause-only
returns-clause-only c =
    λ i o k name e. (
      (number_is c.args.line.now i o k name e _ _ c.in_ok-number.ensures.some).0,
      (offset_is c.args.line.now i o k name e _ _ c.in_ok-number.ensures.some _ _ c.in_ok-offset.ensures.some).0,
      (pair_is c.args.line.now i o k name e _ _ c.in_ok-number.ensures.some _ _ c.in_ok-offset.ensures.some _ _ c.in_ok-unknown.ensures.some).0,
      (order_is c.args.line.now i o k name e _ _ c.in_ok-number.ensures.some _ _ c.in_ok-offset.ensures.some _ _ c.in_ok-unknown.ensures.some _ _ c.in_ok-order.ensures.some).0,
    )
