use Rattle.std.proofs.Common.{sym, ◌∙◌}
use Rattle.mo_report_lines.proofs.OffsetLines.{unknown_is, never_highest, highest_is, unknown_line_is, nothing_of, something_of}
use Rattle.mo_report_lines.proofs.offsets.unknown_line.Goals as goal

pub returns-in_err-highest-clause-none : goal.returns-in_err-highest-clause-none
returns-in_err-highest-clause-none c = rw c.from_residual-in_err-highest.ensures (λ name d e. never_highest c.args.line.now name d e _ _ c.in_ok-unknown.ensures.some c.in_err-highest.ensures.none)

pub returns-then-not-is_empty-clause-none : goal.returns-then-not-is_empty-clause-none
returns-then-not-is_empty-clause-none c =
    λ name d e. something_of _ (sym c.is_empty.ensures ∙ c.if-not-is_empty.true) (highest_is c.args.line.now name d e _ _ c.in_ok-unknown.ensures.some _ _ c.in_ok-highest.ensures.some).1

pub returns-clause-some : goal.returns-clause-some
returns-clause-some c = unknown_line_is c.args.line.now _ _ _ _ c.in_ok-unknown.ensures.some c.in_ok-highest.ensures.some (nothing_of _ (sym c.is_empty.ensures ∙ c.if-not-is_empty.false))

pub returns-clause-only : goal.returns-clause-only
returns-clause-only c =
    λ name d e. ((unknown_is c.args.line.now name d e _ _ c.in_ok-unknown.ensures.some).0, (highest_is c.args.line.now name d e _ _ c.in_ok-unknown.ensures.some _ _ c.in_ok-highest.ensures.some).0)
