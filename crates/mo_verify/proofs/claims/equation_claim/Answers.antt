use Rattle.std.proofs.Common.{sym, ◌∙◌}
use Rattle.mo_report_lines.specs.Lines.{without_feed}
use Rattle.mo_verify.proofs.Claiming.{claim_is, claim_not_number, claim_not_name, claim_not_line}
use Rattle.mo_verify.proofs.claims.equation_claim.Goals as goal

pub returns-clause-some : goal.returns-clause-some
returns-clause-some c =
    claim_is c.args._names.now (without_feed c.args.line.now) c.args.number _ _ _ _
    (record { is = rw c.without_feed.ensures at c.in_ok-read.ensures.some; only = rw c.without_feed.ensures at c.in_ok-read.ensures.only }) _ c.if-read-number.false
    (sym (c.requires.table c.in_ok-read.read.unknown.now) ∙ sym c.in_ok-unknown.ensures)

pub returns-then-read-number-clause-none : goal.returns-then-read-number-clause-none
returns-then-read-number-clause-none c =
    claim_not_number c.args._names.now (without_feed c.args.line.now) c.args.number _ _ _ _
    (record { is = rw c.without_feed.ensures at c.in_ok-read.ensures.some; only = rw c.without_feed.ensures at c.in_ok-read.ensures.only }) c.if-read-number.true

pub returns-in_err-read-clause-none : goal.returns-in_err-read-clause-none
returns-in_err-read-clause-none c = rw c.from_residual.ensures (claim_not_line c.args._names.now (without_feed c.args.line.now) c.args.number (rw c.without_feed.ensures at c.in_err-read.ensures.none))

pub returns-in_err-unknown-clause-none : goal.returns-in_err-unknown-clause-none
returns-in_err-unknown-clause-none c =
    rw c.from_residual-in_err-unknown.ensures
    (claim_not_name c.args._names.now (without_feed c.args.line.now) c.args.number _ _ _ _
    (record { is = rw c.without_feed.ensures at c.in_ok-read.ensures.some; only = rw c.without_feed.ensures at c.in_ok-read.ensures.only })
    (sym (c.requires.table c.in_ok-read.read.unknown.now) ∙ sym c.in_err-unknown.ensures))
