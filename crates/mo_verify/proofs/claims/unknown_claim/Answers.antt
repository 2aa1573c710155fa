use Rattle.std.proofs.Common.{◌≡◌, sym, ◌∙◌}
use Rattle.mo_report_lines.proofs.Texts.{lines_apart, lines_same}
use Rattle.mo_verify.proofs.claims.unknown_claim.Goals as goal

pub returns-clause-some : goal.returns-clause-some
returns-clause-some c =
    let same : c.in_ok-read.read.unknown.now ≡ c.args.name.now = lines_same _ _ _ c.ne.ensures c.if-ne.false ∙ c.as_bytes.ensures.value in
    let line = rw c.without_feed.ensures at c.in_ok-read.ensures.some in
    rw same at line

pub returns-then-ne-clause-none : goal.returns-then-ne-clause-none
returns-then-ne-clause-none c = λ d is.
    let only = rw c.without_feed.ensures at c.in_ok-read.ensures.only in
    lines_apart _ _ _ c.ne.ensures c.if-ne.true (sym (only c.args.name.now d is).0 ∙ sym c.as_bytes.ensures.value)

pub returns-in_err-read-clause-none : goal.returns-in_err-read-clause-none
returns-in_err-read-clause-none c = let none = rw c.without_feed.ensures at c.in_err-read.ensures.none in rw c.from_residual.ensures (λ d is. none c.args.name.now d is)
