use Rattle.std.proofs.Common.{◌≡◌, false, true, Ok, Err, sym, ap, ◌∙◌, rules}
use Rattle.mo_values.proofs.TwoOperands.{kinds_asked, not_two, not_whole, two_checked}
use Rattle.mo_values.proofs.operands.checked_operands.Goals as goal

pub returns-in_err-whole : goal.returns-in_err-whole
returns-in_err-whole c =
    let p : c.from_residual.result ≡ Err c.in_err-whole.field-0.0 = search rules in
    rw p (kinds_asked c.args.place c.args.operands.now c.in_err-whole.field-0.0 (rw c.are_whole.ensures at c.in_err-whole.ensures))

pub returns-in_default : goal.returns-in_default
returns-in_default c =
    rw c.broken.ensures (not_two c.args.place c.args.operands.now c.in_ok-whole.whole (sym c.are_whole.ensures ∙ c.in_ok-whole.ensures) c.in_default.ensures)

pub returns-then-not-whole : goal.returns-then-not-whole
returns-then-not-whole c =
    let no : c.in_ok-whole.whole ≡ false = search rules in
    rw c.broken-then-not-whole.ensures (not_whole c.args.place c.args.operands.now (sym c.are_whole.ensures ∙ (c.in_ok-whole.ensures ∙ ap Ok no)))

pub returns : goal.returns
returns c =
    let yes : c.in_ok-whole.whole ≡ true = search rules in
    rw (two_checked c.args.place c.args.operands.now c.in-Some.a.now c.in-Some.b.now c.in-Some.ensures (sym c.are_whole.ensures ∙ (c.in_ok-whole.ensures ∙ ap Ok yes))) c.checked_two.ensures
