use Rattle.std.proofs.Common.{◌≡◌, ◌+◌, drop, true, Err, sym, ◌∙◌, arith, rules}
use Rattle.mo_syntax.specs.Outcome.{and_then}
use Rattle.mo_typing.specs.Outcome.{each}
use Rattle.mo_typing.specs.Kinds.{kind_of}
use Rattle.mo_typing.proofs.Gathering.{ended, opened}
use Rattle.mo_values.proofs.TwoOperands.{all_asked, all_whole, whole_halts, whole_more}
use Rattle.mo_values.proofs.operands.are_whole.Goals as goal

pub returns-in_err-kind : goal.returns-in_err-kind
returns-in_err-kind c =
    let x = c.operand-item.result in
    let i = c.loop-operand.operand-index in
    let w = c.loop-operand.whole in
    let p : c.from_residual.result ≡ Err c.in_err-kind.field-0.0 = search rules in
    rw p (sym (whole_halts w x (drop (i + 1) c.args.operands.now) c.in_err-kind.field-0.0 (sym c.in_err-kind.ensures))
    ∙ (opened (λ xs. and_then (each kind_of xs) (all_whole w)) c.args.operands.now i x c.loop-operand-test.true c.operand-item.is ∙ c.loop-operand.invariant))

pub loop-operand-preserved : goal.loop-operand-preserved
loop-operand-preserved c =
    let x = c.operand-item.result in
    let i = c.loop-operand.operand-index in
    let w = c.loop-operand.whole in
    rw (c.also-whole.ensures, c.is_whole.ensures)
    (sym (whole_more w x (drop (i + 1) c.args.operands.now) c.in_ok-kind.kind (sym c.in_ok-kind.ensures))
    ∙ (opened (λ xs. and_then (each kind_of xs) (all_whole w)) c.args.operands.now i x c.loop-operand-test.true c.operand-item.is ∙ c.loop-operand.invariant))

pub returns : goal.returns
returns c =
    let w = c.loop-operand.whole in
    all_asked c.args.operands.now w
    (ended (λ xs. and_then (each kind_of xs) (all_whole w)) c.args.operands.now c.loop-operand.operand-index _ (omega arith) c.loop-operand.invariant)
