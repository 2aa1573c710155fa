use Rattle.std.proofs.Common.{◌≡◌, ◌+◌, ◌∷◌, [], drop, false, ap, sym, ◌∙◌, arith}
use Rattle.std.specs.Prelude.{◌&&◌, is_some}
use Rattle.std.proofs.lemmas.List.{drop_all}
use Rattle.mo_typing.proofs.Gathering.{opened}
use Rattle.mo_eval.specs.steps.Calling.{plain}
use Rattle.mo_eval.proofs.Calling.{plain_partial, some_plain}
use Rattle.mo_eval.proofs.Forms.{at_Value}
use Rattle.mo_eval.proofs.callee.are_values.Goals as goal

pub returns-in-Partial : goal.returns-in-Partial
returns-in-Partial c = λ table ask scope.
    let x = c.arg-item.result in
    let i = c.loop-arg.arg-index in
    let rest = drop (i + 1) c.args.args.now in
    let is : is_some (plain table ask scope (x ∷ rest)) ≡ false = rw c.in-Partial.is (ap is_some (plain_partial table ask scope c.in-Partial.field-0 c.in-Partial.field-1 rest)) in
    sym is ∙ (opened (λ xs. is_some (plain table ask scope xs)) c.args.args.now i x c.loop-arg-test.true c.arg-item.is ∙ c.loop-arg.invariant table ask scope)

pub loop-arg-preserved : goal.loop-arg-preserved
loop-arg-preserved c = λ table ask scope.
    let x = c.arg-item.result in
    let i = c.loop-arg.arg-index in
    let rest = drop (i + 1) c.args.args.now in
    let is : is_some (plain table ask scope (x ∷ rest)) ≡ is_some (plain table ask scope rest) =
    rw c.in-Value.is (some_plain table ask scope _ rest ∙ ap (λ o. is_some o && is_some (plain table ask scope rest)) (at_Value table ask scope c.in-Value.field-0)) in
    sym is ∙ (opened (λ xs. is_some (plain table ask scope xs)) c.args.args.now i x c.loop-arg-test.true c.arg-item.is ∙ c.loop-arg.invariant table ask scope)

pub returns : goal.returns
returns c = λ table ask scope.
    let all : drop c.loop-arg.arg-index c.args.args.now ≡ [] = drop_all c.loop-arg.arg-index c.args.args.now (omega arith) in
    rw all at c.loop-arg.invariant table ask scope
