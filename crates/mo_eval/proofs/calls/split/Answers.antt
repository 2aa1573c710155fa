use Rattle.std.proofs.Common.{◌≡◌, ◌-◌, ◌∷◌, Some, None, drop, length, take, sym, subst, ◌∙◌, ap, arith}
use Rattle.mo_syntax.specs.declared.expr.Arg.{Arg}
use Rattle.std.specs.Prelude.{List}
use Rattle.mo_eval.specs.steps.Calling.{plain}
use Rattle.mo_eval.proofs.Calling.{first_plain, plain_partial, opened_list}
use Rattle.mo_eval.proofs.calls.split.Goals as goal

pub returns-in-Value : goal.returns-in-Value
returns-in-Value c = λ table ask scope parts all.
    let long = c.in-len1-up.len_at_least in
    let whole = opened_list c.args.args.now c.first-item.result (omega arith) c.first-item.is in
    first_plain table ask scope c.in-Value.e _ parts
    (subst (λ (xs : List Arg). plain table ask scope xs ≡ Some parts) (whole ∙ ap (λ (x : Arg). x ∷ take (length c.args.args.now - 1) (drop 1 c.args.args.now)) c.in-Value.is) all)

pub returns-in-Partial : goal.returns-in-Partial
returns-in-Partial c = λ table ask scope parts all.
    let long = c.in-len1-up.len_at_least in
    let rest = take (length c.args.args.now - 1) (drop 1 c.args.args.now) in
    let whole = opened_list c.args.args.now c.first-item.result (omega arith) c.first-item.is in
    let some = subst (λ (xs : List Arg). plain table ask scope xs ≡ Some parts) (whole ∙ ap (λ (x : Arg). x ∷ rest) c.in-Partial.is) all in
    let none = plain_partial table ask scope c.in-Partial.field-0 c.in-Partial.field-1 rest in
    absurd (let clash : ◌≡◌ (None) (Some parts) = sym none ∙ some in cc)
