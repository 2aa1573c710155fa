use Rattle.std.proofs.Common.{◌≡◌, false, true, sym, ap, ◌∙◌, rules}
use Rattle.std.specs.Prelude.{◌&&◌, is_some}
use Rattle.mo_syntax.specs.declared.expr.Args.{out-Args}
use Rattle.mo_eval.specs.Resolving.{is_empty}
use Rattle.mo_eval.proofs.Calling.{empty_by, not_plain, only_plain}
use Rattle.mo_eval.proofs.callee.are_plain.Goals as goal

pub returns-then-not-is_empty : goal.returns-then-not-is_empty
returns-then-not-is_empty c = λ table ask scope.
    let args = out-Args c.args.args.now in
    let named : is_empty args.named ≡ false = empty_by c.is_empty.result args.named c.is_empty.ensures ∙ search rules in
    sym (not_plain table ask scope c.args.args.now (ap (λ b. b && is_empty args.iters) named))

pub returns-then-not-is_empty-2 : goal.returns-then-not-is_empty-2
returns-then-not-is_empty-2 c = λ table ask scope.
    let args = out-Args c.args.args.now in
    let named : is_empty args.named ≡ true = empty_by c.is_empty.result args.named c.is_empty.ensures ∙ search rules in
    let iters : is_empty args.iters ≡ false = empty_by c.is_empty-2.result args.iters c.is_empty-2.ensures ∙ search rules in
    sym (not_plain table ask scope c.args.args.now (ap (λ b. b && is_empty args.iters) named ∙ iters))

pub returns : goal.returns
returns c = λ table ask scope.
    let args = out-Args c.args.args.now in
    let named : is_empty args.named ≡ true = empty_by c.is_empty.result args.named c.is_empty.ensures ∙ search rules in
    let iters : is_empty args.iters ≡ true = empty_by c.is_empty-2.result args.iters c.is_empty-2.ensures ∙ search rules in
    (rw c.as_slice.ensures at (c.are_values.ensures table ask scope))
    ∙ ap is_some (sym (only_plain table ask scope c.args.args.now (ap (λ b. b && is_empty args.iters) named ∙ iters)))
