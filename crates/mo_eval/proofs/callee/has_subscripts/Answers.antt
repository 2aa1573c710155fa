use Rattle.std.proofs.Common.{◌≡◌, ◌+◌, map, drop, false, sym, ◌∙◌, rules}
use Rattle.mo_scope.specs.Sizes.{is_nothing}
use Rattle.mo_typing.proofs.Gathering.{opened}
use Rattle.mo_eval.specs.Calls.{has_subscripts}
use Rattle.mo_eval.specs.steps.Parts.{as_identifier}
use Rattle.mo_eval.proofs.Calling.{has_some, nothing_by}
use Rattle.mo_eval.proofs.callee.has_subscripts.Goals as goal

pub returns-then-not-is_empty : goal.returns-then-not-is_empty
returns-then-not-is_empty c = λ part.
    let x = c.part-item.result in
    let i = c.loop-part.part-index in
    let some : is_nothing x.subs ≡ false = nothing_by c.is_empty.result x.subs c.is_empty.ensures (search rules) in
    sym (has_some part x (drop (i + 1) c.args.parts.now) some)
    ∙ (opened (λ xs. has_subscripts (map (as_identifier part) xs)) c.args.parts.now i x c.loop-part-test.true c.part-item.is ∙ c.loop-part.invariant part)
