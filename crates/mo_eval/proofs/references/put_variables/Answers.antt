use Rattle.std.proofs.Common.{◌≡◌, ◌++◌, ◌∷◌, ◌+◌, [], length, ap, ◌∙◌, rules, arith}
use Rattle.std.proofs.lemmas.List.{length-take-le, take_all}
use Rattle.mo_eval.specs.Virtuals.{numbers_behind}
use Rattle.mo_eval.proofs.Putting.{number_put, numbers_all, numbers_more, put_all, put_more, there_taken, variable_at, variables_at}
use Rattle.mo_eval.proofs.references.put_variables.Goals as goal

pub returns-in_err-index-clause-there : goal.returns-in_err-index-clause-there
returns-in_err-index-clause-there c = λ world are every.
    there_taken world c.args.virtuals.now c.loop-element.virtuals c.args.common c.args.elements.now c.loop-element.element-index c.loop-element.invariant.0 are every

pub returns-in_err-n-clause-there : goal.returns-in_err-n-clause-there
returns-in_err-n-clause-there c = λ world are every.
    there_taken world c.args.virtuals.now c.loop-element.virtuals c.args.common c.args.elements.now c.loop-element.element-index c.loop-element.invariant.0 are every

pub returns-in_err-push-clause-there : goal.returns-in_err-push-clause-there
returns-in_err-push-clause-there c = λ world are every.
    let same : c.push.new.self ≡ c.loop-element.virtuals = search rules in
    rw same (there_taken world c.args.virtuals.now c.loop-element.virtuals c.args.common c.args.elements.now c.loop-element.element-index c.loop-element.invariant.0 are every)

pub returns-in_err-push-2-clause-there : goal.returns-in_err-push-2-clause-there
returns-in_err-push-2-clause-there c = λ world are every.
    let one = c.element-item.result in
    let pushed : c.push.new.self ≡ c.loop-element.virtuals ++ variable_at c.args.common one ∷ [] = search rules in
    there_taken world c.args.virtuals.now c.push.new.self c.args.common c.args.elements.now (c.loop-element.element-index + 1)
    (pushed ∙ put_more c.args.common c.args.elements.now c.loop-element.element-index one c.args.virtuals.now c.loop-element.virtuals c.loop-element-test.true c.element-item.is c.loop-element.invariant.0) are every

pub loop-element-preserved : goal.loop-element-preserved
loop-element-preserved c =
    let one = c.element-item.result in
    let i = c.loop-element.element-index in
    let elements = c.args.elements.now in
    let small = c.loop-element-test.true in
    let pushed : c.push.new.self ≡ c.loop-element.virtuals ++ variable_at c.args.common one ∷ [] = search rules in
    let numbered : c.push-in-loop-element.new.self ≡ c.loop-element.numbers ++ c.in_ok-n.n ∷ [] = search rules in
    let counted : c.len.result ≡ length c.loop-element.virtuals = c.len.ensures in
    let next = number_put c.args.common elements i c.args.virtuals.now c.loop-element.virtuals c.len.result c.in_ok-n.n small c.loop-element.invariant.0 counted c.in_ok-n.ensures in (
      pushed ∙ put_more c.args.common elements i one c.args.virtuals.now c.loop-element.virtuals small c.element-item.is c.loop-element.invariant.0,
      numbered ∙ numbers_more elements i (length c.args.virtuals.now) c.in_ok-n.n one c.loop-element.numbers small c.element-item.is next (length-take-le i elements (omega arith)) c.loop-element.invariant.1,
    )

pub returns-clause-there : goal.returns-clause-there
returns-clause-there c = λ world are every.
    there_taken world c.args.virtuals.now c.loop-element.virtuals c.args.common c.args.elements.now c.loop-element.element-index c.loop-element.invariant.0 are every

pub returns-clause-exact : goal.returns-clause-exact
returns-clause-exact c = λ frames.
    let whole = take_all c.loop-element.element-index c.args.elements.now (omega arith) in (
      numbers_all frames c.args.common c.args.elements.now (length c.args.virtuals.now) c.loop-element.numbers (c.loop-element.invariant.1 ∙ ap (numbers_behind (length c.args.virtuals.now)) whole),
      put_all frames c.args.common c.args.elements.now c.args.virtuals.now c.loop-element.virtuals (c.loop-element.invariant.0 ∙ ap (λ xs. c.args.virtuals.now ++ variables_at c.args.common xs) whole),
    )
