-- One saying after another.
use Rattle.std.proofs.Common.{List, is_some, map, ap, sym, ◌∙◌}
use Rattle.std.proofs.lemmas.List.{drop_all}
use Rattle.mo_scope.specs.declared.saying.Saying.{Saying as SayingAt}
use Rattle.mo_scope.specs.Parts.{first_of, redeclarations_in}
use Rattle.mo_scope.specs.Sights.{saying_in}
use Rattle.mo_scope.proofs.Sayings.{front_is}
use Rattle.mo_scope.proofs.sources.is_redeclared.Goals as goal

pub returns-in-Redeclares : goal.returns-in-Redeclares
returns-in-Redeclares c = λ frames.
    sym (ap (λ (xs : List SayingAt). is_some (first_of (redeclarations_in (map (saying_in frames) xs))))
    (front_is c.args.sayings.now c.loop-saying.saying-index c.saying-item.result _ c.loop-saying-test.true c.saying-item.is c.in-Redeclares.is))
    ∙ c.loop-saying.invariant frames

pub loop-saying-preserved : goal.loop-saying-preserved
loop-saying-preserved c = λ frames.
    sym (ap (λ (xs : List SayingAt). is_some (first_of (redeclarations_in (map (saying_in frames) xs))))
    (front_is c.args.sayings.now c.loop-saying.saying-index c.saying-item.result _ c.loop-saying-test.true c.saying-item.is c.in-Modifies.is))
    ∙ c.loop-saying.invariant frames

pub returns : goal.returns
returns c = λ frames.
    sym (ap (λ (xs : List SayingAt). is_some (first_of (redeclarations_in (map (saying_in frames) xs)))) (drop_all c.loop-saying.saying-index c.args.sayings.now c.loop-saying-test.false))
    ∙ c.loop-saying.invariant frames
