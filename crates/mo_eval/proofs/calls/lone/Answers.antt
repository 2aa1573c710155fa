use Rattle.std.proofs.Common.{◌≡◌, [], ◌∷◌, ap, ◌∙◌}
use Rattle.mo_eval.specs.steps.Parts.{as_part}
use Rattle.mo_eval.specs.steps.Calling.{is_lone}
use Rattle.mo_eval.proofs.calls.lone.Goals as goal

pub returns-in-None : goal.returns-in-None
returns-in-None c = λ table ask scope parts all.
    let none : parts ≡ [] = c.in-None.ensures table ask scope parts all in
    ap is_lone none

pub returns-in-None-split : goal.returns-in-None-split
returns-in-None-split c = λ table ask scope parts all.
    let first = c.in-Some.ensures table ask scope parts all in
    let none : first.others ≡ [] = c.in-None-split.ensures table ask scope first.others first.rest in
    first.is ∙ ap (λ others. as_part table ask scope c.in-Some.e.now ∷ others) none

pub returns-in-Some-split : goal.returns-in-Some-split
returns-in-Some-split c = λ table ask scope parts all.
    let first = c.in-Some.ensures table ask scope parts all in
    let second = c.in-Some-split.ensures table ask scope first.others first.rest in
    ap is_lone (first.is ∙ ap (λ others. as_part table ask scope c.in-Some.e.now ∷ others) second.is)
