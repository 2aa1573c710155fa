use Rattle.std.proofs.Common.{◌≡◌, subst}
use Rattle.mo_incidence.specs.Model.{incidence_of}
use Rattle.mo_incidence.specs.Signature.{Signature}
use Rattle.mo_front.specs.steps.Structure.{IsFoundOf}
use Rattle.mo_front.proofs.structure.analysis_of.Goals as goal

pub returns-in_ok-found-in-Ok-clause-found : goal.returns-in_ok-found-in-Ok-clause-found
returns-in_ok-found-in-Ok-clause-found c =
    let is : c.in-Ok.incidence ≡ incidence_of c.args.m.now = c.in-Ok.ensures.ok c.requires.sound in
    subst (λ (g : Signature). IsFoundOf g c.in_ok-found-in-Ok.found) is c.in_ok-found-in-Ok.ensures
