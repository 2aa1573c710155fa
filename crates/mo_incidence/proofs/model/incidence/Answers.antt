use Rattle.std.proofs.Common.{◌≡◌, List, Some, ap, ◌∙◌, sym}
use Rattle.mo_syntax.specs.declared.place.Stop.{Stop}
use Rattle.mo_flat.specs.declared.model.FlatVar.{FlatVar}
use Rattle.mo_incidence.specs.Model.{first_uncarried}
use Rattle.mo_incidence.proofs.Refusals.{refused_first}
use Rattle.mo_incidence.proofs.model.incidence.Goals as goal

pub returns-in-Some-clause-broken : goal.returns-in-Some-clause-broken
returns-in-Some-clause-broken c =
    let first : first_uncarried c.args.m.now.vars c.args.m.now.equations ≡ Some c.in-Some.place =
    sym (c.first_uncarried.ensures ∙ ap (λ (l : List FlatVar). first_uncarried l c.as_slice-2.result.now) c.as_slice.ensures ∙ ap (first_uncarried c.args.m.now.vars) c.as_slice-2.ensures) ∙ c.in-Some.is in
    λ refusal is whole. (let stop : c.stop.result ≡ Stop.Broken refusal = cc in
    refused_first c.args.m.now c.in-Some.place refusal c.stop.result first c.stop.ensures stop)
