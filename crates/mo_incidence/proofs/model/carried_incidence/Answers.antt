use Rattle.std.proofs.Common.{◌≡◌, ℕ, List, Err, length, ap, ◌∙◌, sym, subst}
use Rattle.mo_syntax.specs.declared.place.Stop.{Stop}
use Rattle.mo_flat.specs.declared.model.FlatVar.{FlatVar}
use Rattle.mo_flat.specs.Roles.{unknown_numbers}
use Rattle.mo_incidence.specs.declared.builder.RowsError.{RowsError}
use Rattle.mo_incidence.specs.steps.Given.{given}
use Rattle.mo_incidence.specs.Model.{incidence_of}
use Rattle.mo_incidence.specs.Signature.{IsSound}
use Rattle.mo_incidence.proofs.Refusals.{accepted, refused_size}
use Rattle.mo_incidence.proofs.model.carried_incidence.Goals as goal

pub returns-in-Ok-clause-accepted : goal.returns-in-Ok-clause-accepted
returns-in-Ok-clause-accepted c = λ whole.
    let count : c.in_ok-places.unknowns ≡ length (unknown_numbers c.args.m.now.vars) = c.in_ok-places.ensures.count ∙ ap (λ (l : List FlatVar). length (unknown_numbers l)) c.as_slice.ensures in
    let same : given c.in_ok-places.unknowns c.deref-2.result.now ≡ incidence_of c.args.m.now =
    ap (λ (n : ℕ). given n c.deref-2.result.now) count ∙ ap (given (length (unknown_numbers c.args.m.now.vars))) c.deref-2.ensures.value ∙ c.in_ok-rows.ensures whole in
    accepted c.args.m.now c.requires.carried (subst (λ g. IsSound g) same c.in-Ok.ensures.sound)

pub returns-in-Err-Unsound-clause-broken : goal.returns-in-Err-Unsound-clause-broken
returns-in-Err-Unsound-clause-broken c = λ refusal is whole.
    let count : c.in_ok-places.unknowns ≡ length (unknown_numbers c.args.m.now.vars) = c.in_ok-places.ensures.count ∙ ap (λ (l : List FlatVar). length (unknown_numbers l)) c.as_slice.ensures in
    let same : given c.in_ok-places.unknowns c.deref-2.result.now ≡ incidence_of c.args.m.now =
    ap (λ (n : ℕ). given n c.deref-2.result.now) count ∙ ap (given (length (unknown_numbers c.args.m.now.vars))) c.deref-2.ensures.value ∙ c.in_ok-rows.ensures whole in
    let failed : c.from_rows.result ≡ Err RowsError.Unsound = c.in-Err-Unsound.is ∙ ap (λ (e : RowsError). Err e) c.in-Err-Unsound.field-0-is in
    let unsound : IsSound (incidence_of c.args.m.now) → ⊥ = λ sound. c.from_rows.ensures.unsound failed (subst (λ g. IsSound g) (sym same) sound) in
    let stop : c.stop.result ≡ Stop.Broken refusal = cc in
    refused_size c.args.m.now refusal c.stop.result whole c.requires.carried unsound c.stop.ensures stop
