-- The equations behind the others, then the size.
use Rattle.std.proofs.Common.{◌≤◌, All, length, subst, arith}
use Rattle.std.proofs.lemmas.List.Elements.{All-append}
use Rattle.mo_flat.specs.declared.model.FlatModel.{FlatModel}
use Rattle.mo_flat.specs.Sound.{IsSoundEquation}
use Rattle.mo_scope.specs.Outcome.{Gives}
use Rattle.mo_flatten.specs.Flat.{model_of, within_size}
use Rattle.mo_flatten.proofs.Sized.{model_is, sound_model}
use Rattle.mo_flatten.proofs.phases.joined.Goals as goal

pub returns-clause-told : goal.returns-clause-told
returns-clause-told c =
    let same = model_is c.args.parts c.args.found.now c.in_ok-equations.equations c.in_ok-model.model c.in_ok-model.ensures c.in_ok-equations.ensures.equations in
    subst (λ (m : FlatModel). Gives (λ x. x) c.within_size.result (within_size m)) same c.within_size.ensures

pub returns-clause-sound : goal.returns-clause-sound
returns-clause-sound c =
    let parts = c.args.parts in
    let same = model_is parts c.args.found.now c.in_ok-equations.equations c.in_ok-model.model c.in_ok-model.ensures c.in_ok-equations.ensures.equations in
    let told = subst (λ (m : FlatModel). Gives (λ x. x) c.within_size.result (within_size m)) same c.within_size.ensures in
    let sound = c.requires.sound in
    let behind = subst (All (IsSoundEquation parts.vars)) c.in_ok-equations.ensures.equations (c.in_ok-equations.ensures.sound parts.vars c.requires.numbers) in
    let room : length parts.vars ≤ 400000 = omega arith in
    sound_model c.within_size.result (model_of parts c.args.found.now) told room sound.variables sound.first sound.first_asserts
    (All-append (IsSoundEquation parts.vars) parts.equations _ sound.equations behind) sound.asserts
