-- The element with its variables replaced.
use Rattle.std.proofs.Common.{◌≡◌, Err, ap, sym, ◌∙◌, rules}
use Rattle.mo_scope.specs.Worlds.{frames_of}
use Rattle.mo_eval.specs.Seen.{virtuals_seen}
use Rattle.mo_eval.specs.Values.{most_references}
use Rattle.mo_equations.specs.declared.flat.Flat.{Flat}
use Rattle.mo_equations.specs.Replacing.{of_variable, with_variables}
use Rattle.mo_equations.specs.steps.Standing.{replacing_in}
use Rattle.mo_equations.specs.steps.Flats.{IsFlat}
use Rattle.mo_equations.proofs.Replacings.{answers_as, refused_answers}
use Rattle.mo_equations.proofs.resolutions.flat_of_array.Goals as goal

pub returns-in_err-ask-clause-exact : goal.returns-in_err-ask-clause-exact
returns-in_err-ask-clause-exact c =
    let stop = c.in_err-ask.field-0.0 in
    let p : c.from_residual-in_err-ask.result ≡ Err stop = search rules in
    let V = of_variable (replacing_in c.args.s.now c.args.desk.now.leaves most_references) (virtuals_seen (frames_of c.args.s.now) c.args.virtuals.now) in
    rw p (answers_as {T = Flat} IsFlat (Err stop) (with_variables V c.in_ok-element.element) _ (ap (with_variables V) c.in_ok-element.ensures)
    (refused_answers (Unit {0}) IsFlat (with_variables V c.in_ok-element.element) stop c.in_err-ask.ensures.refused))

pub returns-clause-exact : goal.returns-clause-exact
returns-clause-exact c =
    let V = of_variable (replacing_in c.args.s.now c.args.desk.now.leaves most_references) (virtuals_seen (frames_of c.args.s.now) c.args.virtuals.now) in
    let got = c.in_ok-put_together.ensures V (rw c.as_slice.ensures.value c.in_ok-ask.ensures.replaced) (rw c.as_slice.ensures.value c.in_ok-ask.ensures.asked) in
    (got.0, ap (with_variables V) (sym c.in_ok-element.ensures) ∙ got.1, got.2)
