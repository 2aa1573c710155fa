-- By its kind and its dimensions.
use Rattle.std.proofs.Common.{◌≡◌, Err, ap, rules, sym, ◌∙◌}
use Rattle.mo_syntax.specs.Outcome.{and_then}
use Rattle.mo_typing.specs.Subscripts.{Checked}
use Rattle.mo_eval.proofs.Layering.{asked_by_layers}
use Rattle.mo_equations.specs.steps.Layers.{fit_of, wanted_of}
use Rattle.mo_equations.proofs.layers.layered_so.Goals as goal

pub returns-in_err-wanted : goal.returns-in_err-wanted
returns-in_err-wanted c = λ e is.
    let l = c.args.layers.now in
    let known = c.args.known.now in
    let broken = c.in_err-wanted.field-0.0 in
    let p : c.from_residual.result ≡ Err broken = search rules in
    rw p (sym (asked_by_layers e known.kind known.dims (wanted_of l.want l.place) (fit_of l.fit l.place) is.kind is.dims is.subscripts
    ∙ ap (λ (o : Checked). and_then o (λ _. fit_of l.fit l.place known.dims)) (sym c.in_err-wanted.ensures)))

pub returns : goal.returns
returns c = λ e is.
    let l = c.args.layers.now in
    let known = c.args.known.now in
    c.fits.ensures
    ∙ (ap (fit_of l.fit l.place) c.as_slice.ensures
    ∙ sym (asked_by_layers e known.kind known.dims (wanted_of l.want l.place) (fit_of l.fit l.place) is.kind is.dims is.subscripts
    ∙ ap (λ (o : Checked). and_then o (λ _. fit_of l.fit l.place known.dims)) (sym c.in_ok-wanted.ensures)))
