use Rattle.mo_eval.proofs.Layering.{fits_by_layers}
use Rattle.mo_eval.proofs.layers.fits.Goals as goal

-- by its layers a binding fits as it does by what is asked of it
pub returns-in-Some : goal.returns-in-Some
returns-in-Some c =
    rw (fits_by_layers c.args.bound.now.resolved.expression c.in-Some.layers c.args.want c.args.place c.args.index.now (rw c.in-Some.is at c.requires))
    (rw c.fits_layers.ensures at c.answer.ensures)
