use Rattle.mo_fits.proofs.laws.Fitting.{fits_only, fits_wherever}
use Rattle.mo_fits.proofs.stated.fits_have_components.Goals as goal

pub returns-clause-only : goal.returns-clause-only
returns-clause-only c = fits_only

pub returns-clause-wherever : goal.returns-clause-wherever
returns-clause-wherever c = fits_wherever
