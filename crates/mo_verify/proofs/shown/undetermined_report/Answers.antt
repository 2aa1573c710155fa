use Rattle.std.proofs.Common.{refl}
use Rattle.mo_verify.specs.Steps.{printed_of}
use Rattle.mo_verify.proofs.Showing.{undetermined_shown}
use Rattle.mo_verify.proofs.shown.undetermined_report.Goals as goal

pub returns : goal.returns
returns c =
    let lists = rw (← c.work.view_is) at c.undetermined.ensures.loose in
    undetermined_shown c.args._m.now c.args.inc.now c.requires.model c.args.report.now c.requires.blank (printed_of c.args.claims) c.args.claims.offsets c.args.claims.orders refl refl refl refl c.work.inside.loose c.requires.fewer lists
