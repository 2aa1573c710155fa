use Rattle.std.proofs.Common.{refl}
use Rattle.mo_verify.specs.Steps.{printed_of}
use Rattle.mo_verify.proofs.Showing.{square_put}
use Rattle.mo_verify.proofs.shown.square_report.Goals as goal

pub returns : goal.returns
returns c =
    square_put c.args._m.now c.args.inc.now c.requires.model c.args.report.now c.requires.blank (printed_of c.args.claims) c.args.claims.offsets c.args.claims.orders refl refl refl refl _ _ _ c.requires.square
    c.put_reasons.ensures c.in_ok-put_blocks.ensures c.in_ok-put_dummies.ensures
