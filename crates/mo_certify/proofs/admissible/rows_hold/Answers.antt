use Rattle.std.proofs.Common.{◌<◌, arith}
use Rattle.mo_incidence.specs.Signature.{equations}
use Rattle.mo_certify.proofs.Rows.{rows_next, row_slack}
use Rattle.mo_certify.proofs.admissible.rows_hold.Goals as goal

pub returns-then-not-row_is_tight-clause-no : goal.returns-then-not-row_is_tight-clause-no
returns-then-not-row_is_tight-clause-no c =
    let inside : c.loop-i.i < equations c.args.inc.now = omega (arith, c.equations-equations.ensures.count) in
    λ _. row_slack _ _ _ _ _ inside (c.row_is_tight.ensures.no c.if-not-row_is_tight.true)

pub loop-i-preserved : goal.loop-i-preserved
loop-i-preserved c = rows_next _ _ _ _ _ c.loop-i.invariant (c.row_fits.ensures.yes c.if-not-row_fits.false) (c.row_is_tight.ensures.yes c.if-not-row_is_tight.false)
