use Rattle.mo_verify.proofs.Claiming.{two_off}
use Rattle.mo_verify.proofs.claims.behind_head.Goals as goal

pub returns : goal.returns
returns c =
    two_off c.args.report.now c.first_line.result.0.now c.first_line.result.1.now c.first_line-2.result.0.now c.first_line-2.result.1.now c.requires
    (record { whole = c.first_line.ensures.whole; lines = c.first_line.ensures.lines; some = c.first_line.ensures.some })
    (record { whole = c.first_line-2.ensures.whole; lines = c.first_line-2.ensures.lines; some = c.first_line-2.ensures.some })
