-- The room of the lines is what the first and the last line leave.
use Rattle.mo_symdiff.proofs.Reducing.{frame_too_long, within_limits}
use Rattle.mo_symdiff.proofs.reduce.lines_within.Goals as goal

pub returns-in-None : goal.returns-in-None
returns-in-None c = frame_too_long _ _ _ c.frame_bytes.ensures c.in-None.ensures

pub returns-in-Some : goal.returns-in-Some
returns-in-Some c =
    let found = rw (c.as_slice-vars.ensures, c.as_slice-equations.ensures) at c.model_lines.ensures in
    within_limits c.args.m.now _ _ _ _ c.frame_bytes.ensures c.in-Some.ensures found
