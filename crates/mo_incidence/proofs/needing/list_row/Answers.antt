use Rattle.std.proofs.Common.{arith}
use Rattle.mo_incidence.proofs.Owning.{needs_push, row_back}
use Rattle.mo_incidence.proofs.needing.list_row.Goals as goal

pub loop-k-preserved : goal.loop-k-preserved
loop-k-preserved c =
    let all = row_back c.args.inc.now c.args.i _ c.row_len-k-end.ensures in
    let found = c.in-Some.ensures in
    rw (c.in_ok-push.ensures.sources, c.in_ok-push.ensures.targets) (needs_push _ _ _ _ _ _ _ _ c.requires.row (omega arith) c.loop-k.invariant _ found.some found.only)
