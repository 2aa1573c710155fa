use Rattle.std.proofs.Common.{◌≡◌, ◌+◌, ◌-◌, arith}
use Rattle.mo_incidence.specs.Signature.{row_len}
use Rattle.mo_pantelides.proofs.Choosing.{chosen_row}
use Rattle.mo_pantelides.proofs.choose.choose_row.Goals as goal

pub returns : goal.returns
returns c =
    let back : c.args.k + 1 - 1 ≡ c.args.k = omega arith in
    let all : c.row_len-n-end.result ≡ row_len c.args.inc.now c.args.k = rw back at c.row_len-n-end.ensures in
    chosen_row _ _ _ _ _ _ _ c.loop-n.n (omega arith) c.loop-n.invariant
