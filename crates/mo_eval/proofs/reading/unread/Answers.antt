use Rattle.std.proofs.Common.{◌≡◌, arith}
use Rattle.mo_eval.proofs.Prefixes.{none_read}
use Rattle.mo_eval.proofs.reading.unread.Goals as goal

pub returns : goal.returns
returns c = λ known counted.
    let test = c.loop-k-test.false in
    let end = c.loop-k.auto._k-end in
    let ended : c.loop-k._k ≡ c.args.count = omega arith in
    rw (c.loop-k.invariant, ended) (none_read known c.args.count counted)
