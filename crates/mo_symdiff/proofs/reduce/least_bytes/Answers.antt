use Rattle.std.proofs.Common.{arith}
use Rattle.mo_symdiff.proofs.Bounding.{line_names}
use Rattle.mo_symdiff.proofs.reduce.least_bytes.Goals as goal

pub returns : goal.returns
returns c = let e = line_names c.args.vars.now c.args.q.now in let d = c.line_weight.ensures in omega (arith, e, d)
