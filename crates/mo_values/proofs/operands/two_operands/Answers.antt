use Rattle.std.proofs.Common.{arith}
use Rattle.mo_values.proofs.TwoOperands.{both_of, no_two}
use Rattle.mo_values.proofs.operands.two_operands.Goals as goal

pub returns-in-empty : goal.returns-in-empty
returns-in-empty c = no_two c.args.operands.now (λ two. omega arith)

pub returns-in-len1 : goal.returns-in-len1
returns-in-len1 c = no_two c.args.operands.now (λ two. omega arith)

pub returns-in-len2 : goal.returns-in-len2
returns-in-len2 c = both_of c.args.operands.now c.a-item.result c.b-item.result (omega arith) c.a-item.is c.b-item.is

pub returns-in-len3-up : goal.returns-in-len3-up
returns-in-len3-up c = no_two c.args.operands.now (λ two. omega arith)
