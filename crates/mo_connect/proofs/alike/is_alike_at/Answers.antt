use Rattle.std.proofs.Common.{arith}
use Rattle.mo_connect.proofs.AlikeLemmas.{alike_at}
use Rattle.mo_connect.proofs.alike.is_alike_at.Goals as goal

pub returns : goal.returns
returns c = alike_at _ _ _ _ _ c.index-rights-k.is (omega arith) (rw c.as_slice.ensures at c.are_alike.ensures)
