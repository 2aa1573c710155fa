use Rattle.std.proofs.Common.{ℕ}
use Rattle.mo_flat.specs.declared.connect.Connect.{Connect}
use Rattle.mo_connect.specs.Alike.{IsConnectable}
use Rattle.mo_connect.proofs.AlikeLemmas.{one_more}
use Rattle.mo_connect.proofs.refusals.check.Goals as goal

pub loop-connect-preserved : goal.loop-connect-preserved
loop-connect-preserved c =
    let P : ℕ → Connect → Type 0 = λ j x. IsConnectable x in
    one_more P _ _ _ c.connect-item.is c.loop-connect-test.true c.loop-connect.invariant c.in-None.ensures
