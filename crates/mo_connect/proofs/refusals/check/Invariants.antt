use Rattle.std.proofs.Common.{ℕ, ◌<◌, get_or}
use Rattle.mo_flat.specs.declared.connect.Connect.{Connect}
use Rattle.mo_connect.specs.Alike.{IsConnectable}
use Rattle.mo_connect.proofs.refusals.check.Given as goal

abbrev pub invariant-loop-connect : goal.invariant-loop-connect
invariant-loop-connect l = (j : ℕ) (d : Connect) → j < l.connect-index → IsConnectable (get_or l.connects j d)
