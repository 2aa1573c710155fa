use Rattle.std.proofs.Common.{ℕ, ◌<◌, get_or}
use Rattle.mo_flat.specs.declared.connect.EndLeaf.{EndLeaf}
use Rattle.mo_connect.specs.Alike.{Corresponds}
use Rattle.mo_connect.proofs.alike.partner.Given as goal

abbrev pub invariant-loop-k : goal.invariant-loop-k
invariant-loop-k l = (j : ℕ) (d : EndLeaf) → j < l.k → Corresponds l.leaf (get_or l.others j d) → ⊥
