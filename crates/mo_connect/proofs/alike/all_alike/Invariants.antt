use Rattle.std.proofs.Common.{ℕ, ◌<◌, List, get_or, length}
use Rattle.mo_flat.specs.declared.connect.EndLeaf.{EndLeaf}
use Rattle.mo_connect.specs.Alike.{AreAlike}
use Rattle.mo_connect.proofs.alike.all_alike.Given as goal

abbrev pub invariant-loop-k : goal.invariant-loop-k
invariant-loop-k l = (j : ℕ) (d e : List EndLeaf) → j < l.k → j < length l.rights → AreAlike (get_or l.lefts j d) (get_or l.rights j e)
