use Rattle.std.proofs.Common.{ℕ, ◌<◌, get_or}
use Rattle.std.specs.Prelude.{Any}
use Rattle.mo_flat.specs.declared.connect.EndLeaf.{EndLeaf}
use Rattle.mo_connect.specs.Alike.{Corresponds}
use Rattle.mo_connect.proofs.alike.have_partners.Given as goal

abbrev pub invariant-loop-i : goal.invariant-loop-i
invariant-loop-i l = (j : ℕ) (d : EndLeaf) → j < l.i → Any (Corresponds (get_or l.leaves j d)) l.others
