use Rattle.std.proofs.Common.{◌≡◌, ℕ, ◌<◌, List, get_or}
use Rattle.mo_connect.proofs.alike.are_same_steps.Given as goal

abbrev pub invariant-loop-k : goal.invariant-loop-k
invariant-loop-k l = (j : ℕ) (d : List ℕ × List ℕ) → j < l.k → get_or l.left j d ≡ get_or l.right j d
