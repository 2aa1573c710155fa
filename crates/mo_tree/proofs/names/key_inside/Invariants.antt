-- What was written so far.
use Rattle.std.proofs.Common.{◌≡◌, ◌/◌, ◌%◌, ◌∷◌, take}
use Rattle.mo_tree.proofs.names.key_inside.Given as goal

abbrev pub invariant-loop-b : goal.invariant-loop-b
invariant-loop-b l = l.key ≡ l.number / 65536 ∷ l.number % 65536 ∷ take l.b-index l.b-items
