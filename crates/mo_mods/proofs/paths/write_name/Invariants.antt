-- What was written so far.
use Rattle.std.proofs.Common.{◌≡◌, ◌+◌, ◌++◌, map, take}
use Rattle.mo_mods.proofs.paths.write_name.Given as goal

abbrev pub invariant-loop-b : goal.invariant-loop-b
invariant-loop-b l = l.key ≡ l.initial.key ++ map (λ b. b + 1) (take l.b-index l.b-items)
