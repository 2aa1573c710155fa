use Rattle.std.proofs.Common.{◌≡◌, ◌<◌, ℕ, [], get_or}
use Rattle.mo_incidence.specs.Blocks.{numbers_in}
use Rattle.mo_certify.proofs.block_lists.same_lists.Given as goal

abbrev pub invariant-loop-b : goal.invariant-loop-b
invariant-loop-b l = (i : ℕ) → i < l.b → get_or (numbers_in l.left) i [] ≡ get_or (numbers_in l.right) i []
