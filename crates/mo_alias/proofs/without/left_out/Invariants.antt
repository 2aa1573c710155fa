use Rattle.std.proofs.Common.{◌≡◌, ◌≤◌, ◌+◌, ℕ, length, take}
use Rattle.std.specs.Prelude.{nat_eq}
use Rattle.std.specs.List.{list_any}
use Rattle.mo_alias.specs.steps.Placing.{flag_at}
use Rattle.mo_alias.proofs.without.left_out.Given as goal

abbrev pub invariant-loop-number : goal.invariant-loop-number
invariant-loop-number l =
    (length l.out.items ≡ l.count + 1)
    × ((i : ℕ) → i ≤ l.count → flag_at l.out.items i ≡ list_any (nat_eq i) (take l.number-index l.dropped))
