-- The number stands under the texts of the prefixes so far.
use Rattle.std.proofs.Common.{◌≡◌, ℕ, List, take, if◌then◌else◌}
use Rattle.std.specs.HashMap.{get_by_text}
use Rattle.std.specs.List.{list_any}
use Rattle.mo_equations.specs.steps.LeafTables.{has_text, numbers_or_none, prefixes, with_number}
use Rattle.mo_equations.proofs.leaves.put_around.Given as goal

abbrev pub invariant-loop-k : goal.invariant-loop-k
invariant-loop-k l = (other : List ℕ) → numbers_or_none (get_by_text l.below other)
    ≡ (if list_any (has_text other) (take l.k (prefixes l.path)) then with_number (numbers_or_none (get_by_text l.initial.below other)) l.number else numbers_or_none (get_by_text l.initial.below other))
