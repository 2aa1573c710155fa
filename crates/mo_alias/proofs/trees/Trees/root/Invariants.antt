use Rattle.std.proofs.Common.{ℕ, ◌<◌, ◌-◌, Bool, length}
use Rattle.mo_alias.specs.steps.Forests.{Reaches, since_in}
use Rattle.mo_alias.specs.Recognized.{sign_product}
use Rattle.mo_alias.proofs.trees.Trees.root.Given as goal

abbrev pub invariant-loop-minus : goal.invariant-loop-minus
invariant-loop-minus l =
    (l.root < length l.self.parent.items)
    × ((r : ℕ) (s : Bool) → Reaches l.self 18446744073709551615 l.root r s → Reaches l.self 18446744073709551615 l.unknown r (sign_product l.minus s))

abbrev pub decreases-loop-minus : goal.decreases-loop-minus
decreases-loop-minus l = 18446744073709551615 - since_in l.self l.root
