-- What was added is what the items so far mention.
use Rattle.std.proofs.Common.{◌≡◌, ℕ, ◌++◌, List, flat_map, take}
use Rattle.mo_scope.specs.Mentions.{By_element, if_of, mention_by, mentions_held}
use Rattle.mo_scope.specs.Rows.{replacing_in}
use Rattle.mo_scope.proofs.mentions.Mentions.add_items.Given as goal

abbrev pub invariant-loop-item : goal.invariant-loop-item
invariant-loop-item l = (other : List ℕ) →
    mentions_held l.self other
    ≡ mentions_held l.initial.self other ++ flat_map (λ item. flat_map (λ element. if_of other (mention_by l.source (By_element element))) (replacing_in item)) (take l.item-index l.items)
