-- What was added is what the arguments so far mention.
use Rattle.std.proofs.Common.{◌≡◌, ℕ, ◌++◌, List, flat_map, take}
use Rattle.mo_scope.specs.Mentions.{By_argument, if_of, mention_by, mentions_held}
use Rattle.mo_scope.proofs.mentions.Mentions.add_list.Given as goal

abbrev pub invariant-loop-argument : goal.invariant-loop-argument
invariant-loop-argument l = (other : List ℕ) →
    mentions_held l.self other ≡ mentions_held l.initial.self other ++ flat_map (λ argument. if_of other (mention_by l.source (By_argument argument))) (take l.argument-index l.list)
