-- What is held with what the sources that are left mention is what all mention.
use Rattle.std.proofs.Common.{◌≡◌, ℕ, ◌++◌, List, drop, flat_map, map}
use Rattle.mo_scope.specs.Mentions.{if_of, mentions_from, mentions_held, mentions_of}
use Rattle.mo_scope.specs.Sights.{source_seen}
use Rattle.mo_scope.proofs.mentions.mentions_among.Given as goal

abbrev pub invariant-loop-number : goal.invariant-loop-number
invariant-loop-number l = (name : List ℕ) →
    mentions_held l.made name ++ flat_map (if_of name) (mentions_from l.number (map source_seen (drop l.number l.sources))) ≡ mentions_of name (map source_seen l.sources)
