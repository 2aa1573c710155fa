-- One source after another.
use Rattle.std.proofs.Common.{ℕ, ◌+◌, ◌++◌, List, drop, flat_map, map, ap, arith}
use Rattle.std.proofs.lemmas.List.{drop_all}
use Rattle.mo_scope.specs.declared.source.Source.{Source as SourceAt}
use Rattle.mo_scope.specs.Mentions.{if_of, mention_by, mentioned_by, mentions_from, mentions_held, mentions_of}
use Rattle.mo_scope.specs.Sights.{source_seen}
use Rattle.mo_scope.proofs.Mentioned.{source_mentioned}
use Rattle.mo_scope.proofs.Sayings.{taken_more, taken_all}
use Rattle.mo_scope.proofs.mentions.mentions_among.Goals as goal

pub loop-number-init : goal.loop-number-init
loop-number-init c = λ name. ap (λ xs. xs ++ mentions_of name (map source_seen c.args.sources.now)) (c.new-made.ensures name)

pub loop-number-preserved : goal.loop-number-preserved
loop-number-preserved c = λ name.
    let left = λ (n : ℕ) (xs : List SourceAt). flat_map (if_of name) (mentions_from n (map source_seen xs)) in
    taken_more (mentions_held c.loop-number.made name) (mentions_held c.add_source.new.self name)
    (flat_map (if_of name) (map (mention_by c.loop-number.number) (mentioned_by (source_seen c.index-sources-number.result).piece.given)))
    (left c.loop-number.number (drop c.loop-number.number c.args.sources.now)) (left (c.loop-number.number + 1) (drop (c.loop-number.number + 1) c.args.sources.now))
    (mentions_of name (map source_seen c.args.sources.now))
    (c.in_ok-add_source.ensures name)
    (source_mentioned name c.args.sources.now c.loop-number.number c.index-sources-number.result (omega arith) c.index-sources-number.is)
    (c.loop-number.invariant name)

pub returns : goal.returns
returns c = λ name.
    let left = λ (xs : List SourceAt). flat_map (if_of name) (mentions_from c.loop-number.number (map source_seen xs)) in
    taken_all (mentions_held c.loop-number.made name) (left (drop c.loop-number.number c.args.sources.now)) (mentions_of name (map source_seen c.args.sources.now))
    (ap left (drop_all c.loop-number.number c.args.sources.now (omega arith)))
    (c.loop-number.invariant name)
