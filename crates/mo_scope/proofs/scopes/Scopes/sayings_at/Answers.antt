-- One mention after another.
use Rattle.std.proofs.Common.{[], map, sym, ◌∙◌}
use Rattle.std.proofs.lemmas.List.Folds.{flat_map-map}
use Rattle.mo_scope.specs.declared.mentions.Mention.{Mention as MentionAt}
use Rattle.mo_scope.specs.Mentions.{mention_seen, said_at}
use Rattle.mo_scope.specs.Sights.{saying_in}
use Rattle.mo_scope.specs.Worlds.{frames_of, sources_in, table_in}
use Rattle.mo_scope.proofs.Sayings.{gathered_more, gathered_all}
use Rattle.mo_scope.proofs.scopes.Scopes.sayings_at.Goals as goal

pub loop-mention-preserved : goal.loop-mention-preserved
loop-mention-preserved c =
    let F = frames_of c.args.self.now in
    gathered_more (λ (mention : MentionAt). said_at (table_in c.args.self.now) c.args.asked.now.name.now c.args.asked.now.index.now (sources_in F c.args.sources.now) (mention_seen mention))
    [] (map (saying_in F) c.loop-mention.made) (map (saying_in F) c.said_at.new.made)
    c.args.mentions.now c.loop-mention.mention-index c.mention-item.result c.loop-mention-test.true c.mention-item.is c.loop-mention.invariant c.in_ok-said_at.ensures

pub returns : goal.returns
returns c =
    let F = frames_of c.args.self.now in
    let says = said_at (table_in c.args.self.now) c.args.asked.now.name.now c.args.asked.now.index.now (sources_in F c.args.sources.now) in
    gathered_all (λ (mention : MentionAt). says (mention_seen mention)) [] (map (saying_in F) c.loop-mention.made)
    c.args.mentions.now c.loop-mention.mention-index c.loop-mention-test.false c.loop-mention.invariant
    ∙ sym (flat_map-map says mention_seen c.args.mentions.now)
