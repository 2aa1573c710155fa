-- What the source of the mention says.
use Rattle.std.proofs.Common.{◌++◌, map, ap, sym, ◌∙◌}
use Rattle.std.proofs.lemmas.Result.{on_ok_weaker}
use Rattle.mo_scope.specs.Mentions.{mention_seen}
use Rattle.mo_scope.specs.Sights.{saying_in, source_seen}
use Rattle.mo_scope.specs.Worlds.{frames_of, table_in}
use Rattle.mo_scope.proofs.Mentioned.{said_there, said_nowhere}
use Rattle.mo_scope.proofs.Sayings.{nothing_more}
use Rattle.mo_scope.proofs.scopes.Scopes.said_at.Goals as goal

pub returns-in-Some : goal.returns-in-Some
returns-in-Some c =
    let F = frames_of c.args.self.now in
    on_ok_weaker c.said_by.result
    (λ is. is ∙ ap (λ zs. map (saying_in F) c.args.made.now ++ zs)
    (sym (said_there (table_in c.args.self.now) c.args.asked.now.name.now c.args.asked.now.index.now F c.args.sources.now (mention_seen c.args.mention.now) (source_seen c.in-Some.source.now) c.in-Some.ensures)))
    c.said_by.ensures

pub returns-in-None : goal.returns-in-None
returns-in-None c =
    let F = frames_of c.args.self.now in
    nothing_more (map (saying_in F) c.args.made.now) _
    (said_nowhere (table_in c.args.self.now) c.args.asked.now.name.now c.args.asked.now.index.now F c.args.sources.now (mention_seen c.args.mention.now) c.in-None.ensures)
