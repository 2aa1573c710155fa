-- What is said at the mentions of a name is all that is said of it.
use Rattle.std.proofs.Common.{flat_map, map, ap, ◌∙◌}
use Rattle.std.proofs.lemmas.Result.{IfOk-weaker}
use Rattle.mo_scope.specs.Mentions.{mention_seen, said_at}
use Rattle.mo_scope.specs.Sights.{saying_in}
use Rattle.mo_scope.specs.Worlds.{frames_of, sources_in, table_in}
use Rattle.mo_scope.proofs.Mentioned.{mentions_say}
use Rattle.mo_scope.proofs.scopes.Scopes.sayings.Goals as goal

pub returns-in-Some : goal.returns-in-Some
returns-in-Some c =
    let F = frames_of c.args.self.now in
    let T = table_in c.args.self.now in
    let says = said_at T c.args.asked.now.name.now c.args.asked.now.index.now (sources_in F c.args.sources.now) in
    IfOk-weaker c.sayings_at.result _ _
    (λ made is. is ∙ ap (λ ms. flat_map says (map mention_seen ms)) c.as_slice.ensures
    ∙ ap (flat_map says) c.in-Some.ensures
    ∙ mentions_say T c.args.asked.now.name.now c.args.asked.now.index.now F c.args.sources.now)
    c.sayings_at.ensures

pub returns-in-None : goal.returns-in-None
returns-in-None c =
    let F = frames_of c.args.self.now in
    let T = table_in c.args.self.now in
    let says = said_at T c.args.asked.now.name.now c.args.asked.now.index.now (sources_in F c.args.sources.now) in
    ap (map (saying_in F)) c.new.ensures
    ∙ ap (flat_map says) c.in-None.ensures
    ∙ mentions_say T c.args.asked.now.name.now c.args.asked.now.index.now F c.args.sources.now
