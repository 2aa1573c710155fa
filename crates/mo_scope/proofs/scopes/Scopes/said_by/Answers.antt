-- What each form says.
use Rattle.std.proofs.Common.{◌++◌, map, ap, sym, ◌∙◌}
use Rattle.std.proofs.lemmas.Result.{on_ok_weaker}
use Rattle.mo_scope.specs.declared.mentions.MentionedBy.{MentionedBy as MentionedByAt}
use Rattle.mo_scope.specs.Mentions.{mentioned_seen, said_by}
use Rattle.mo_scope.specs.Sights.{saying_in, source_seen}
use Rattle.mo_scope.specs.Worlds.{frames_of, source_in, table_in}
use Rattle.mo_scope.proofs.scopes.Scopes.said_by.Goals as goal

pub returns-in-Argument : goal.returns-in-Argument
returns-in-Argument c =
    let F = frames_of c.args.self.now in
    on_ok_weaker c.said_by_argument.result
    (λ is. is ∙ ap (λ (by : MentionedByAt). map (saying_in F) c.args.made.now ++ said_by (table_in c.args.self.now) c.args.asked.now.name.now c.args.asked.now.index.now (source_in F (source_seen c.args.source.now)) (mentioned_seen by))
    (sym c.in-Argument.is))
    c.said_by_argument.ensures

pub returns-in-Rest : goal.returns-in-Rest
returns-in-Rest c =
    let F = frames_of c.args.self.now in
    on_ok_weaker c.said_further.result
    (λ is. is ∙ ap (λ (by : MentionedByAt). map (saying_in F) c.args.made.now ++ said_by (table_in c.args.self.now) c.args.asked.now.name.now c.args.asked.now.index.now (source_in F (source_seen c.args.source.now)) (mentioned_seen by))
    (sym c.in-Rest.is))
    c.said_further.ensures

pub returns-in-Replacing : goal.returns-in-Replacing
returns-in-Replacing c =
    let F = frames_of c.args.self.now in
    on_ok_weaker c.said_by_element.result
    (λ is. is ∙ ap (λ (by : MentionedByAt). map (saying_in F) c.args.made.now ++ said_by (table_in c.args.self.now) c.args.asked.now.name.now c.args.asked.now.index.now (source_in F (source_seen c.args.source.now)) (mentioned_seen by))
    (sym c.in-Replacing.is))
    c.said_by_element.ensures
