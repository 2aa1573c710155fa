-- The name is that of what the element is mentioned by.
use Rattle.std.proofs.Common.{ℕ, ◌++◌, ◌∷◌, [], List, if◌then◌else◌, ap, sym, ◌∙◌}
use Rattle.std.specs.Str.{bytes_eq}
use Rattle.std.proofs.lemmas.Result.{on_ok_weaker}
use Rattle.mo_scope.specs.declared.mentions.MentionedBy.{MentionedBy as MentionedByAt}
use Rattle.mo_scope.specs.Mentions.{mention_seen, mentioned_seen, mentions_held, names_in}
use Rattle.mo_scope.specs.Parts.{begins_with}
use Rattle.mo_scope.proofs.mentions.Mentions.add.Goals as goal

pub returns-in-Argument : goal.returns-in-Argument
returns-in-Argument c = on_ok_weaker c.put_argument.result
    (λ is other. is other
    ∙ ap (λ (by : MentionedByAt). mentions_held c.args.self.now other ++ (if begins_with other (names_in (mentioned_seen by)) then mention_seen c.args.mention ∷ [] else []))
    (sym c.in-Argument.is))
    c.put_argument.ensures

pub returns-in-Rest : goal.returns-in-Rest
returns-in-Rest c = on_ok_weaker c.put_argument-in-Rest.result
    (λ is other. is other
    ∙ ap (λ (by : MentionedByAt). mentions_held c.args.self.now other ++ (if begins_with other (names_in (mentioned_seen by)) then mention_seen c.args.mention ∷ [] else []))
    (sym c.in-Rest.is))
    c.put_argument-in-Rest.ensures

pub returns-in-Replacing : goal.returns-in-Replacing
returns-in-Replacing c = on_ok_weaker c.put.result
    (λ is other. is other
    ∙ ap (λ (l : List ℕ). mentions_held c.args.self.now other ++ (if bytes_eq l other then mention_seen c.args.mention ∷ [] else [])) (c.as_str.ensures ∙ c.name_of.ensures)
    ∙ ap (λ (by : MentionedByAt). mentions_held c.args.self.now other ++ (if begins_with other (names_in (mentioned_seen by)) then mention_seen c.args.mention ∷ [] else []))
    (sym c.in-Replacing.is))
    c.put.ensures
