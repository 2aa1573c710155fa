-- The mention stands behind those of the first name that is left.
use Rattle.std.proofs.Common.{ℕ, ◌++◌, ◌∷◌, [], List, if◌then◌else◌, ap, ◌∙◌}
use Rattle.std.specs.Str.{bytes_eq}
use Rattle.std.proofs.lemmas.Result.{on_ok_weaker}
use Rattle.mo_scope.specs.Mentions.{mention_seen, mentions_held}
use Rattle.mo_scope.proofs.Mentioned.{next_mentioned, none_mentioned}
use Rattle.mo_scope.proofs.mentions.Mentions.put_argument.Goals as goal

pub returns-in-Some : goal.returns-in-Some
returns-in-Some c = on_ok_weaker c.put.result
    (λ is other. next_mentioned c.args.argument.now.name.0 c.args.passed c.in-Some.name.now other
    (mentions_held c.args.self.now other) (mentions_held c.put.new.self other) (mention_seen c.args.mention ∷ []) c.in-Some.ensures
    (is other ∙ ap (λ (l : List ℕ). mentions_held c.args.self.now other ++ (if bytes_eq l other then mention_seen c.args.mention ∷ [] else [])) c.as_str.ensures))
    c.put.ensures

pub returns-in-None : goal.returns-in-None
returns-in-None c = λ other.
    none_mentioned c.args.argument.now.name.0 c.args.passed other (mentions_held c.args.self.now other) (mention_seen c.args.mention ∷ []) c.in-None.ensures
