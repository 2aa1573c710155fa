-- What an argument says stands under its next name.
use Rattle.std.proofs.Common.{◌≡◌, ◌+◌, ◌<◌, ◌≤◌, [], ◌∷◌, ◌++◌, List, ℕ, length, get_or, if◌then◌else◌, ap, ◌∙◌, subst}
use Rattle.std.specs.Str.{bytes_eq}
use Rattle.std.proofs.lemmas.Result.{on_ok_weaker}
use Rattle.mo_scope.specs.Worlds.{table_in}
use Rattle.mo_mods.specs.Left.{said_by}
use Rattle.mo_mods.specs.Sights.{said_held, said_in}
use Rattle.mo_mods.proofs.Grouping.{next_said, nothing_said}
use Rattle.mo_mods.proofs.groups.put_argument.Goals as goal

pub returns-then-passed-names : goal.returns-then-passed-names
returns-then-passed-names c = λ frames other.
    nothing_said c.args.argument.now.name.0 c.args.passed other (said_held frames c.args.groups.now other) _
    (subst (λ (names : List (List ℕ)). length names ≤ c.args.passed) c.as_slice-names.ensures c.if-passed-names.true)

pub returns : goal.returns
returns c =
    on_ok_weaker c.put.result
    (λ put frames other.
    next_said c.args.argument.now.name.0 c.args.passed c.index-names-passed.result other (said_held frames c.args.groups.now other) (said_held frames c.put.new.groups other)
    (said_in frames c.said_by-said.result ∷ []) _
    (subst (λ (names : List (List ℕ)). c.args.passed < length names) c.as_slice-names.ensures c.if-passed-names.false)
    (subst (λ (names : List (List ℕ)). c.index-names-passed.result ≡ get_or names c.args.passed c.index-names-passed.result) c.as_slice-names.ensures c.index-names-passed.is)
    (subst (λ (name : List ℕ). said_held frames c.put.new.groups other ≡ said_held frames c.args.groups.now other ++ (if bytes_eq name other then said_in frames c.said_by-said.result ∷ [] else [])) c.as_str.ensures (put frames other))
    (ap (λ said. said ∷ []) (c.said_by-said.ensures frames ∙ ap (said_by (table_in c.args.scopes.now) c.args.argument.now (c.args.passed + 1)) (c.in_ok-behind.ensures frames))))
    c.put.ensures
