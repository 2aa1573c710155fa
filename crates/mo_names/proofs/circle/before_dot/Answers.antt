-- A name that is not the last.
use Rattle.std.proofs.Common.{◌≡◌, ◌+◌, length, map, arith, Bor}
use Rattle.std.proofs.lemmas.List.{length-map}
use Rattle.mo_syntax.specs.declared.text.Text.{Text}
use Rattle.mo_names.proofs.Ends.{stands_before}
use Rattle.mo_names.proofs.circle.before_dot.Goals as goal

pub returns-else-at-names : goal.returns-else-at-names
returns-else-at-names c =
    let same : length (map (λ (name : Bor Text). name.now) c.args.names.now) ≡ length c.args.names.now = length-map c.args.names.now (λ (name : Bor Text). name.now) in
    stands_before c.args.place (map (λ (name : Bor Text). name.now) c.args.names.now) (c.args.at + 1) (omega arith)
