use Rattle.std.proofs.Common.{◌≡◌, map, drop}
use Rattle.mo_grammar.specs.Lexeme.{code_of_kind}
use Rattle.mo_grammar.specs.Grammar.{has}
use Rattle.mo_grammar.proofs.reading.is_any.Given as goal

abbrev pub invariant-loop-one : goal.invariant-loop-one
invariant-loop-one l = has (map code_of_kind (drop l.one-index l.wanted)) (code_of_kind l.kind) ≡ has (map code_of_kind l.wanted) (code_of_kind l.kind)
