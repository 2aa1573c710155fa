use Rattle.std.proofs.Common.{◌≡◌, take, map}
use Rattle.mo_grammar.specs.Lexeme.{lexemes}
use Rattle.mo_grammar.specs.Trees.{plain_part}
use Rattle.mo_expr_parts.proofs.trees.plain_parts.Given as goal

abbrev pub invariant-loop-name : goal.invariant-loop-name
invariant-loop-name l = l.parts ≡ map plain_part (lexemes (take l.name-index l.names))
