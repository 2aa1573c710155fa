use Rattle.std.proofs.Common.{◌≡◌, ◌<◌, length}
use Rattle.mo_grammar.specs.Lexeme.{lexemes}
use Rattle.mo_grammar.specs.Codes.{comma}
use Rattle.mo_grammar.specs.Grammar.{many, symbol}
use Rattle.mo_grammar.specs.Forms.{behind, separated}
use Rattle.mo_grammar.specs.Symbols.{Expressions}
use Rattle.mo_grammar.specs.Language.{reads_form}
use Rattle.mo_grammar.proofs.Loops.{with_front}
use Rattle.mo_class_heads.specs.Left.{limits}
use Rattle.mo_parse_class.proofs.endings.expressions.Given as goal

abbrev pub invariant-each : goal.invariant-each
invariant-each l = record {
  so_far : with_front l.all (reads_form (many (behind comma (symbol Expressions))) (limits l.left) (lexemes l.rest)) ≡ reads_form (separated comma (symbol Expressions)) (limits l.left) (lexemes l.tokens);
  shorter : length l.rest < length l.tokens;
}

abbrev pub decreases-each : goal.decreases-each
decreases-each l = length l.rest
