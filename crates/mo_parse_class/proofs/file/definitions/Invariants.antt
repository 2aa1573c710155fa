use Rattle.std.proofs.Common.{◌≡◌, ◌≤◌, length}
use Rattle.mo_grammar.specs.Lexeme.{lexemes}
use Rattle.mo_grammar.specs.Grammar.{many}
use Rattle.mo_grammar.specs.Language.{reads_form}
use Rattle.mo_grammar.proofs.Loops.{with_front}
use Rattle.mo_class_heads.specs.Left.{limits}
use Rattle.mo_parse_class.specs.steps.Parts.{definition}
use Rattle.mo_parse_class.proofs.file.definitions.Given as goal

abbrev pub invariant-each : goal.invariant-each
invariant-each l = record {
  so_far : with_front l.all (reads_form (many definition) (limits l.left) (lexemes l.rest)) ≡ reads_form (many definition) (limits l.left) (lexemes l.tokens);
  no_longer : length l.rest ≤ length l.tokens;
}

abbrev pub decreases-each : goal.decreases-each
decreases-each l = length l.rest
