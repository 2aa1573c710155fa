use Rattle.std.proofs.Common.{◌≡◌, ◌<◌, length}
use Rattle.mo_grammar.specs.Lexeme.{lexemes}
use Rattle.mo_grammar.specs.Language.{reads, reads_form}
use Rattle.mo_grammar.specs.Symbols.{ImportNames}
use Rattle.mo_class_heads.specs.Left.{limits}
use Rattle.mo_class_heads.specs.Imports.{import_tail, with_names}
use Rattle.mo_class_heads.proofs.imports.import_names.Given as goal

abbrev pub invariant-loop-rest : goal.invariant-loop-rest
invariant-loop-rest l = record {
  so_far : with_names (lexemes l.names) (reads_form import_tail (limits l.left) (lexemes l.rest)) ≡ reads ImportNames (limits l.left) (lexemes l.tokens);
  shorter : length l.rest < length l.tokens;
}

abbrev pub decreases-loop-rest : goal.decreases-loop-rest
decreases-loop-rest l = length l.rest
