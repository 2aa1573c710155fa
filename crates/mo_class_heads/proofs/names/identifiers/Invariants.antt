use Rattle.std.proofs.Common.{◌≡◌, ◌<◌, ◌∷◌, [], length}
use Rattle.mo_grammar.specs.Lexeme.{lexemes}
use Rattle.mo_grammar.specs.Codes.{ident, comma}
use Rattle.mo_grammar.specs.Grammar.{token, many}
use Rattle.mo_grammar.specs.Forms.{behind, separated}
use Rattle.mo_grammar.specs.Language.{whole_limits, reads_form}
use Rattle.mo_grammar.proofs.Loops.{with_front}
use Rattle.mo_class_heads.proofs.names.identifiers.Given as goal

abbrev pub invariant-loop-rest : goal.invariant-loop-rest
invariant-loop-rest l = record {
  so_far : with_front (lexemes l.all) (reads_form (many (behind comma (token (ident ∷ [])))) whole_limits (lexemes l.rest)) ≡ reads_form (separated comma (token (ident ∷ []))) whole_limits (lexemes l.tokens);
  shorter : length l.rest < length l.tokens;
}

abbrev pub decreases-loop-rest : goal.decreases-loop-rest
decreases-loop-rest l = length l.rest
