use Rattle.std.proofs.Common.{◌≡◌, ◌<◌, ◌∷◌, [], length}
use Rattle.mo_grammar.specs.Lexeme.{lexemes}
use Rattle.mo_grammar.specs.Codes.{string, plus}
use Rattle.mo_grammar.specs.Grammar.{token, many}
use Rattle.mo_grammar.specs.Forms.{behind}
use Rattle.mo_grammar.specs.Classes.{strings}
use Rattle.mo_grammar.specs.Language.{whole_limits, reads_form}
use Rattle.mo_class_heads.proofs.Untraced.{untraced}
use Rattle.mo_class_heads.proofs.prefixes.strings.Given as goal

abbrev pub invariant-loop-rest : goal.invariant-loop-rest
invariant-loop-rest l = record {
  so_far : untraced (reads_form (many (behind plus (token (string ∷ [])))) whole_limits (lexemes l.rest)) ≡ reads_form strings whole_limits (lexemes l.tokens);
  shorter : length l.rest < length l.tokens;
}

abbrev pub decreases-loop-rest : goal.decreases-loop-rest
decreases-loop-rest l = length l.rest
