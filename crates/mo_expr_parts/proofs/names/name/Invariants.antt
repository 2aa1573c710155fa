use Rattle.std.proofs.Common.{◌≡◌, ◌<◌, ◌∷◌, [], length}
use Rattle.mo_grammar.specs.Lexeme.{lexemes}
use Rattle.mo_grammar.specs.Codes.{ident, dot}
use Rattle.mo_grammar.specs.Grammar.{token, many}
use Rattle.mo_grammar.specs.Forms.{behind}
use Rattle.mo_grammar.specs.Language.{limits_inside, reads, reads_form}
use Rattle.mo_grammar.specs.Symbols.{Names}
use Rattle.mo_grammar.proofs.Loops.{with_front}
use Rattle.mo_expr_parts.proofs.names.name.Given as goal

abbrev pub invariant-each : goal.invariant-each
invariant-each l = record {
  so_far : with_front (lexemes l.all) (reads_form (many (behind dot (token (ident ∷ [])))) (limits_inside l._left) (lexemes l.rest)) ≡ reads Names (limits_inside l._left) (lexemes l.tokens);
  shorter : length l.rest < length l.tokens;
}

abbrev pub decreases-each : goal.decreases-each
decreases-each l = length l.rest
