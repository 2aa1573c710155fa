use Rattle.std.proofs.Common.{◌≡◌, ◌<◌, List, length}
use Rattle.mo_grammar.specs.Lexeme.{Lexeme, lexemes}
use Rattle.mo_grammar.specs.Codes.{comma}
use Rattle.mo_grammar.specs.Grammar.{many, made}
use Rattle.mo_grammar.specs.Forms.{behind, separated}
use Rattle.mo_grammar.specs.Classes.{component}
use Rattle.mo_grammar.specs.Reading.{read}
use Rattle.mo_grammar.specs.Language.{reads_form}
use Rattle.mo_grammar.proofs.Loops.{with_front}
use Rattle.mo_class_heads.specs.Left.{limits}
use Rattle.mo_parse_class.specs.steps.Parts.{Head, head, what_of}
use Rattle.mo_parse_class.proofs.components.components.Given as goal

abbrev pub invariant-each : goal.invariant-each
invariant-each l = record {
  so_far : (h : Head) (behind_head : List Lexeme) → reads_form head (limits l.left) (lexemes l.tokens) ≡ read h behind_head → with_front l.all (reads_form (many (behind comma (made (what_of h) component))) (limits l.left) (lexemes l.rest)) ≡ reads_form (separated comma (made (what_of h) component)) (limits l.left) behind_head;
  shorter : length l.rest < length l.tokens;
}

abbrev pub decreases-each : goal.decreases-each
decreases-each l = length l.rest
