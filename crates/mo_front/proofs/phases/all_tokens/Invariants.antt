use Rattle.std.proofs.Common.{◌≡◌, ◌+◌, map, drop, All}
use Rattle.mo_syntax.specs.Lexeme.{lexemes}
use Rattle.mo_lexer.specs.Lexing.{Lexes, IsRefused}
use Rattle.mo_parse_class.specs.WholeFiles.{EndsAtEnd}
use Rattle.mo_front.specs.steps.Loading.{More}
use Rattle.mo_front.proofs.phases.all_tokens.Given as goal

abbrev pub invariant-loop-text : goal.invariant-loop-text
invariant-loop-text l =
    (l.number ≡ 1 + l.text-index) × All (λ list. EndsAtEnd (lexemes list)) l.lists × More Lexes IsRefused l.texts (map lexemes l.lists) l.number (drop l.text-index l.texts)
