-- The clause that says where the classes of a file stand.
use Rattle.std.specs.Prelude.{List, Option, Some, None}
use Rattle.mo_syntax.specs.declared.token.Token.{Token}
use Rattle.mo_syntax.specs.declared.place.Place.{Place}
use Rattle.mo_grammar.specs.Codes.{semicolon, within_word}
use Rattle.mo_grammar.specs.Lexeme.{Lexeme, lexemes}
use Rattle.mo_grammar.specs.Grammar.{placed, symbol}
use Rattle.mo_grammar.specs.Forms.{optional, behind, before}
use Rattle.mo_grammar.specs.Symbols.{Form, Names}

-- within [name] ";"
abbrev pub within_clause : Form (Option (Option (Place × List Lexeme)))
within_clause = optional (behind within_word (before (optional (placed (symbol Names))) semicolon))

-- what the code holds of a name with its place, and of a clause
abbrev pub named : Option (Place × List Token) → Option (Place × List Lexeme)
named None = None
named (Some x) = Some (x.0, lexemes x.1)

abbrev pub within : Option (Option (Place × List Token)) → Option (Option (Place × List Lexeme))
within None = None
within (Some name) = Some (named name)
