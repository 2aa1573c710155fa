-- What contracts see of the values of readers.
use Rattle.std.specs.Prelude.{Bool, List, [], Option, Some, None}
use Rattle.std.specs.Borrow.{Bor}
use Rattle.mo_syntax.specs.declared.token.Token.{Token}
use Rattle.mo_syntax.specs.declared.class.What.{What}
use Rattle.mo_grammar.specs.Lexeme.{Lexeme, lexeme, lexemes}
use Rattle.mo_grammar.specs.ClassTrees.{Declared, Declares, Inside, Limit, Argued as Given}
use Rattle.mo_grammar.specs.Reading.{Outcome, read}
use Rattle.mo_class_parts.specs.declared.arguments.Declaration.{Declaration}
use Rattle.mo_class_parts.specs.declared.arguments.Argued.{Argued}

-- the tokens behind what leaves no trace in a tree
abbrev pub no_trace : Bor (List Token) → Outcome (Unit {0})
no_trace rest = read tt (lexemes rest.now)

abbrev pub maybe : Option Token → Option Lexeme
maybe None = None
maybe (Some token) = Some (lexeme token)

-- an identifier that is declared, with what stands behind it
abbrev pub declared : Declaration → Declared
declared d = (lexeme d.name, (d.subs, d.binding))

-- a class or a component with the identifier that it declares
abbrev pub declares : Token × What → Declares
declares x = (lexeme x.0, x.1)

-- and with what constrains it
abbrev pub declares_limited : (Token × What) × Option Limit → Declares × Option Limit
declares_limited x = (declares x.0, x.1)

-- what an argument gives, with the place and the identifiers of its name
abbrev pub argued : Argued → Given
argued a = ((a.place, lexemes a.name), a.give)

-- the tokens behind the end of a class that has no more items, and whether it is external
abbrev pub ends : Bool → Bor (List Token) → Outcome Inside
ends external rest = read ([], external) (lexemes rest.now)
