-- Parts of productions that have a reader of their own.
use Rattle.std.specs.Prelude.{ℕ, List, [], ◌∷◌, Option}
use Rattle.mo_grammar.specs.Codes.{ident, colon, open_paren, close_paren}
use Rattle.mo_grammar.specs.Grammar.{token, seq, either, made, placed, symbol}
use Rattle.mo_grammar.specs.Forms.{first_of, optional, between}
use Rattle.mo_grammar.specs.ClassTrees.{Argued, Declares, redeclares, redeclares_replaceable, replaces, modifies, declares_class, text_of, open_enumeration, listed_enumeration}
use Rattle.mo_grammar.specs.Symbols.{Form, Names}
use Rattle.mo_grammar.specs.Classes.{strings, modification, replaceable_arg, argument_declares, class_prefixes, short_spec, commented, literals}

-- what an argument redeclares
abbrev pub redeclared : Form Argued
redeclared = either (made redeclares_replaceable replaceable_arg) (made redeclares argument_declares)

-- name [modification] strings
abbrev pub modifying : Form Argued
modifying = made modifies (made first_of (seq (seq (placed (symbol Names)) (optional modification)) strings))

-- what an argument replaces or modifies
abbrev pub given : Form Argued
given = either (made replaces replaceable_arg) modifying

-- class_prefixes short_spec
abbrev pub short_definition : Form Declares
short_definition = made declares_class (seq class_prefixes short_spec)

-- literal: IDENT comment
abbrev pub literal : Form (List ℕ)
literal = commented (made text_of (token (ident ∷ [])))

-- [literal {"," literal}] | ":"
abbrev pub in_enumeration : Form (Option (List (List ℕ)))
in_enumeration = either (made open_enumeration (token (colon ∷ []))) (made listed_enumeration (optional literals))

abbrev pub between_parens : {A : Type 0} → Form A → Form A
between_parens g = between open_paren close_paren g
