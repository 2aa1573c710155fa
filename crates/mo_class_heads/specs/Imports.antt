-- Parts of import clauses that have a reader of their own.
use Rattle.std.specs.Prelude.{List, [], ◌∷◌, ◌++◌, Option, Some, None}
use Rattle.mo_syntax.specs.declared.class.Import.{Import}
use Rattle.mo_syntax.specs.declared.token.Token.{Token}
use Rattle.mo_grammar.specs.Codes.{ident, comma, open_brace, close_brace, dot, dot_times, times, equals}
use Rattle.mo_grammar.specs.Lexeme.{Lexeme, lexemes}
use Rattle.mo_grammar.specs.Grammar.{token, seq, either, either2, made, symbol}
use Rattle.mo_grammar.specs.Forms.{optional, behind, between, separated}
use Rattle.mo_grammar.specs.ClassTrees.{Taken, Imported, from_all, from_group, import_of, renamed_import}
use Rattle.mo_grammar.specs.Reading.{Outcome, read, ◌>>=◌}
use Rattle.mo_grammar.specs.Symbols.{Form, Names, ImportNames}

-- what stands behind `import`
abbrev pub imported : Form Import
imported = either2 ident (equals ∷ []) (made renamed_import (seq (token (ident ∷ [])) (behind equals (symbol Names)))) (made import_of (symbol ImportNames))

-- what may stand behind an identifier in the names of an import clause
abbrev pub import_tail : Form (Option Imported)
import_tail =
    optional (either (made from_all (token (dot_times ∷ [])))
    (behind dot (either (made from_all (token (times ∷ []))) (either (made from_group (between open_brace close_brace (separated comma (token (ident ∷ []))))) (symbol ImportNames)))))

-- what the code holds of what is taken from a name
abbrev pub taken : Option (Option (List Token)) → Taken
taken None = None
taken (Some None) = Some None
taken (Some (Some group)) = Some (Some (lexemes group))

-- what follows the last identifier
abbrev pub tail : Option (Option (List Token)) → Option Imported
tail None = None
tail (Some x) = Some ([], taken (Some x))

-- the identifiers before a tail
abbrev pub with_names : List Lexeme → Outcome (Option Imported) → Outcome Imported
with_names front o = o >>= λ x. read (go x.0) x.1
  where
    go : Option Imported → Imported
    go None = (front, None)
    go (Some x) = (front ++ x.0, x.1)
