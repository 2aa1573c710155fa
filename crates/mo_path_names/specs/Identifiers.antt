-- Identifiers as a test of names (Modelica Language Specification 3.5, section 2.3.1): a word that is not reserved, or characters in quotes.
use Rattle.std.specs.Prelude.{ℕ, Bool, false, ◌==◌, ◌&&◌, ◌||◌, not, List, [], ◌∷◌, is_some, if◌then◌else◌}
use Rattle.mo_syntax.specs.SoundTree.{Naming}
use Rattle.mo_tables.specs.Words.{code_in, keywords}
use Rattle.mo_lexer.specs.Bytes.{is_escaped, is_quotable}
use Rattle.mo_lexer.specs.Spelling.{is_word}

-- characters and escapes, and the quote that closes them
abbrev pub is_closed : List ℕ → Bool
is_closed [] = false
is_closed (b ∷ []) = b == 39
is_closed (b ∷ next ∷ others) =
    if b == 92 then is_escaped next && is_closed others else is_quotable b && is_closed (next ∷ others)

-- `'`, one character or more, and `'`
abbrev pub is_quoted : List ℕ → Bool
is_quoted (quote ∷ first ∷ others) = (quote == 39) && (not (first == 39) && is_closed (first ∷ others))
is_quoted text = false

abbrev pub is_identifier : Naming
is_identifier text = is_word text && not (is_some (code_in keywords text)) || is_quoted text
