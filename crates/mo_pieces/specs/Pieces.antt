-- A text in pieces: tokens, and the layout between them.
use Rattle.std.specs.Prelude.{ℕ, List, [], ◌∷◌, flat_map, unwrap_or}
use Rattle.std.specs.List.{All}
use Rattle.mo_syntax.specs.declared.place.Place.{Place}
use Rattle.mo_syntax.specs.declared.token.TokenKind.{TokenKind}
use Rattle.mo_syntax.specs.declared.token.TokenKind.TheVariants.{Ident, Keyword, Operator, Whole, Decimal, Str}
use Rattle.mo_syntax.specs.Lexeme.{Lexeme}
use Rattle.mo_tables.specs.Words.{code_in, keywords, operators}
use Rattle.mo_lexer.specs.Spelling.{Spells, IsWithinLimit}

-- a token by its kind and its text, or layout
pub data Piece : Type 0 where
  a_name : List ℕ → Piece
  a_word : List ℕ → Piece
  a_mark : List ℕ → Piece
  a_whole : List ℕ → Piece
  a_decimal : List ℕ → Piece
  a_string : List ℕ → Piece
  a_blank : Piece
  -- a line feed, and the blanks that the next line begins with
  a_line : Piece
  -- from here on lines begin further in, or less far
  deeper : Piece
  shallower : Piece

-- where a token stands that stands nowhere yet
abbrev pub nowhere : Place
nowhere = record { file = 0; byte = 0 }

abbrev pub placeless_token : Lexeme → Lexeme
placeless_token t = record t { place = nowhere }

abbrev pub token_of : TokenKind → List ℕ → List Lexeme
token_of kind text = record { kind = kind; text = text; place = nowhere } ∷ []

-- the token of a piece, none of layout
abbrev pub tokens_of_piece : Piece → List Lexeme
tokens_of_piece (a_name text) = token_of Ident text
tokens_of_piece (a_word text) = token_of (Keyword (unwrap_or (code_in keywords text) 0)) text
tokens_of_piece (a_mark text) = token_of (Operator (unwrap_or (code_in operators text) 0)) text
tokens_of_piece (a_whole text) = token_of Whole text
tokens_of_piece (a_decimal text) = token_of Decimal text
tokens_of_piece (a_string text) = token_of Str text
tokens_of_piece a_blank = []
tokens_of_piece a_line = []
tokens_of_piece deeper = []
tokens_of_piece shallower = []

abbrev pub tokens_of : List Piece → List Lexeme
tokens_of pieces = flat_map tokens_of_piece pieces

-- a token as the lexer takes it from a text
abbrev pub IsToken : Lexeme → Type 0
IsToken t = Spells t.kind t.text × IsWithinLimit t.kind t.text

abbrev pub AreTokens : List Lexeme → Type 0
AreTokens tokens = All IsToken tokens
