-- What contracts see of a token: its kind, its bytes and its place.
use Rattle.std.specs.Prelude.{ℕ, List, map}
use Rattle.mo_syntax.specs.declared.place.Place.{Place}
use Rattle.mo_syntax.specs.declared.token.Token.{Token}
use Rattle.mo_syntax.specs.declared.token.TokenKind.{TokenKind}

pub record Lexeme : Type 0 where
  pub kind : TokenKind
  pub text : List ℕ
  pub place : Place

abbrev pub lexeme : Token → Lexeme
lexeme token = record { kind = token.kind; text = token.text.now; place = token.place }

abbrev pub lexemes : List Token → List Lexeme
lexemes = map lexeme
