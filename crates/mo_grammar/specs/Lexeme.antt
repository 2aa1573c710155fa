-- The code of a token: a number for its kind.
use Rattle.std.specs.Prelude.{ℕ}
use Rattle.mo_syntax.specs.declared.token.TokenKind.{TokenKind}
use Rattle.mo_syntax.specs.declared.token.TokenKind.TheVariants.{Ident, Keyword, Operator, Whole, Decimal, Str, End}
use Rattle.mo_grammar.specs.Codes.{ident, whole, decimal, string, end_of_file, operator_code, word_code}
pub use Rattle.mo_syntax.specs.Lexeme.{Lexeme, lexeme, lexemes}

abbrev pub code_of_kind : TokenKind → ℕ
code_of_kind Ident = ident
code_of_kind Whole = whole
code_of_kind Decimal = decimal
code_of_kind Str = string
code_of_kind End = end_of_file
code_of_kind (Operator place) = operator_code place
code_of_kind (Keyword place) = word_code place

abbrev pub code_of : Lexeme → ℕ
code_of t = code_of_kind t.kind
