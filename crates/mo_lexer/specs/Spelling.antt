-- How tokens, blanks and comments are spelled (Modelica Language Specification 3.5, chapter 2).
use Rattle.std.specs.Prelude.{◌≡◌, ℕ, ◌+◌, ◌<◌, ◌≤◌, Bool, true, false, ◌&&◌, List, [], ◌∷◌, ◌++◌, length, ◌⊎◌, Some, None, codes}
use Rattle.std.specs.List.{list_all}
use Rattle.std.specs.Str.Parse.{digits_value}
use Rattle.mo_syntax.specs.declared.token.TokenKind.{TokenKind}
use Rattle.mo_syntax.specs.declared.token.TokenKind.TheVariants.{Ident, Keyword, Operator, Whole, Decimal, Str, End}
use Rattle.mo_tables.specs.Words.{code_in, keywords, operators}
use Rattle.mo_lexer.specs.Bytes.{is_blank, is_letter, is_digit, is_word_byte, is_escaped, is_quotable, is_string_byte, is_line_byte, is_exponent_mark, is_sign, double_quote, single_quote, point, backslash}

-- a letter or `_`, then letters, digits and `_`
abbrev pub is_word : List ℕ → Bool
is_word [] = false
is_word (b ∷ bs) = is_letter b && list_all is_word_byte bs

-- plain characters, and escapes: `\` and what may follow it
pub data AreContents (is_plain : ℕ → Bool) : List ℕ → Type 0 where
  nothing : AreContents is_plain []
  plain : {b : ℕ} {bs : List ℕ} → is_plain b ≡ true → AreContents is_plain bs → AreContents is_plain (b ∷ bs)
  escape : {s b : ℕ} {bs : List ℕ} → s ≡ backslash → is_escaped b ≡ true → AreContents is_plain bs → AreContents is_plain (s ∷ b ∷ bs)

-- `'`, one or more characters, and `'`
pub record IsQuoted (text : List ℕ) : Type 0 where
  pub body : List ℕ
  pub is : text ≡ single_quote ∷ (body ++ single_quote ∷ [])
  pub contents : AreContents is_quotable body
  pub some : 0 < length body

-- `"`, any characters, and `"`
pub record IsString (text : List ℕ) : Type 0 where
  pub body : List ℕ
  pub is : text ≡ double_quote ∷ (body ++ double_quote ∷ [])
  pub contents : AreContents is_string_byte body

abbrev pub are_digits : List ℕ → Bool
are_digits text = list_all is_digit text

-- `e` or `E`, perhaps a sign, and digits
pub record IsExponent (text : List ℕ) : Type 0 where
  pub mark : ℕ
  pub sign : List ℕ
  pub digits : List ℕ
  pub is : text ≡ mark ∷ (sign ++ digits)
  pub is_mark : is_exponent_mark mark ≡ true
  pub is_sign : (length sign ≤ 1) × (list_all is_sign sign ≡ true)
  pub are_digits : are_digits digits ≡ true
  pub some : 0 < length digits

-- one digit or more
pub record IsWhole (text : List ℕ) : Type 0 where
  pub are_digits : are_digits text ≡ true
  pub some : 0 < length text

-- digits with a point before, among or after them and perhaps an exponent, or digits and an exponent
pub data IsDecimal (text : List ℕ) : Type 0 where
  pointed : (digits fraction exponent : List ℕ) → text ≡ digits ++ point ∷ (fraction ++ exponent) → are_digits digits ≡ true → are_digits fraction ≡ true
      → 0 < length digits + length fraction → (exponent ≡ []) ⊎ IsExponent exponent → IsDecimal text
  unpointed : (digits exponent : List ℕ) → text ≡ digits ++ exponent → IsWhole digits → IsExponent exponent → IsDecimal text

-- the spellings of each kind of token; the end of the file is spelled by nothing
abbrev pub Spells : TokenKind → List ℕ → Type 0
Spells Ident text = ((is_word text ≡ true) × (code_in keywords text ≡ None)) ⊎ IsQuoted text
Spells (Keyword code) text = (is_word text ≡ true) × (code_in keywords text ≡ Some code)
Spells (Operator code) text = code_in operators text ≡ Some code
Spells Whole text = IsWhole text
Spells Decimal text = IsDecimal text
Spells Str text = IsString text
Spells End text = ⊥

-- an identifier has at most 256 bytes, its quotes included, and an Integer literal at most 63 bits
abbrev pub IsWithinLimit : TokenKind → List ℕ → Type 0
IsWithinLimit Ident text = length text ≤ 256
IsWithinLimit Whole text = digits_value 10 text ≤ 9223372036854775807
IsWithinLimit _ text = Unit {0}

-- `*/` stands nowhere in it
abbrev pub NeverCloses : List ℕ → Type 0
NeverCloses body = (before after : List ℕ) → body ≡ before ++ (codes "*/" ++ after) → ⊥

-- `//` and what stands in the line, or from `/*` up to the next `*/`
pub data IsComment (text : List ℕ) : Type 0 where
  line : (body : List ℕ) → text ≡ codes "//" ++ body → list_all is_line_byte body ≡ true → IsComment text
  block : (body : List ℕ) → text ≡ codes "/*" ++ (body ++ codes "*/") → NeverCloses body → IsComment text

-- what separates tokens: a blank or a comment
pub data IsSeparator (text : List ℕ) : Type 0 where
  blank : (b : ℕ) → text ≡ b ∷ [] → is_blank b ≡ true → IsSeparator text
  comment : IsComment text → IsSeparator text
