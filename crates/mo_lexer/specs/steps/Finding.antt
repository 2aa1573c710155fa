-- What the parts of the lexer find at the front of what is left of a text.
use Rattle.std.specs.Prelude.{◌≡◌, ℕ, ◌+◌, ◌<◌, ◌≤◌, Bool, true, false, ◌==◌, ◌&&◌, ◌||◌, not, List, [], ◌∷◌, length, take, drop, slice_index, Option, Some, None, if◌then◌else◌}
use Rattle.std.specs.List.{prefix_len}
use Rattle.std.specs.Str.{IsUtf8, IsCharBoundary}
use Rattle.mo_syntax.specs.declared.token.TokenKind.{TokenKind}
use Rattle.mo_syntax.specs.declared.token.TokenKind.TheVariants.{Whole, Decimal}
use Rattle.mo_lexer.specs.Bytes.{is_blank, is_letter, is_digit, is_quotable, is_string_byte, is_exponent_mark, is_sign, double_quote, single_quote, star, point, slash, backslash}
use Rattle.mo_lexer.specs.Spelling.{AreContents, Spells, IsWithinLimit, IsSeparator}
use Rattle.mo_lexer.specs.Lexing.{Fits, IsStuck, Breaks, begins_escaped}
use Rattle.mo_lexer.specs.declared.contents.Quotes.{Quotes}
use Rattle.mo_lexer.specs.declared.contents.Quotes.TheVariants.{Single, Double}
use Rattle.mo_lexer.specs.declared.piece.Found.{Found}
use Rattle.mo_lexer.specs.declared.piece.Found.TheVariants.{Separator, Spelled, Unfit}

-- what may stand between the quotes but escapes
abbrev pub is_plain : Quotes → ℕ → Bool
is_plain Single b = is_quotable b
is_plain Double b = is_string_byte b

-- the longest front of plain characters and escapes
pub record IsContentsEnd (is_plain : ℕ → Bool) (bytes : List ℕ) (n : ℕ) : Type 0 where
  pub within : n ≤ length bytes
  pub contents : AreContents is_plain (take n bytes)
  pub stops : n < length bytes → is_plain (slice_index bytes n) ≡ false
  pub unescaped : n < length bytes → slice_index bytes n ≡ backslash → begins_escaped (drop (n + 1) bytes) ≡ false

-- `*/` stands there
abbrev pub ClosesAt : List ℕ → ℕ → Type 0
ClosesAt bytes k = (k + 1 < length bytes) × (slice_index bytes k ≡ star) × (slice_index bytes (k + 1) ≡ slash)

-- the first `*/`, if there is one
abbrev pub IsFirstClose : List ℕ → Option ℕ → Type 0
IsFirstClose bytes None = (k : ℕ) → ClosesAt bytes k → ⊥
IsFirstClose bytes (Some n) = ClosesAt bytes n × ((k : ℕ) → k < n → ClosesAt bytes k → ⊥)

-- how many bytes a point and digits after it take
abbrev pub point_len : List ℕ → ℕ
point_len [] = 0
point_len (b ∷ bs) = if b == point then 1 + prefix_len is_digit bs else 0

-- how many bytes the mark of an exponent and a sign take
abbrev pub mark_len : List ℕ → ℕ
mark_len [] = 0
mark_len (b ∷ []) = if is_exponent_mark b then 1 else 0
mark_len (b ∷ c ∷ bs) = if is_exponent_mark b then (if is_sign c then 2 else 1) else 0

-- how many bytes the longest exponent takes, 0 where there is none
abbrev pub exponent_len : List ℕ → ℕ
exponent_len bytes = let start = mark_len bytes in let digits = prefix_len is_digit (drop start bytes) in if (start == 0) || (digits == 0) then 0 else start + digits

-- a digit stands at the front, or a point and a digit
abbrev pub begins_number : List ℕ → Bool
begins_number [] = false
begins_number (b ∷ []) = is_digit b
begins_number (b ∷ c ∷ bs) = is_digit b || ((b == point) && is_digit c)

-- `//` stands at the front
abbrev pub opens_line : List ℕ → Bool
opens_line (a ∷ b ∷ bs) = (a == slash) && (b == slash)
opens_line _ = false

-- a byte that begins no blank, word, digits or text in quotes
abbrev pub is_mark : ℕ → Bool
is_mark b = not (is_blank b) && (not (is_letter b) && (not (is_digit b) && (not (b == single_quote) && not (b == double_quote))))

-- a front of so many bytes, after which the text may be cut
pub record IsCut (rest : List ℕ) (n : ℕ) : Type 0 where
  pub some : 0 < n
  pub within : n ≤ length rest
  pub boundary : IsUtf8 rest → IsCharBoundary rest n

-- the kind of a number, whole or not
abbrev pub number_kind : Bool → TokenKind
number_kind true = Whole
number_kind false = Decimal

-- a number of so many bytes stands at the front
pub record IsNumberFront (rest : List ℕ) (whole : Bool) (n : ℕ) : Type 0 where
  pub cut : IsCut rest n
  pub spells : Spells (number_kind whole) (take n rest)
  pub fits : Fits (take n rest) (drop n rest)

-- what stands at the front: a separator or a spelling of so many bytes, or no piece, where a rule is broken
abbrev pub Finds : List ℕ → Found → Type 0
Finds rest (Separator n) = IsCut rest n × IsSeparator (take n rest) × Fits (take n rest) (drop n rest)
Finds rest (Spelled kind n) = IsCut rest n × Spells kind (take n rest) × Fits (take n rest) (drop n rest) × IsWithinLimit kind (take n rest)
Finds rest (Unfit rule at) = (at < length rest) × IsStuck rest × Breaks rest rule at
