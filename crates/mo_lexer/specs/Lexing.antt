-- Which tokens a text has, or which rule it breaks and where (Modelica Language Specification 3.5, chapter 2).
use Rattle.std.specs.Prelude.{◌≡◌, ℕ, ◌+◌, ◌-◌, ◌<◌, Bool, true, false, ◌==◌, ◌&&◌, List, [], ◌∷◌, ◌++◌, length, ◌⊎◌, if◌then◌else◌, codes}
use Rattle.mo_syntax.specs.Lexeme.{Lexeme}
use Rattle.mo_syntax.specs.declared.place.Broken.{Broken}
use Rattle.mo_syntax.specs.declared.place.Place.{Place}
use Rattle.mo_syntax.specs.declared.rules.TheConstants.{LITERAL_TOO_WIDE, TEXT_WITHOUT_END, BAD_CHARACTER}
use Rattle.mo_syntax.specs.declared.token.TokenKind.{TokenKind}
use Rattle.mo_syntax.specs.declared.token.TokenKind.TheVariants.{End}
use Rattle.mo_lexer.specs.Bytes.{is_escaped, is_quotable, is_string_byte, double_quote, single_quote, star, slash, backslash}
use Rattle.mo_lexer.specs.Spelling.{AreContents, Spells, IsWithinLimit, IsSeparator, IsComment, NeverCloses}

-- what may stand as one piece of a text: a separator or a spelling
abbrev pub IsPiece : List ℕ → Type 0
IsPiece text = IsSeparator text ⊎ ((kind : TokenKind) × Spells kind text)

-- `/*` stands at the front
abbrev pub opens_block : List ℕ → Bool
opens_block (a ∷ b ∷ bs) = (a == slash) && (b == star)
opens_block _ = false

-- the piece is the longest that fits where `after` follows it, and where `/*` stands only a comment fits
pub record Fits (piece after : List ℕ) : Type 0 where
  pub longest : (more rest : List ℕ) → after ≡ more ++ rest → 0 < length more → IsPiece (piece ++ more) → ⊥
  pub comment : opens_block (piece ++ after) ≡ true → IsComment piece

-- The place, in the whole text of a file, where rest is what is left of it.
abbrev pub place_before : ℕ → List ℕ → List ℕ → Place
place_before file whole rest = record { file = file; byte = length whole - length rest }

-- From where rest is left of the whole text to where left is, it is cut into separators and these tokens, each the
-- longest that fits and none past its limit.
pub data Reads (file : ℕ) (whole : List ℕ) : List ℕ → List Lexeme → List ℕ → Type 0 where
  stops : {rest left : List ℕ} → rest ≡ left → Reads file whole rest [] left
  skips : {rest left : List ℕ} {tokens : List Lexeme} (piece after : List ℕ) → rest ≡ piece ++ after → IsSeparator piece → Fits piece after
      → Reads file whole after tokens left → Reads file whole rest tokens left
  takes : {rest left : List ℕ} {token : Lexeme} {tokens : List Lexeme} (after : List ℕ) → rest ≡ token.text ++ after → Spells token.kind token.text → Fits token.text after
      → IsWithinLimit token.kind token.text → token.place ≡ place_before file whole rest → Reads file whole after tokens left → Reads file whole rest (token ∷ tokens) left

-- the text without the byte order mark that may stand before it
abbrev pub after_mark : List ℕ → List ℕ
after_mark (a ∷ b ∷ c ∷ rest) = if (a == 0xEF) && (b == 0xBB) && (c == 0xBF) then rest else a ∷ b ∷ c ∷ rest
after_mark text = text

-- the end of the file, as a token
abbrev pub end_of : ℕ → List ℕ → Lexeme
end_of file text = record { kind = End; text = []; place = record { file = file; byte = length text } }

-- The tokens are those of the text, closed by the end of the file.
pub record Lexes (file : ℕ) (text : List ℕ) (tokens : List Lexeme) : Type 0 where
  pub before_end : List Lexeme
  pub all : Reads file text (after_mark text) before_end []
  pub closed : tokens ≡ before_end ++ end_of file text ∷ []

-- some text is left, and no piece fits at its front
pub record IsStuck (left : List ℕ) : Type 0 where
  pub some : 0 < length left
  pub separator : (piece after : List ℕ) → left ≡ piece ++ after → IsSeparator piece → Fits piece after → ⊥
  pub token : (kind : TokenKind) (piece after : List ℕ) → left ≡ piece ++ after → Spells kind piece → Fits piece after → IsWithinLimit kind piece → ⊥

-- an identifier or Integer literal past its limit stands at the front
pub record IsTooWide (left : List ℕ) : Type 0 where
  pub kind : TokenKind
  pub piece : List ℕ
  pub after : List ℕ
  pub is : left ≡ piece ++ after
  pub spells : Spells kind piece
  pub fits : Fits piece after
  pub past : IsWithinLimit kind piece → ⊥

-- a comment, string or quoted identifier begins at the front, is not closed, and all that follows may stand in it
pub data IsCutByEnd (left : List ℕ) : Type 0 where
  comment : (body : List ℕ) → left ≡ codes "/*" ++ body → NeverCloses body → IsCutByEnd left
  string : (body : List ℕ) → left ≡ double_quote ∷ body → AreContents is_string_byte body → IsCutByEnd left
  quoted : (body : List ℕ) → left ≡ single_quote ∷ body → AreContents is_quotable body → IsCutByEnd left

-- an escape is completed
abbrev pub begins_escaped : List ℕ → Bool
begins_escaped [] = false
begins_escaped (b ∷ bs) = is_escaped b

-- so many bytes after the front stands the first byte that may not stand in the string or quoted identifier there: a
-- `\` that begins no escape, a byte that is not allowed between single quotes, or the second of two quotes
pub data IsBadAt (left : List ℕ) : ℕ → Type 0 where
  in_string : {at : ℕ} (body after : List ℕ) → left ≡ double_quote ∷ (body ++ backslash ∷ after) → AreContents is_string_byte body → begins_escaped after ≡ false
      → at ≡ 1 + length body → IsBadAt left at
  in_quoted : {at : ℕ} (body : List ℕ) (b : ℕ) (after : List ℕ) → left ≡ single_quote ∷ (body ++ b ∷ after) → AreContents is_quotable body → is_quotable b ≡ false
      → (b ≡ single_quote → body ≡ []) → (b ≡ backslash → begins_escaped after ≡ false) → at ≡ 1 + length body → IsBadAt left at

-- the rule that is broken where left is what no piece covers, and how many bytes after its front: the first that applies
pub data Breaks (left : List ℕ) : ℕ → ℕ → Type 0 where
  too_wide : {rule at : ℕ} → IsTooWide left → rule ≡ LITERAL_TOO_WIDE → at ≡ 0 → Breaks left rule at
  cut_by_end : {rule at : ℕ} → (IsTooWide left → ⊥) → IsCutByEnd left → rule ≡ TEXT_WITHOUT_END → at ≡ 0 → Breaks left rule at
  bad_byte : {rule at : ℕ} → (IsTooWide left → ⊥) → (IsCutByEnd left → ⊥) → IsBadAt left at → rule ≡ BAD_CHARACTER → Breaks left rule at
  no_token : {rule at : ℕ} → (IsTooWide left → ⊥) → (IsCutByEnd left → ⊥) → ((k : ℕ) → IsBadAt left k → ⊥) → rule ≡ BAD_CHARACTER → at ≡ 0 → Breaks left rule at

-- The text has no tokens: the longest sequence of pieces ends where this rule is broken, and this is the place.
pub record IsRefused (file : ℕ) (text : List ℕ) (broken : Broken) : Type 0 where
  pub tokens : List Lexeme
  pub left : List ℕ
  pub at : ℕ
  pub front : Reads file text (after_mark text) tokens left
  pub stuck : IsStuck left
  pub breaks : Breaks left broken.rule at
  pub place : broken.place ≡ record { file = file; byte = (length text - length left) + at }
