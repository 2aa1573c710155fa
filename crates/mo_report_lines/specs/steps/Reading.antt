-- Words on reading what stands at the front of a text.
use Rattle.std.specs.Prelude.{◌≡◌, ℕ, ◌+◌, ◌<◌, ◌≤◌, Bool, true, false, ◌==◌, ◌||◌, ◌&&◌, not, List, [], ◌∷◌, ◌++◌, map, length, take, drop, slice_index, codes, decimal}
use Rattle.std.proofs.Common.{zero, suc}
use Rattle.mo_lexer.specs.Bytes.{is_digit, is_word_byte, is_quotable, is_escaped}
use Rattle.mo_lexer.specs.Spelling.{AreContents}
use Rattle.mo_report_lines.specs.Grammar.{AreNumbers, IsName, IsDerivative, IsValue}
use Rattle.mo_report_lines.specs.declared.form.Kind.{Kind}
use Rattle.mo_report_lines.specs.declared.form.Field.{Field}

-- the text is nothing, or its first byte does not pass
abbrev pub stops : (ℕ → Bool) → List ℕ → Bool
stops p [] = true
stops p (b ∷ bs) = not (p b)

-- the bytes that would go on a part, and those that would go on a name
abbrev pub in_part : ℕ → Bool
in_part b = is_word_byte b || (b == 91)

abbrev pub in_name : ℕ → Bool
in_name b = in_part b || (b == 46)

-- the bytes that would go on numbers with this one between them
abbrev pub in_numbers : ℕ → ℕ → Bool
in_numbers separator b = is_digit b || (b == separator)

-- `rest` stands behind a text of P
pub record Begins (P : List ℕ → Type 0) (text rest : List ℕ) : Type 0 where
  pub front : List ℕ
  pub holds : P front
  pub is : text ≡ front ++ rest

-- `rest` stands behind a text of P, and no other text does that stops it
pub record BeginsOnly (P : List ℕ → Type 0) (p : ℕ → Bool) (text rest : List ℕ) : Type 0 where
  pub begins : Begins P text rest
  pub only : (other : List ℕ) → stops p other ≡ true → Begins P text other → other ≡ rest

-- no text of P stands at the front that something stops
abbrev pub BeginsNever : (List ℕ → Type 0) → (ℕ → Bool) → List ℕ → Type 0
BeginsNever P p text = (other : List ℕ) → stops p other ≡ true → Begins P text other → ⊥

-- an escape goes on behind its `\`
abbrev pub begins_escape : List ℕ → Bool
begins_escape [] = false
begins_escape (b ∷ bs) = is_escaped b

-- a character between quotes, or an escape, stands at the front
abbrev pub begins_quoted : List ℕ → Bool
begins_quoted [] = false
begins_quoted (b ∷ bs) = is_quotable b || ((b == 92) && begins_escape bs)

-- the longest front of what may stand between quotes
pub record IsContentsEnd (text : List ℕ) (n : ℕ) : Type 0 where
  pub within : n ≤ length text
  pub contents : AreContents is_quotable (take n text)
  pub stops : n < length text → is_quotable (slice_index text n) ≡ false
  pub unescaped : n < length text → slice_index text n ≡ 92 → begins_escape (drop (n + 1) text) ≡ false

-- indices in brackets
pub record AreIndices (text : List ℕ) : Type 0 where
  pub numbers : List ℕ
  pub is : text ≡ 91 ∷ (numbers ++ 93 ∷ [])
  pub are_numbers : AreNumbers 44 numbers

-- a parenthesis for each of so many derivatives, before a text
abbrev pub closed : ℕ → List ℕ → List ℕ
closed zero text = text
closed (suc k) text = 41 ∷ closed k text

-- what may not stand behind a value
abbrev pub is_no_blank : ℕ → Bool
is_no_blank b = not (b == 32)

-- a blank stands at the front
abbrev pub begins_blank : List ℕ → Bool
begins_blank [] = false
begins_blank (b ∷ bs) = b == 32

-- each word begins with a blank
abbrev pub are_apart : List (List ℕ × Kind) → Bool
are_apart [] = true
are_apart (f ∷ fs) = begins_blank f.0 && are_apart fs

-- and so the words of a form, but the first
abbrev pub is_form : List (List ℕ × Kind) → Bool
is_form [] = false
is_form (f ∷ fs) = are_apart fs

-- the fields of a table
abbrev pub fields_in : List Field → List (List ℕ × Kind)
fields_in fields = map (λ f. (f.word.now, f.kind)) fields

-- a derivative stands at the front, and behind it so many parentheses and then `other`
abbrev pub OpensTo : List ℕ → List ℕ → ℕ → Type 0
OpensTo text other depth = Begins IsDerivative text (closed depth other)

-- a word and a value stand before `rest`, and before no other text that is nothing or begins with a blank
pub record IsFieldAt (word : List ℕ) (kind : Kind) (text rest : List ℕ) : Type 0 where
  pub value : List ℕ
  pub is_value : IsValue kind value
  pub is : text ≡ word ++ (value ++ rest)
  pub only : (v other : List ℕ) → stops is_no_blank other ≡ true → IsValue kind v → text ≡ word ++ (v ++ other) → other ≡ rest

abbrev pub IsNoFieldAt : List ℕ → Kind → List ℕ → Type 0
IsNoFieldAt word kind text = (v other : List ℕ) → stops is_no_blank other ≡ true → IsValue kind v → text ≡ word ++ (v ++ other) → ⊥

-- the line lists the equations of a block
pub record IsBlockLine (line : List ℕ) : Type 0 where
  pub numbers : List ℕ
  pub is : line ≡ codes "block " ++ numbers
  pub are_numbers : AreNumbers 32 numbers

-- a word and a number stand before `rest`, and no other number does
pub record IsNumberedAt (word text : List ℕ) (n : ℕ) (rest : List ℕ) : Type 0 where
  pub is : text ≡ word ++ (decimal n ++ rest)
  pub fits : n < 4294967296
  pub only : (m : ℕ) (other : List ℕ) → stops is_no_blank other ≡ true → m < 4294967296 → text ≡ word ++ (decimal m ++ other) → (m ≡ n) × (other ≡ rest)

abbrev pub IsNoNumberAt : List ℕ → List ℕ → Type 0
IsNoNumberAt word text = (m : ℕ) (other : List ℕ) → stops is_no_blank other ≡ true → m < 4294967296 → text ≡ word ++ (decimal m ++ other) → ⊥

-- a word and a name stand before `rest`, and no other name does
pub record IsNamedAt (word text name rest : List ℕ) : Type 0 where
  pub is : text ≡ word ++ (name ++ rest)
  pub is_name : IsName name
  pub only : (other_name other : List ℕ) → stops is_no_blank other ≡ true → IsName other_name → text ≡ word ++ (other_name ++ other) → (other_name ≡ name) × (other ≡ rest)

abbrev pub IsNoNameAt : List ℕ → List ℕ → Type 0
IsNoNameAt word text = (name other : List ℕ) → stops is_no_blank other ≡ true → IsName name → text ≡ word ++ (name ++ other) → ⊥
