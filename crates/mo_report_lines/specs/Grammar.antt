-- The lines of printed reports: how names, numbers and derivatives are spelled in them, and which forms of lines there are. Names are
-- those of Modelica (Modelica Language Specification 3.5, section 2.3.1 and appendix A.2.7).
use Rattle.std.specs.Prelude.{◌≡◌, ℕ, ◌<◌, List, [], ◌∷◌, ◌++◌, ◌⊎◌, codes, decimal}
use Rattle.mo_syntax.specs.declared.token.TokenKind.TheVariants.{Ident}
use Rattle.mo_flat.specs.Text.{derivative_text}
use Rattle.mo_lexer.specs.Spelling.{Spells as SpellsToken}
use Rattle.mo_report_lines.specs.declared.form.Kind.{Kind}
use Rattle.mo_report_lines.specs.declared.form.Kind.TheVariants.{Nothing, Number, Name, Derivative}

-- one text or more, with a byte between neighbours
pub data AreSeparated (separator : ℕ) (P : List ℕ → Type 0) : List ℕ → Type 0 where
  one : {text : List ℕ} → P text → AreSeparated separator P text
  more : {text : List ℕ} (first rest : List ℕ) → text ≡ first ++ separator ∷ rest → P first → AreSeparated separator P rest → AreSeparated separator P text

-- a number of 32 bits, without leading zeros
pub record IsNumber (text : List ℕ) : Type 0 where
  pub value : ℕ
  pub is : text ≡ decimal value
  pub fits : value < 4294967296

-- numbers with a byte between neighbours
abbrev pub AreNumbers : ℕ → List ℕ → Type 0
AreNumbers separator text = AreSeparated separator IsNumber text

-- an identifier, perhaps with indices in brackets
pub data IsPart : List ℕ → Type 0 where
  plain : {text : List ℕ} → SpellsToken Ident text → IsPart text
  indexed : {text : List ℕ} (name indices : List ℕ) → text ≡ name ++ 91 ∷ (indices ++ 93 ∷ []) → SpellsToken Ident name → AreNumbers 44 indices → IsPart text

-- identifiers with indices, with dots between neighbours
abbrev pub IsName : List ℕ → Type 0
IsName text = AreSeparated 46 IsPart text

-- a name in derivatives
pub record IsDerivative (text : List ℕ) : Type 0 where
  pub order : ℕ
  pub name : List ℕ
  pub is : text ≡ derivative_text order name
  pub is_name : IsName name

-- what may stand behind a word
abbrev pub IsValue : Kind → List ℕ → Type 0
IsValue Nothing text = text ≡ []
IsValue Number text = IsNumber text
IsValue Name text = IsName text
IsValue Derivative text = IsDerivative text

-- the text has the words of the fields with a value behind each
pub data Spells : List (List ℕ × Kind) → List ℕ → Type 0 where
  done : Spells [] []
  next : {word : List ℕ} {kind : Kind} {fields : List (List ℕ × Kind)} {text : List ℕ} (value rest : List ℕ) → text ≡ word ++ (value ++ rest)
      → IsValue kind value → Spells fields rest → Spells ((word, kind) ∷ fields) text

-- the text has one of the forms
abbrev pub HasForm : List (List (List ℕ × Kind)) → List ℕ → Type 0
HasForm [] text = ⊥
HasForm (form ∷ forms) text = Spells form text ⊎ HasForm forms text

-- the lines at the head of a report, and those of a deficit
abbrev pub head_forms : List (List (List ℕ × Kind))
head_forms =
    ((codes "report ", Name) ∷ []) ∷
    ((codes "equations ", Number) ∷ (codes " unknowns ", Number) ∷ []) ∷
    ((codes "deficit ", Number) ∷ (codes " equations ", Number) ∷ (codes " unknowns", Nothing) ∷ []) ∷
    ((codes "in ", Number) ∷ []) ∷
    ((codes "mentions ", Name) ∷ []) ∷
    []

-- the lines of equations and unknowns
abbrev pub offset_forms : List (List (List ℕ × Kind))
offset_forms =
    ((codes "equation ", Number) ∷ (codes " c ", Number) ∷ (codes " pairs ", Name) ∷ (codes " order ", Number) ∷ []) ∷
    ((codes "unknown ", Name) ∷ (codes " d ", Number) ∷ []) ∷
    ((codes "undetermined ", Name) ∷ []) ∷
    []

-- the lines of square systems, but for blocks
abbrev pub square_forms : List (List (List ℕ × Kind))
square_forms =
    ((codes "reason ", Number) ∷ (codes " from ", Number) ∷ []) ∷
    ((codes "dummy ", Derivative) ∷ (codes " stage ", Number) ∷ (codes " equation ", Number) ∷ []) ∷
    ((codes "state ", Derivative) ∷ []) ∷
    ((codes "index ", Number) ∷ []) ∷
    ((codes "freedom ", Number) ∷ []) ∷
    []

-- the text is a line of a report, without its line feed; a block has one number or more
pub data IsLine : List ℕ → Type 0 where
  head : {text : List ℕ} → HasForm head_forms text → IsLine text
  offsets : {text : List ℕ} → HasForm offset_forms text → IsLine text
  square : {text : List ℕ} → HasForm square_forms text → IsLine text
  block : {text : List ℕ} (numbers : List ℕ) → text ≡ codes "block " ++ numbers → AreNumbers 32 numbers → IsLine text

-- a line with its line feed
pub record IsReadable (line : List ℕ) : Type 0 where
  pub text : List ℕ
  pub is : line ≡ text ++ 10 ∷ []
  pub is_line : IsLine text

-- the text of the line of an equation
pub record IsEquationLine (line : List ℕ) (number offset : ℕ) (unknown : List ℕ) (order : ℕ) : Type 0 where
  pub is : line ≡ codes "equation " ++ (decimal number ++ (codes " c " ++ (decimal offset ++ (codes " pairs " ++ (unknown ++ (codes " order " ++ decimal order))))))
  pub number_fits : number < 4294967296
  pub offset_fits : offset < 4294967296
  pub is_name : IsName unknown
  pub order_fits : order < 4294967296

-- the text of the line of an unknown
pub record IsUnknownLine (line : List ℕ) (unknown : List ℕ) (highest : ℕ) : Type 0 where
  pub is : line ≡ codes "unknown " ++ (unknown ++ (codes " d " ++ decimal highest))
  pub is_name : IsName unknown
  pub fits : highest < 4294967296

-- each reading of the line as that of an equation is this one
abbrev pub IsOnlyEquationLine : (line : List ℕ) → (number offset : ℕ) → (unknown : List ℕ) → (order : ℕ) → Type 0
IsOnlyEquationLine line number offset unknown order =
    (i c k : ℕ) (name : List ℕ) → IsEquationLine line i c name k → (i ≡ number) × (c ≡ offset) × (name ≡ unknown) × (k ≡ order)

-- each reading of the line as that of an unknown is this one
abbrev pub IsOnlyUnknownLine : (line unknown : List ℕ) → ℕ → Type 0
IsOnlyUnknownLine line unknown highest = (name : List ℕ) (d : ℕ) → IsUnknownLine line name d → (name ≡ unknown) × (d ≡ highest)
