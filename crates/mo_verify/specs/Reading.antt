-- The lines of equations and unknowns of a printed report, and what they say.
use Rattle.std.specs.Prelude.{◌≡◌, ℕ, ◌+◌, ◌<◌, List, [], ◌∷◌, Option, Some, None, length, if◌then◌else◌, option_map}
use Rattle.std.specs.Str.{bytes_eq}
use Rattle.std.proofs.Common.{get_or}
use Rattle.mo_report_lines.specs.Grammar.{IsEquationLine, IsUnknownLine}
use Rattle.mo_report_lines.specs.Lines.{line_at, without_feed}
use Rattle.mo_verify.specs.Printed.{Printed}

-- line number n without its line feed, and nothing where there is none
abbrev pub text_at : List ℕ → ℕ → List ℕ
text_at report n = without_feed (line_at report n)

-- the number of the unknown with this name, from 1
abbrev pub number_of : List (List ℕ) → List ℕ → Option ℕ
number_of [] name = None
number_of (other ∷ names) name = if bytes_eq other name then Some 1 else option_map (λ j. j + 1) (number_of names name)

-- the text is the line of the equation with this number, and says this
pub record IsEquationText (names : List (List ℕ)) (text : List ℕ) (number c pair order : ℕ) : Type 0 where
  pub name : List ℕ
  pub line : IsEquationLine text number c name order
  pub is_number : number_of names name ≡ Some pair

-- line 3 + i is that of equation number i + 1, and says this
abbrev pub IsEquationAt : List (List ℕ) → List ℕ → (i c pair order : ℕ) → Type 0
IsEquationAt names report i c pair order = IsEquationText names (text_at report (i + 3)) (i + 1) c pair order

-- line 3 + m + j is that of unknown number j + 1 where there are m equations, and says this
abbrev pub IsUnknownAt : List (List ℕ) → List ℕ → ℕ → ℕ → ℕ → Type 0
IsUnknownAt names report m j d = IsUnknownLine (text_at report (m + j + 3)) (get_or names j []) d

-- the lines of the first k of m equations and all unknowns say what is printed
pub record ArePrintedTo (names : List (List ℕ)) (m : ℕ) (report : List ℕ) (p : Printed) (k : ℕ) : Type 0 where
  pub equation : (i : ℕ) → i < m → i < k → IsEquationAt names report i (get_or p.c i 0) (get_or p.pairs i 0) (get_or p.orders i 0)
  pub unknown : (j : ℕ) → j < length names → m + j < k → IsUnknownAt names report m j (get_or p.d j 0)

-- all of them do
pub record ArePrinted (names : List (List ℕ)) (m : ℕ) (report : List ℕ) (p : Printed) : Type 0 where
  pub c_all : length p.c ≡ m
  pub pairs_all : length p.pairs ≡ m
  pub orders_all : length p.orders ≡ m
  pub d_all : length p.d ≡ length names
  pub lines : ArePrintedTo names m report p (m + length names)

-- line 3 + k has another shape: it is neither that of equation number k + 1 with the name of an unknown, nor that of the unknown whose turn
-- it is
pub record IsMisshapen (names : List (List ℕ)) (m : ℕ) (report : List ℕ) (k : ℕ) : Type 0 where
  pub within : k < m + length names
  pub equation : k < m → (c pair order : ℕ) → IsEquationAt names report k c pair order → ⊥
  pub unknown : (j : ℕ) → k ≡ m + j → (d : ℕ) → IsUnknownAt names report m j d → ⊥
