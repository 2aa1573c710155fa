-- The lines of a text, the first that is not readable, and the first at which two texts differ.
use Rattle.std.specs.Prelude.{◌≡◌, ◌≢◌, ℕ, ◌+◌, ◌<◌, ◌≤◌, ◌==◌, List, [], ◌∷◌, length, if◌then◌else◌}
use Rattle.std.proofs.Common.{get_or, zero, suc}
use Rattle.mo_report_lines.specs.Grammar.{IsReadable}

-- a byte before the first line
abbrev pub before_first : ℕ → List (List ℕ) → List (List ℕ)
before_first b [] = (b ∷ []) ∷ []
before_first b (line ∷ lines) = (b ∷ line) ∷ lines

-- the lines of a text, each with the line feed that ends it; the last one may have none
abbrev pub lines_of : List ℕ → List (List ℕ)
lines_of [] = []
lines_of (b ∷ bs) = if b == 10 then (b ∷ []) ∷ lines_of bs else before_first b (lines_of bs)

-- line number n, from 1, and nothing past the last
abbrev pub line_at : List ℕ → ℕ → List ℕ
line_at text zero = []
line_at text (suc n) = get_or (lines_of text) n []

-- all lines are readable
abbrev pub AreReadable : List ℕ → Type 0
AreReadable text = (k : ℕ) → k < length (lines_of text) → IsReadable (get_or (lines_of text) k [])

-- line number n is the first one that is not readable
pub record IsFirstUnreadable (text : List ℕ) (n : ℕ) : Type 0 where
  pub some : 0 < n
  pub within : n ≤ length (lines_of text)
  pub before : (k : ℕ) → k + 1 < n → IsReadable (get_or (lines_of text) k [])
  pub here : IsReadable (line_at text n) → ⊥

-- line number n is the first one at which the texts differ, by these lines; where a text has no such line, it is nothing
pub record DifferFirst (printed wanted : List ℕ) (n : ℕ) (line other : List ℕ) : Type 0 where
  pub some : 0 < n
  pub before : (k : ℕ) → k + 1 < n → get_or (lines_of printed) k [] ≡ get_or (lines_of wanted) k []
  pub left : line ≡ line_at printed n
  pub right : other ≡ line_at wanted n
  pub apart : line ≢ other

-- a line without its line feed
abbrev pub without_feed : List ℕ → List ℕ
without_feed [] = []
without_feed (b ∷ bs) = if b == 10 then [] else b ∷ without_feed bs
