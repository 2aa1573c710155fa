-- Where a name ends in a printed path (Modelica Language Specification 3.5, sections 2.3.1 and 10.5).
use Rattle.std.specs.Prelude.{◌≡◌, ℕ, Bool, true, ◌==◌, ◌||◌, not, List, [], ◌∷◌, ◌++◌, IsTrue}
use Rattle.std.specs.List.{list_all}
use Rattle.mo_syntax.specs.SoundTree.{Naming}

-- a dot, which stands before the next name, or a bracket, which stands before indices
abbrev pub is_mark : ℕ → Bool
is_mark b = (b == 46) || (b == 91)

-- what may stand behind a name: nothing, or a dot or a bracket with what follows
abbrev pub ends_name : List ℕ → Bool
ends_name [] = true
ends_name (b ∷ others) = is_mark b

-- Of two names that pass none goes on where the other one ends: a text has at most one of them in front that ends there. An identifier in
-- quotes may hold dots and brackets, and its quotes tell where it ends.
pub record IsDelimited (naming : Naming) : Type 0 where
  pub one : (name other behind rest : List ℕ) → IsTrue (naming name) → IsTrue (naming other) → IsTrue (ends_name behind) → IsTrue (ends_name rest) →
      name ++ behind ≡ other ++ rest → name ≡ other

-- a name without dots and opening brackets
abbrev pub is_unmarked : Naming
is_unmarked name = list_all (λ b. not (is_mark b)) name
