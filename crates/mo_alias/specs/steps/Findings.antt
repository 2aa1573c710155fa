-- What equations are to those before them: words that only inner contracts need.
use Rattle.std.specs.Prelude.{◌≡◌, ℕ, ◌-◌, ◌<◌, Bool, true, false, List, [], Option, None, get_or, length}
use Rattle.mo_graph.specs.Lists.{ListsWhere}
use Rattle.mo_alias.specs.declared.alias.Alias.{Alias}
use Rattle.mo_alias.specs.declared.classify.Finding.{Finding}
use Rattle.mo_alias.specs.Aliases.{IsLoop}
use Rattle.mo_alias.specs.Chains.{Agrees, Contradicts, IsLink}

abbrev pub IsFinding : List (Option Alias) → ℕ → Finding → Type 0
IsFinding said e Finding.Other = get_or said e None ≡ None
IsFinding said e Finding.Link = IsLink said e
IsFinding said e Finding.Agrees = Agrees said e
IsFinding said e Finding.Contradicts = Contradicts said e

-- of the first n equations
abbrev pub AreFindings : List (Option Alias) → ℕ → List Finding → Type 0
AreFindings said n findings = (length findings ≡ n) × ((e : ℕ) → e < n → IsFinding said e (get_or findings e Finding.Other))

-- it says no more than which unknowns are others
abbrev pub is_spare : Finding → Bool
is_spare Finding.Link = true
is_spare Finding.Agrees = true
is_spare _ = false

-- what an equation says, if it contradicts
abbrev pub contradicting : Finding → Option Alias → Option Alias
contradicting Finding.Contradicts said = said
contradicting _ said = None

-- a loop for each contradicting equation among the first n
pub record AreLoopsTo (said : List (Option Alias)) (n : ℕ) (loops : List (List ℕ)) : Type 0 where
  pub contradicting : List ℕ
  pub all : ListsWhere (λ i. Contradicts said (i - 1)) n contradicting
  pub count : length loops ≡ length contradicting
  pub loop : (k : ℕ) → k < length loops → IsLoop said (get_or contradicting k 0) (get_or loops k [])
