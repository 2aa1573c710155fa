-- What is found of aliases: which unknowns are others, which equations say no more than that, and which contradict.
use Rattle.std.specs.Prelude.{◌≡◌, ℕ, ◌-◌, ◌<◌, ◌≤◌, ◌⊎◌, Bool, not, List, [], Option, Some, None, Contains, get_or, length, map}
use Rattle.std.specs.List.Sorted.{IsStrictlyIncreasing}
use Rattle.mo_flat.specs.declared.model.FlatModel.{FlatModel}
use Rattle.mo_graph.specs.Lists.{ListsWhere}
use Rattle.mo_alias.specs.declared.alias.Alias.{Alias}
use Rattle.mo_alias.specs.declared.found.Aliases.{Aliases}
use Rattle.mo_alias.specs.declared.found.Gone.{Gone}
use Rattle.mo_alias.specs.Recognized.{aliases_in}
use Rattle.mo_alias.specs.Chains.{Agrees, Chain, Contradicts, IsJoined, IsLink, IsLinkBelow}

module _ (said : List (Option Alias)) where
  -- links join two unknowns, and say plus or minus
  abbrev pub IsAlias : ℕ → ℕ → Bool → Type 0
  IsAlias = IsJoined said (length said)

  -- an unknown that is another of lesser number, the least that it is joined to
  pub record IsGone (g : Gone) : Type 0 where
    pub lesser : g.of < g.unknown
    pub joined : IsAlias g.unknown g.of g.minus
    pub least : (v : ℕ) (minus : Bool) → IsAlias g.unknown v minus → g.of ≤ v

  -- the list ascends, and has each unknown that links join to one of lesser number
  pub record AreGone (gone : List Gone) : Type 0 where
    pub ascending : IsStrictlyIncreasing (map (λ g. g.unknown) gone)
    pub only : (g : Gone) → Contains gone g → IsGone g
    pub all : (u v : ℕ) (minus : Bool) → v < u → IsAlias u v minus → Contains (map (λ g. g.unknown) gone) u

  -- the equation of that number, from 1, says nothing else of the unknowns: it is a link, or agrees
  abbrev pub IsSpare : ℕ → Type 0
  IsSpare i = IsLink said (i - 1) ⊎ Agrees said (i - 1)

  abbrev pub AreDropped : List ℕ → Type 0
  AreDropped = ListsWhere IsSpare (length said)

  -- a contradicting equation by its number, and the links of the chain that it closes, no link twice
  pub record IsLoop (i : ℕ) (loop : List ℕ) : Type 0 where
    pub alias : Alias
    pub is : get_or said (i - 1) None ≡ Some alias
    pub links : List ℕ
    pub chain : Chain said (IsLinkBelow said (i - 1)) alias.left alias.right (not alias.minus) links
    pub once : (j k : ℕ) → j < length links → k < length links → get_or links j 0 ≡ get_or links k 0 → j ≡ k
    pub members : ListsWhere (λ x. (x ≡ i) ⊎ Contains links (x - 1)) (length said) loop

  -- a loop for each contradicting equation, in flat order
  pub record AreLoops (loops : List (List ℕ)) : Type 0 where
    pub contradicting : List ℕ
    pub all : ListsWhere (λ i. Contradicts said (i - 1)) (length said) contradicting
    pub count : length loops ≡ length contradicting
    pub loop : (k : ℕ) → k < length loops → IsLoop (get_or contradicting k 0) (get_or loops k [])

-- what is found in a model
pub record AreAliases (m : FlatModel) (a : Aliases) : Type 0 where
  pub gone : AreGone (aliases_in m) a.gone
  pub dropped : AreDropped (aliases_in m) a.dropped
  pub loops : AreLoops (aliases_in m) a.loops
