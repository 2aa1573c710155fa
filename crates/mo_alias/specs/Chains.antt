-- Chains of alias equations, and which of these are links: in flat order, each that joins unknowns that were not joined. The links are a
-- spanning forest of the unknowns (J. B. Kruskal, On the shortest spanning subtree of a graph, Proc. AMS 7, 1956), with a sign at each edge.
use Rattle.std.specs.Prelude.{◌≡◌, ℕ, zero, suc, ◌⊎◌, Bool, false, not, List, [], ◌∷◌, Option, Some, None, get_or}
use Rattle.mo_alias.specs.declared.alias.Alias.{Alias}
use Rattle.mo_alias.specs.Recognized.{sign_product}

-- the alias equation with e equations before it says this of two unknowns, read from either side
pub data Says (said : List (Option Alias)) (e : ℕ) : ℕ → ℕ → Bool → Type 0 where
  forth : {u v : ℕ} {minus : Bool} (a : Alias) → get_or said e None ≡ Some a → a.left ≡ u → a.right ≡ v → a.minus ≡ minus → Says said e u v minus
  back : {u v : ℕ} {minus : Bool} (a : Alias) → get_or said e None ≡ Some a → a.right ≡ u → a.left ≡ v → a.minus ≡ minus → Says said e u v minus

-- A chain of links from one unknown to another, with the product of their signs. The empty chain says plus.
pub data Chain (said : List (Option Alias)) (IsLink : ℕ → Type 0) : ℕ → ℕ → Bool → List ℕ → Type 0 where
  none : {u : ℕ} → Chain said IsLink u u false []
  link : {u v w : ℕ} {minus rest : Bool} {es : List ℕ} (e : ℕ) → IsLink e → Says said e u v minus → Chain said IsLink v w rest es → Chain said IsLink u w (sign_product minus rest) (e ∷ es)

-- an alias equation whose unknowns no chain of such links joins
pub record IsNew (said : List (Option Alias)) (IsLink : ℕ → Type 0) (e : ℕ) : Type 0 where
  pub alias : Alias
  pub is : get_or said e None ≡ Some alias
  pub apart : (minus : Bool) (es : List ℕ) → Chain said IsLink alias.left alias.right minus es → ⊥

-- the links among the first n equations: an equation is one if no chain of earlier links joins its unknowns
abbrev pub IsLinkBelow : List (Option Alias) → ℕ → ℕ → Type 0
IsLinkBelow said zero e = ⊥
IsLinkBelow said (suc n) e = IsLinkBelow said n e ⊎ (e ≡ n) × IsNew said (IsLinkBelow said n) n

-- a chain of links among the first n equations joins two unknowns, and says plus or minus
abbrev pub IsJoined : List (Option Alias) → ℕ → ℕ → ℕ → Bool → Type 0
IsJoined said n u v minus = (es : List ℕ) × Chain said (IsLinkBelow said n) u v minus es

-- all chains of links among the first n equations that join two unknowns say one thing
abbrev pub SayOneSign : List (Option Alias) → ℕ → ℕ → ℕ → Type 0
SayOneSign said n u v = (one other : Bool) → IsJoined said n u v one → IsJoined said n u v other → one ≡ other

-- a link
abbrev pub IsLink : List (Option Alias) → ℕ → Type 0
IsLink said e = IsNew said (IsLinkBelow said e) e

-- an alias equation that closes a chain of earlier links, and says what that says
pub record Agrees (said : List (Option Alias)) (e : ℕ) : Type 0 where
  pub alias : Alias
  pub is : get_or said e None ≡ Some alias
  pub chain : IsJoined said e alias.left alias.right alias.minus

-- an alias equation that closes a chain of earlier links, and says the other sign
pub record Contradicts (said : List (Option Alias)) (e : ℕ) : Type 0 where
  pub alias : Alias
  pub is : get_or said e None ≡ Some alias
  pub chain : IsJoined said e alias.left alias.right (not alias.minus)
