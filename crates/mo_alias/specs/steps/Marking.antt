-- Roots and signs by which joined unknowns are known: words that only proofs need.
use Rattle.std.specs.Prelude.{◌≡◌, ℕ, Bool, List, Option}
use Rattle.mo_alias.specs.declared.alias.Alias.{Alias}
use Rattle.mo_alias.specs.Chains.{IsJoined, IsLinkBelow, Says}
use Rattle.mo_alias.specs.Recognized.{sign_product}

-- each unknown is joined to its root by links among the first n equations, with its sign, and links join unknowns of one root
pub record IsMarked (said : List (Option Alias)) (n : ℕ) (root : ℕ → ℕ) (sign : ℕ → Bool) : Type 0 where
  pub joined : (u : ℕ) → IsJoined said n u (root u) (sign u)
  pub links : (e u v : ℕ) (minus : Bool) → IsLinkBelow said n e → Says said e u v minus → (root u ≡ root v) × (sign u ≡ sign_product minus (sign v))
