-- When two connectors may be connected, and the rule that a connect breaks (Modelica Language Specification 3.5, section 9.3).
use Rattle.std.specs.Prelude.{◌≡◌, ◌≢◌, ℕ, ◌<◌, List, length, slice_index_or, All, Any}
use Rattle.mo_syntax.specs.Outcome.{breach}
use Rattle.mo_syntax.specs.declared.place.Broken.{Broken}
use Rattle.mo_flat.specs.declared.connect.Connect.{Connect}
use Rattle.mo_flat.specs.declared.connect.EndLeaf.{EndLeaf}
use Rattle.mo_flat.specs.declared.connect.Side.TheVariants.{Neither}
use Rattle.mo_syntax.specs.declared.rules.TheConstants.{NOT_A_CONNECTOR, WRONG_SIZE, CONNECTORS_DIFFER}

-- two leaves have the same name below their connectors and the same flow prefix
pub record Corresponds (l r : EndLeaf) : Type 0 where
  pub below : l.below ≡ r.below
  pub flow : l.flow ≡ r.flow

-- each leaf of the one has a corresponding leaf in the other
abbrev pub HavePartners : List EndLeaf → List EndLeaf → Type 0
HavePartners leaves others = All (λ leaf. Any (Corresponds leaf) others) leaves

-- two connectors have corresponding leaves
pub record AreAlike (left right : List EndLeaf) : Type 0 where
  pub forth : HavePartners left right
  pub back : HavePartners right left

-- the connectors at the same places of two arrays are alike
abbrev pub AllAlike : List (List EndLeaf) → List (List EndLeaf) → Type 0
AllAlike lefts rights =
    (k : ℕ) (d e : List EndLeaf) → k < length lefts → k < length rights → AreAlike (slice_index_or lefts k d) (slice_index_or rights k e)

pub record AreConnectors (c : Connect) : Type 0 where
  pub left : c.left.side ≢ Neither
  pub right : c.right.side ≢ Neither

-- a connect that breaks no rule: between connectors, of equal dimensions, alike element by element
pub record IsConnectable (c : Connect) : Type 0 where
  pub connectors : AreConnectors c
  pub sizes : c.left.dims ≡ c.right.dims
  pub alike : AllAlike c.left.elements c.right.elements

-- the first rule that a connect breaks: 37 at an end that is no connector, 31 where the dimensions differ, 38 where the
-- connectors do
pub data Breaks (c : Connect) (b : Broken) : Type 0 where
  left_end : c.left.side ≡ Neither → b ≡ breach NOT_A_CONNECTOR c.left.place → Breaks c b
  right_end : c.left.side ≢ Neither → c.right.side ≡ Neither → b ≡ breach NOT_A_CONNECTOR c.right.place → Breaks c b
  sizes : AreConnectors c → c.left.dims ≢ c.right.dims → b ≡ breach WRONG_SIZE c.place → Breaks c b
  leaves : AreConnectors c → c.left.dims ≡ c.right.dims → (AllAlike c.left.elements c.right.elements → ⊥)
      → b ≡ breach CONNECTORS_DIFFER c.place → Breaks c b

-- the first broken rule of connects in their order
pub record IsFirstBroken (connects : List Connect) (b : Broken) : Type 0 where
  pub at : ℕ
  pub connect : Connect
  pub within : at < length connects
  pub is : slice_index_or connects at connect ≡ connect
  pub breaks : Breaks connect b
  pub before : (k : ℕ) (d : Connect) → k < at → IsConnectable (slice_index_or connects k d)
