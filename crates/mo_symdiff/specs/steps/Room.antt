-- How much room lines take of the nodes and bytes that are left.
use Rattle.std.specs.Prelude.{ℕ, ◌≡◌, ◌+◌, ◌<◌, ◌⊎◌}

-- there are not as many nodes or bytes as are wanted
abbrev pub IsShort : ℕ → ℕ → ℕ → ℕ → Type 0
IsShort nodes bytes nodes_wanted bytes_wanted = (nodes < nodes_wanted) ⊎ (bytes < bytes_wanted)

-- what is left behind the wanted nodes and bytes
pub record IsPaid (nodes bytes nodes_wanted bytes_wanted nodes_left bytes_left : ℕ) : Type 0 where
  pub nodes_paid : nodes_left + nodes_wanted ≡ nodes
  pub bytes_paid : bytes_left + bytes_wanted ≡ bytes
