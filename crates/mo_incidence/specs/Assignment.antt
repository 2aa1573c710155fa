-- Assignments of unknowns to equations, the largest of them, and what one of these leaves out.
-- An assignment is a function from the places of equations to numbers of unknowns, with 0 for none. The equations that some
-- largest assignment leaves out are the structurally singular part of Pantelides (C. C. Pantelides, The consistent
-- initialization of differential-algebraic systems, SIAM J. Sci. Stat. Comput. 9, 1988) and the overdetermined part of
-- Dulmage and Mendelsohn (Coverings of bipartite graphs, Canad. J. Math. 10, 1958).
use Rattle.std.specs.Prelude.{◌≡◌, ◌≢◌, ℕ, ◌+◌, ◌<◌, ◌≤◌, List, length}
use Rattle.std.proofs.Common.{suc}
use Rattle.mo_graph.specs.Counting.{count_below}
pub use Rattle.mo_graph.specs.Lists.{ListsWhere}
use Rattle.mo_incidence.specs.Signature.{Signature, equations, row_len, unknown_at}

-- the equation at place i mentions unknown j
unfoldable pub Mentions : Signature → ℕ → ℕ → Type 0
Mentions g i j = (k : ℕ) × (k < row_len g i) × (unknown_at g i k ≡ j)

-- q gives distinct unknowns to distinct equations among the first m, each one that its equation allows
pub record Assigns (Allows : ℕ → ℕ → Type 0) (m : ℕ) (q : ℕ → ℕ) : Type 0 where
  pub allowed : (i : ℕ) → i < m → q i ≢ 0 → Allows i (q i)
  pub apart : (i k : ℕ) → i < m → k < m → q i ≢ 0 → q i ≡ q k → i ≡ k

-- distinct mentioned unknowns for distinct equations
abbrev pub IsAssignment : Signature → (ℕ → ℕ) → Type 0
IsAssignment g q = Assigns (Mentions g) (equations g) q

-- every equation has an unknown
abbrev pub CoversAll : Signature → (ℕ → ℕ) → Type 0
CoversAll g q = (i : ℕ) → i < equations g → q i ≢ 0

-- no assignment covers more equations
pub record IsLargest (g : Signature) (q : ℕ → ℕ) : Type 0 where
  pub assigns : IsAssignment g q
  pub most : (r : ℕ → ℕ) → IsAssignment g r → count_below r (equations g) ≤ count_below q (equations g)

-- some largest assignment leaves the equation at place i out
abbrev pub IsInDeficit : Signature → ℕ → Type 0
IsInDeficit g i = (q : ℕ → ℕ) × IsLargest g q × (q i ≡ 0)

-- some assignment covers every equation
abbrev pub CanCoverAll : Signature → Type 0
CanCoverAll g = (q : ℕ → ℕ) × IsAssignment g q × CoversAll g q

-- some assignment that covers every equation leaves unknown j out
abbrev pub IsUndetermined : Signature → ℕ → Type 0
IsUndetermined g j = (q : ℕ → ℕ) × IsAssignment g q × CoversAll g q × ((i : ℕ) → i < equations g → q i ≢ j)

-- equation number x is in the deficit
abbrev pub IsDeficient : Signature → ℕ → Type 0
IsDeficient g x = (i : ℕ) × (x ≡ suc i) × IsInDeficit g i

-- some equation of the deficit mentions unknown j
abbrev pub IsMentionedInDeficit : Signature → ℕ → Type 0
IsMentionedInDeficit g j = (i : ℕ) × (i < equations g) × IsInDeficit g i × Mentions g i j

-- the two lists are the deficit and the unknowns that it mentions, of which there are k fewer
pub record IsDeficit (g : Signature) (deficient mentioned : List ℕ) (k : ℕ) : Type 0 where
  pub equations : ListsWhere (IsDeficient g) (equations g) deficient
  pub unknowns : ListsWhere (IsMentionedInDeficit g) g.unknowns mentioned
  pub excess : length deficient ≡ length mentioned + k
