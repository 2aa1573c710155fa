-- Words on fixing the unknowns of equations one after another.
use Rattle.std.specs.Prelude.{◌≡◌, ◌≢◌, ℕ, ◌+◌, ◌-◌, ◌<◌, ◌≤◌, List, length}
use Rattle.std.proofs.Common.{get_or}
use Rattle.mo_incidence.specs.Signature.{Signature, equations, row_len, order_at}
use Rattle.mo_incidence.specs.Assignment.{Assigns, CoversAll}
use Rattle.mo_incidence.specs.Offsets.{IsTight, by_place, by_number}
use Rattle.mo_match.specs.Searching.{Uses, tight_of, IsMatching}
use Rattle.mo_match.specs.declared.matching.Matching.{Matching}
use Rattle.mo_pantelides.specs.declared.seek.Fixing.{Fixing}
use Rattle.mo_pantelides.specs.declared.seek.Priced.{Priced}

-- an unknown with this number in place of its offset is tight nowhere
abbrev pub taken : ℕ
taken = 4294967295

-- no entry is tight at an unknown that was taken
pub record AreOpen (g : Signature) (c : List ℕ) : Type 0 where
  pub entry : (i k : ℕ) → i < equations g → k < row_len g i → get_or c i 0 + order_at g i k < taken

-- q assigns all equations by tight entries, and those before place r as t does
pub record IsRival (g : Signature) (c d t : List ℕ) (r : ℕ) (q : ℕ → ℕ) : Type 0 where
  pub assigns : Assigns (IsTight g (by_place c) (by_number d)) (equations g) q
  pub covers : CoversAll g q
  pub same : (y : ℕ) → y < r → q y ≡ get_or t y 0

-- The equations with an unknown in t have it for good, those before place r the least ones and the others the only ones that are left for
-- them. They take part in no search: they have none among the pairs, and `left` has d, but for the unknowns that were taken. All others
-- have one among the pairs, but for the one at place `bare`.
pub record IsFixedTo (g : Signature) (c d left pairs owner t : List ℕ) (r bare : ℕ) : Type 0 where
  pub left_all : length left ≡ g.unknowns
  pub fixed_all : length t ≡ equations g
  pub matching : IsMatching (Uses (tight_of g c left)) (equations g) g.unknowns pairs owner
  pub rest : (x : ℕ) → x < equations g → x ≢ bare → get_or t x 0 ≡ 0 → get_or pairs x 0 ≢ 0
  pub done : (x : ℕ) → x < equations g → get_or t x 0 ≢ 0 → get_or pairs x 0 ≡ 0
  pub before : (x : ℕ) → x < r → get_or t x 0 ≢ 0
  pub closed : (x : ℕ) → x < equations g → get_or t x 0 ≢ 0 → get_or left (get_or t x 0 - 1) 0 ≡ taken
  pub others : (j : ℕ) → 0 < j → j ≤ g.unknowns → ((x : ℕ) → x < equations g → get_or t x 0 ≢ j) → get_or left (j - 1) 0 ≡ get_or d (j - 1) 0
  pub assigns : Assigns (IsTight g (by_place c) (by_number d)) (equations g) (by_place t)
  pub forced : (x : ℕ) → x < equations g → get_or t x 0 ≢ 0 → (q : ℕ → ℕ) → IsRival g c d t r q → q x ≡ get_or t x 0
  pub least : (x : ℕ) → x < r → (q : ℕ → ℕ) → IsRival g c d t x q → get_or t x 0 ≤ q x

-- that by the lists
abbrev pub FixesBy : Signature → Priced → Fixing → Matching → (r bare : ℕ) → Type 0
FixesBy g p f m r bare = IsFixedTo g p.c.now p.d.now f.left.now m.pairs.items m.owner.items f.fixed.now r bare

-- they are the same lists, whatever stands in them
abbrev pub IsSameFixing : Fixing → Fixing → Type 0
IsSameFixing f f' = (f'.left.ghost_name ≡ f.left.ghost_name) × (f'.fixed.ghost_name ≡ f.fixed.ghost_name)
