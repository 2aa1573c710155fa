-- Words on the search for the least unknown that an equation can have.
use Rattle.std.specs.Prelude.{◌≡◌, ℕ, ◌-◌, ◌<◌, ◌≤◌, ◌⊎◌, ◌==◌, if◌then◌else◌, List}
use Rattle.std.proofs.Common.{get_or, suc}
use Rattle.mo_incidence.specs.Counting.{sum_below}
use Rattle.mo_incidence.specs.Signature.{Signature, equations, row_len, unknown_at}
use Rattle.mo_match.specs.Searching.{UsesEntry, Uses, tight_of, IsTree, IsSearched, IsFree, IsHandedTo}
use Rattle.mo_match.specs.declared.matching.Matching.{Matching}
use Rattle.mo_match.specs.declared.search.Search.{Search}
use Rattle.mo_pantelides.specs.declared.seek.Fixing.{Fixing}
use Rattle.mo_pantelides.specs.declared.seek.Priced.{Priced}
use Rattle.mo_pantelides.specs.steps.Fixing.{IsRival, IsFixedTo}

-- The place of the queue whose equation is looked at next: that of the last one while some stand in a row, else that of the first one that
-- has entries left, and the root's where there is none.
pub record IsTurn (head loose tail place : ℕ) : Type 0 where
  pub last : loose < tail → suc place ≡ tail
  pub first : tail ≤ loose → head < tail → place ≡ head
  pub root : tail ≤ loose → tail ≤ head → place ≡ 0

-- The root is to have an unknown. The mark of an equation is one more than the number of its entries that were looked at. The equations
-- before place `head` of the queue, but for the root, have been looked at whole. Those from place `loose` on stand in a row: their entries
-- that may be used lead to their own unknowns, or to that of the next in the row.
pub record IsSeeking (g : Signature) (c d left pairs owner t queue parent mark : List ℕ) (root head loose tail : ℕ) : Type 0 where
  pub fixed : IsFixedTo g c d left pairs owner t root root
  pub tree : IsTree (Uses (tight_of g c left)) (equations g) pairs queue parent mark 0 tail
  pub first : get_or queue 0 0 ≡ root
  pub bare : get_or pairs root 0 ≡ 0
  pub unfixed : get_or t root 0 ≡ 0
  pub spare : (j : ℕ) × IsFree (tight_of g c left) owner root j
  pub order : (0 < head) × (head ≤ loose) × (loose ≤ tail)
  pub within : (x : ℕ) → x < equations g → get_or mark x 0 ≤ suc (row_len g x)
  pub ended : (s : ℕ) → 0 < s → s < head → get_or mark (get_or queue s 0) 0 ≡ suc (row_len g (get_or queue s 0))
  pub searched : (s : ℕ) → s < tail → IsSearched (tight_of g c left) owner mark (get_or queue s 0) (get_or mark (get_or queue s 0) 0 - 1)
  pub row : (s k : ℕ) → loose ≤ s → s < tail → k < get_or mark (get_or queue s 0) 0 - 1 → UsesEntry (tight_of g c left) (get_or queue s 0) k
      → (unknown_at g (get_or queue s 0) k ≡ get_or pairs (get_or queue s 0) 0)
      ⊎ ((suc s < tail) × (unknown_at g (get_or queue s 0) k ≡ get_or pairs (get_or queue (suc s) 0) 0))
  pub children : (s : ℕ) → 0 < s → s < tail → get_or parent s 0 ≡ 0
      → (n : ℕ) × (n < get_or mark root 0 - 1) × (get_or pairs (get_or queue s 0) 0 ≡ unknown_at g root n)
  pub low : (q : ℕ → ℕ) → IsRival g c d t root q → (n : ℕ) → n < get_or mark root 0 - 1 → unknown_at g root n ≤ q root

-- The equation at `place` of the queue may have unknown `free`, which none has. By handing unknowns on, the root gets the least one.
pub record IsFound (g : Signature) (c d left pairs owner t queue parent mark : List ℕ) (root place free tail : ℕ) : Type 0 where
  pub fixed : IsFixedTo g c d left pairs owner t root root
  pub tree : IsTree (Uses (tight_of g c left)) (equations g) pairs queue parent mark 0 tail
  pub first : get_or queue 0 0 ≡ root
  pub bare : get_or pairs root 0 ≡ 0
  pub unfixed : get_or t root 0 ≡ 0
  pub place_in : place < tail
  pub within : (x : ℕ) → x < equations g → get_or mark x 0 ≤ suc (row_len g x)
  pub free_there : IsFree (tight_of g c left) owner (get_or queue place 0) free
  pub low : (j : ℕ) → IsHandedTo pairs queue parent 0 tail place free j → (q : ℕ → ℕ) → IsRival g c d t root q → j ≤ q root

-- those by the lists
abbrev pub SeeksBy : Signature → Priced → Fixing → Matching → Search → (root head loose tail : ℕ) → Type 0
SeeksBy g p f m s root head loose tail =
    IsSeeking g p.c.now p.d.now f.left.now m.pairs.items m.owner.items f.fixed.now s.queue.items s.parent.items s.mark.items root head loose tail

abbrev pub FindsBy : Signature → Priced → Fixing → Matching → Search → (root place free tail : ℕ) → Type 0
FindsBy g p f m s root place free tail =
    IsFound g p.c.now p.d.now f.left.now m.pairs.items m.owner.items f.fixed.now s.queue.items s.parent.items s.mark.items root place free tail

-- how many entries of the equation at place x were looked at; all of one that is fixed
unfoldable pub looked_at : Signature → List ℕ → List ℕ → ℕ → ℕ
looked_at g t mark x = if get_or t x 0 == 0 then get_or mark x 0 - 1 else row_len g x

-- and of all equations together
unfoldable pub looked : Signature → List ℕ → List ℕ → ℕ
looked g t mark = sum_below (looked_at g t mark) (equations g)
