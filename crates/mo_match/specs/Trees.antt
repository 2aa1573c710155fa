-- What is said of the lists of a search.
use Rattle.std.specs.Prelude.{◌≡◌, ◌≢◌, ℕ, ◌<◌, ◌≤◌, List, length}
use Rattle.std.proofs.Common.{get_or}
use Rattle.mo_match.specs.Searching.{Bipartite, ClosedTo, Grows, HoldsTree, IsFree, IsHandedTo, Matches, Reaches}
use Rattle.mo_match.specs.declared.extend.Free.{Free}
use Rattle.mo_match.specs.declared.matching.Matching.{Matching}
use Rattle.mo_match.specs.declared.search.Search.{Search}

-- a tree stands in them from place base to place tail of the queue, where the equations have these unknowns
abbrev pub HasTree : Bipartite → List ℕ → Search → ℕ → ℕ → Type 0
HasTree b pairs s base tail = HoldsTree b pairs s.queue.items s.parent.items s.mark.items base tail

-- the equations before a place of the queue have been searched
abbrev pub IsClosedTo : Bipartite → List ℕ → Search → ℕ → Type 0
IsClosedTo b owner s upto = ClosedTo b owner s.mark.items s.queue.items upto

-- the queue and the marks only gain
abbrev pub Gains : Search → Search → ℕ → ℕ → Type 0
Gains s s' tail tail' = Grows s.queue.items s.mark.items s'.queue.items s'.mark.items tail tail'

-- there is room for so many equations
abbrev pub HasRoomFor : ℕ → Search → Type 0
HasRoomFor m s = (length s.queue.items ≡ m) × (length s.parent.items ≡ m) × (length s.mark.items ≡ m)

-- the queue goes on past a place
abbrev pub HasRoomAt : Search → ℕ → Type 0
HasRoomAt s place = (place < length s.queue.items) × (place < length s.parent.items)

-- equation x was put at the end of the queue, if it had no mark
abbrev pub ReachesBy : Search → ℕ → ℕ → ℕ → Search → ℕ → Type 0
ReachesBy s tail x head s' tail' = Reaches s.queue.items s.parent.items s.mark.items tail x head s'.queue.items s'.parent.items s'.mark.items tail'

-- each equation that has an unknown may have it, and no other equation has it
abbrev pub MatchesBy : Bipartite → Matching → Type 0
MatchesBy b m = Matches b m.pairs.items m.owner.items

-- the unknown of the equation at a place, or 0
abbrev pub unknown_in : Matching → ℕ → ℕ
unknown_in m place = get_or m.pairs.items place 0

-- there are as many equations and unknowns
abbrev pub HasSameSizes : Matching → Matching → Type 0
HasSameSizes m m' = (length m'.pairs.items ≡ length m.pairs.items) × (length m'.owner.items ≡ length m.owner.items)

-- the equation at a place of the queue may have an unknown that no equation has
abbrev pub IsFreeIn : Bipartite → Matching → Search → Free → Type 0
IsFreeIn b m s free = IsFree b m.owner.items (get_or s.queue.items free.place 0) free.unknown

-- the equation at place `base` of the queue gets an unknown by handing on from what is free
abbrev pub IsHandedOn : List ℕ → List ℕ → Search → ℕ → ℕ → Free → Type 0
IsHandedOn pairs pairs' s base tail free =
    IsHandedTo pairs s.queue.items s.parent.items base tail free.place free.unknown (get_or pairs' (get_or s.queue.items base 0) 0)

-- the equations before place `base` of the queue have the same unknowns
abbrev pub AreKeptBefore : List ℕ → List ℕ → Search → ℕ → Type 0
AreKeptBefore pairs pairs' s base = (t : ℕ) → t < base → get_or pairs' (get_or s.queue.items t 0) 0 ≡ get_or pairs (get_or s.queue.items t 0) 0

-- each equation that has an unknown still has one
abbrev pub StayAssigned : List ℕ → List ℕ → Type 0
StayAssigned pairs pairs' = (x : ℕ) → get_or pairs x 0 ≢ 0 → get_or pairs' x 0 ≢ 0

-- no equation without unknown but the one at place i gets one
abbrev pub IsBareElsewhere : List ℕ → List ℕ → ℕ → Type 0
IsBareElsewhere pairs pairs' i = (x : ℕ) → x ≢ i → get_or pairs x 0 ≡ 0 → get_or pairs' x 0 ≡ 0

-- no equation without unknown but the one at place `base` of the queue gets one
abbrev pub IsBareBut : List ℕ → List ℕ → Search → ℕ → Type 0
IsBareBut pairs pairs' s base = IsBareElsewhere pairs pairs' (get_or s.queue.items base 0)

-- equation x stands nowhere in the queue from place base to place tail
abbrev pub IsOutside : List ℕ → ℕ → ℕ → ℕ → Type 0
IsOutside queue base tail x = (t : ℕ) → base ≤ t → t < tail → get_or queue t 0 ≢ x

-- the marks of the equations in the queue from place base to place tail are taken back, and no others
pub record IsUnmarkedTo (queue mark mark' : List ℕ) (base tail : ℕ) : Type 0 where
  pub cleared : (t : ℕ) → base ≤ t → t < tail → get_or mark' (get_or queue t 0) 0 ≡ 0
  pub less : (x : ℕ) → get_or mark' x 0 ≢ 0 → get_or mark x 0 ≢ 0
  pub others : (x : ℕ) → IsOutside queue base tail x → get_or mark' x 0 ≡ get_or mark x 0
