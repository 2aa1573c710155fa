-- Words on what is found wrong with printed orders, offsets and pairs, and on chains of reasons.
use Rattle.std.specs.Prelude.{◌≡◌, ◌≢◌, Bool, true, false, ℕ, ◌+◌, ◌<◌, ◌≤◌, List, [], ◌∷◌, ◌++◌, if◌then◌else◌, Option, Some, None, length}
use Rattle.std.proofs.Common.{get_or, set}
use Rattle.mo_incidence.specs.Signature.{Signature, equations, row_len, unknown_at, order_at}
use Rattle.mo_incidence.specs.Offsets.{by_place, by_number}
use Rattle.mo_incidence.specs.Reasons.{LeadsTo}
use Rattle.mo_verify.specs.declared.seen.Seen.{Seen}
use Rattle.mo_verify.specs.declared.verdict.Verdict.{Verdict}
use Rattle.mo_verify.specs.declared.verdict.Verdict.TheVariants.{Order, Low, Loose, Twice, NotLeast}
use Rattle.mo_verify.specs.Printed.{Printed}
use Rattle.mo_verify.specs.Faults.{IsSigma, HaveOrders, IsLowAt, FitTo, IsLooseAt, MeetTo, AreApartTo, IsChained, AreChainedTo, HasOffset}

-- the lists that are printed
abbrev pub printed_in : Seen → Printed
printed_in seen = record { c = seen.c.now; d = seen.d.now; pairs = seen.pairs.now; orders = seen.orders.now }

-- ---- faults
-- the lists have their lengths, and each pair is an unknown
pub record HaveSizes (g : Signature) (p : Printed) : Type 0 where
  pub c_all : length p.c ≡ equations g
  pub d_all : length p.d ≡ g.unknowns
  pub pairs_all : length p.pairs ≡ equations g
  pub orders_all : length p.orders ≡ equations g
  pub known : (i : ℕ) → i < equations g → (0 < get_or p.pairs i 0) × (get_or p.pairs i 0 ≤ g.unknowns)

pub record IsOrderFault (g : Signature) (p : Printed) (verdict : Verdict) : Type 0 where
  pub place : ℕ
  pub found : Option ℕ
  pub within : place < equations g
  pub before : HaveOrders g p place
  pub sigma : IsSigma g place (get_or p.pairs place 0) found
  pub apart : found ≢ Some (get_or p.orders place 0)
  pub is : verdict ≡ Order (place + 1) (get_or p.pairs place 0) (get_or p.orders place 0) found

pub record IsLowFault (g : Signature) (p : Printed) (verdict : Verdict) : Type 0 where
  pub place : ℕ
  pub entry : ℕ
  pub within : (place < equations g) × (entry < row_len g place)
  pub before : FitTo g p place entry
  pub low : IsLowAt g p place entry
  pub is : verdict ≡ Low (place + 1) (unknown_at g place entry) (order_at g place entry) (get_or p.c place 0) (by_number p.d (unknown_at g place entry))

pub record IsLooseFault (g : Signature) (p : Printed) (verdict : Verdict) : Type 0 where
  pub place : ℕ
  pub within : place < equations g
  pub before : MeetTo p place
  pub loose : IsLooseAt p place
  pub is : verdict ≡ Loose (place + 1) (get_or p.pairs place 0) (get_or p.orders place 0) (get_or p.c place 0) (by_number p.d (get_or p.pairs place 0))

pub record IsTwiceFault (g : Signature) (p : Printed) (verdict : Verdict) : Type 0 where
  pub first : ℕ
  pub second : ℕ
  pub within : (first < second) × (second < equations g)
  pub before : AreApartTo p second
  pub same : get_or p.pairs first 0 ≡ get_or p.pairs second 0
  pub is : verdict ≡ Twice (first + 1) (second + 1) (get_or p.pairs second 0)

-- the first of these faults, in this order
pub data IsFirstFault (g : Signature) (p : Printed) (verdict : Verdict) : Type 0 where
  order : IsOrderFault g p verdict → IsFirstFault g p verdict
  low : HaveOrders g p (equations g) → IsLowFault g p verdict → IsFirstFault g p verdict
  loose : HaveOrders g p (equations g) → FitTo g p (equations g) 0 → IsLooseFault g p verdict → IsFirstFault g p verdict
  twice : HaveOrders g p (equations g) → FitTo g p (equations g) 0 → MeetTo p (equations g) → IsTwiceFault g p verdict → IsFirstFault g p verdict

pub record HasNoFault (g : Signature) (p : Printed) : Type 0 where
  pub orders : HaveOrders g p (equations g)
  pub fit : FitTo g p (equations g) 0
  pub meet : MeetTo p (equations g)
  pub apart : AreApartTo p (equations g)

-- ---- chains
-- the first equation from which no chain leads to an offset of 0
pub record IsUnchained (g : Signature) (p : Printed) (verdict : Verdict) : Type 0 where
  pub place : ℕ
  pub smaller : ℕ
  pub within : place < equations g
  pub before : AreChainedTo g p place
  pub none : IsChained g p place → ⊥
  pub offset : get_or p.c place 0 ≡ smaller + 1
  pub is : verdict ≡ NotLeast (place + 1) (get_or p.c place 0) smaller

-- besides, some admissible offsets have the smaller one there
pub record IsNotLeast (g : Signature) (p : Printed) (verdict : Verdict) : Type 0 where
  pub unchained : IsUnchained g p verdict
  pub less : HasOffset g unchained.place unchained.smaller

-- the first n entries of the equation at place k make it a candidate only for marked ones
pub record AreMarkedBy (g : Signature) (p : Printed) (marks : List Bool) (k n : ℕ) : Type 0 where
  pub here : (e i : ℕ) → e < n → i < equations g → LeadsTo g (by_place p.c) (by_number p.d) (by_place p.pairs) k e i → get_or marks i false ≡ true

-- The equations in the queue are the marked ones. Each has a chain, those before `head` have marked all that they are candidates for, and
-- of the first `upto` those with an offset of 0 are marked.
pub record IsMarkedTo (g : Signature) (p : Printed) (marks : List Bool) (queue : List ℕ) (head upto : ℕ) : Type 0 where
  pub marks_all : length marks ≡ equations g
  pub within : head ≤ length queue
  pub queued : (s : ℕ) → s < length queue → (get_or queue s 0 < equations g) × (get_or marks (get_or queue s 0) false ≡ true)
  pub listed : (i : ℕ) → get_or marks i false ≡ true → (s : ℕ) × (s < length queue) × (get_or queue s 0 ≡ i)
  pub chained : (s : ℕ) → s < length queue → IsChained g p (get_or queue s 0)
  pub zeros : (i : ℕ) → i < upto → get_or p.c i 0 ≡ 0 → get_or marks i false ≡ true
  pub done : (s : ℕ) → s < head → AreMarkedBy g p marks (get_or queue s 0) (row_len g (get_or queue s 0))

-- the equation at this place, if there is one, is marked and stands at the end of the queue if it had no mark before
pub data Marks (marks : List Bool) (queue : List ℕ) (place : Option ℕ) (marks' : List Bool) (queue' : List ℕ) : Type 0 where
  nothing : place ≡ None → marks' ≡ marks → queue' ≡ queue → Marks marks queue place marks' queue'
  already : (i : ℕ) → place ≡ Some i → get_or marks i false ≡ true → marks' ≡ marks → queue' ≡ queue → Marks marks queue place marks' queue'
  one_more : (i : ℕ) → place ≡ Some i → get_or marks i false ≡ false → marks' ≡ set marks i true → queue' ≡ queue ++ i ∷ [] → Marks marks queue place marks' queue'

-- how many have no mark
abbrev pub unmarked : List Bool → ℕ
unmarked [] = 0
unmarked (m ∷ ms) = if m then unmarked ms else 1 + unmarked ms
