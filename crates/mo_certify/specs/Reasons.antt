-- Reasons that show offsets to be least.
use Rattle.std.specs.Prelude.{◌≡◌, ◌≢◌, ◌==◌, ℕ, ◌+◌, ◌-◌, ◌<◌, ◌≤◌, if◌then◌else◌, List, [], ◌∷◌}
use Rattle.std.proofs.Common.{get_or}
use Rattle.mo_incidence.specs.declared.findings.Offsets.{Offsets}
use Rattle.mo_incidence.specs.declared.findings.Reason.{Reason}
use Rattle.mo_incidence.specs.Signature.{Signature, equations}
use Rattle.mo_incidence.specs.Offsets.{AreReasons, IsTight, after_reasons, by_place, by_number}
use Rattle.mo_certify.specs.Offsets.{AreOffsets}

-- the number that the first listed reason of equation number x gives, 0 where none is listed
abbrev pub first_reason : List Reason → ℕ → ℕ
first_reason [] x = 0
first_reason (reason ∷ reasons) x = if reason.equation == x then reason.from else first_reason reasons x

-- the same by places
abbrev pub reason_of : List Reason → ℕ → ℕ
reason_of reasons i = first_reason reasons (i + 1) - 1

-- The lists are offsets with tight pairs of a square system, the first listed reason of each equation with an offset above 0 is
-- another equation that is tight at its unknown, and following first reasons ends at an offset of 0.
pub record AreShownLeast (g : Signature) (c d pairs : List ℕ) (reasons : List Reason) : Type 0 where
  pub offsets : AreOffsets g c d pairs
  pub square : equations g ≡ g.unknowns
  pub given : (i : ℕ) → i < equations g → by_place c i ≢ 0 → first_reason reasons (i + 1) ≢ 0
  pub lead_to_zero : AreReasons g (by_place c) (by_number d) (by_place pairs) (reason_of reasons)

-- equation number `from` is another one than number `row`, and is tight at this unknown
pub record IsReasonAt (g : Signature) (c d : List ℕ) (row from unknown : ℕ) : Type 0 where
  pub known : (0 < from) × (from ≤ equations g)
  pub other : from ≢ row
  pub tight : IsTight g (by_place c) (by_number d) (from - 1) unknown

-- the place of the equation that a list by numbers names
abbrev pub named : List ℕ → ℕ → ℕ
named from i = get_or from (i + 1) 0 - 1

-- following reasons ends at an offset of 0
abbrev pub LeadsToZero : (c r : ℕ → ℕ) → ℕ → Type 0
LeadsToZero c r i = (n : ℕ) × (c (after_reasons r n i) ≡ 0)

-- the list by numbers names a reason for each equation before place n with an offset above 0
abbrev pub AreReasonsBy : Signature → (c d pairs from : List ℕ) → ℕ → Type 0
AreReasonsBy g c d pairs from n = (i : ℕ) → i < n → by_place c i ≢ 0 → IsReasonAt g c d (i + 1) (get_or from (i + 1) 0) (by_place pairs i)

-- The list by numbers names a reason for each equation with an offset above 0, and following them ends at an offset of 0.
pub record LeadToZeroBy (g : Signature) (c d pairs from : List ℕ) : Type 0 where
  pub reasons : AreReasonsBy g c d pairs from (equations g)
  pub ends : (i : ℕ) → i < equations g → LeadsToZero (by_place c) (named from) i

-- the same of offsets as they are held
abbrev pub AreHeldLeast : Signature → Offsets → List Reason → Type 0
AreHeldLeast g offsets reasons = AreShownLeast g offsets.c.items offsets.d.items offsets.pairs.items reasons
