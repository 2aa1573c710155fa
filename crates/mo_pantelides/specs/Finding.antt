-- What finding offsets changes in a work space, what it costs, and reasons of the offsets that a work space has.
use Rattle.std.specs.Prelude.{◌≡◌, ℕ, ◌+◌, ◌*◌, List}
use Rattle.mo_incidence.specs.Signature.{Signature, equations, entries}
use Rattle.mo_incidence.specs.Offsets.{by_number, by_place, sum_unknowns}
use Rattle.mo_incidence.specs.Reasons.{AreReasonsOf}
use Rattle.mo_incidence.specs.declared.findings.Reason.{Reason}
use Rattle.mo_match.specs.Results.{Results}

-- nothing but the assignment and the offsets with their pairs differs
abbrev pub GainsOffsets : Results → Results → Type 0
GainsOffsets w w' = w' ≡ record w { assignment = w'.assignment; c = w'.c; d = w'.d; pairs = w'.pairs }

-- how many entries are read at most, where no order at an unknown is above h
abbrev pub most_reads : Signature → (ℕ → ℕ) → ℕ
most_reads g h = (2 * equations g + sum_unknowns g h + 1) * entries g

-- they are the reasons of the offsets with their pairs that stand in the work space
abbrev pub AreReasonsIn : Signature → Results → List Reason → Type 0
AreReasonsIn g w = AreReasonsOf g (by_place w.c) (by_number w.d) (by_place w.pairs)
