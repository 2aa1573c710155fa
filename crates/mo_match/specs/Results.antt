-- What contracts see of a work space, and the room that it has.
use Rattle.std.specs.Prelude.{◌≡◌, ℕ, List, [], replicate}
use Rattle.mo_incidence.specs.declared.findings.Reason.{Reason}
use Rattle.mo_incidence.specs.Signature.{Signature, equations, entries}

-- the counts that it was made for, the unknown of each equation or 0, and what the calls gave
pub record Results : Type 0 where
  pub equations : ℕ
  pub unknowns : ℕ
  pub entries : ℕ
  pub assignment : List ℕ
  pub deficient : List ℕ
  pub mentioned : List ℕ
  pub loose : List ℕ
  pub c : List ℕ
  pub d : List ℕ
  pub pairs : List ℕ
  pub reasons : List Reason

-- it was made with the three counts of this incidence
pub record IsMadeFor (g : Signature) (w : Results) : Type 0 where
  pub equations : w.equations ≡ equations g
  pub unknowns : w.unknowns ≡ g.unknowns
  pub entries : w.entries ≡ entries g

-- nothing but the assignment and the deficit differs
abbrev pub IsReassigned : Results → Results → Type 0
IsReassigned w w' = w' ≡ record w { assignment = w'.assignment; deficient = w'.deficient; mentioned = w'.mentioned }

-- a new one: nothing is assigned, and nothing was found
abbrev pub fresh : ℕ → ℕ → ℕ → Results
fresh m n e = record {
  equations = m;
  unknowns = n;
  entries = e;
  assignment = replicate m 0;
  deficient = [];
  mentioned = [];
  loose = [];
  c = [];
  d = [];
  pairs = [];
  reasons = [];
}
