-- The incidence of a flat model: for each equation the unknowns that stand in it, with their highest orders once its
-- derivatives are carried out (J. D. Pryce, A simple structural analysis method for DAEs, BIT 41, 2001).
use Rattle.std.specs.Prelude.{◌≡◌, ℕ, ◌+◌, Bool, true, false, ◌&&◌, List, [], ◌∷◌, ◌++◌, Option, Some, None, if◌then◌else◌, length, map, nat_le}
use Rattle.mo_syntax.specs.Outcome.{breach}
use Rattle.mo_syntax.specs.declared.place.Broken.{Broken}
use Rattle.mo_syntax.specs.declared.place.Place.{Place}
use Rattle.mo_flat.specs.declared.model.FlatEquation.{FlatEquation}
use Rattle.mo_flat.specs.declared.model.FlatModel.{FlatModel}
use Rattle.mo_flat.specs.declared.model.FlatVar.{FlatVar}
use Rattle.mo_flat.specs.Roles.{unknown_numbers}
use Rattle.mo_flat.specs.Sound.{IsSoundModel}
use Rattle.mo_symdiff.specs.Carried.{carries}
use Rattle.mo_symdiff.specs.Sigma.{higher, sigma}
use Rattle.mo_incidence.specs.Signature.{Signature, entries}
use Rattle.mo_syntax.specs.declared.rules.TheConstants.{DERIVATIVE_OF_INPUT, INCIDENCE_TOO_LARGE}

-- the highest order of an unknown, by its number as a variable, on either side of an equation
abbrev pub order_in : List FlatVar → FlatEquation → ℕ → Option ℕ
order_in vars q v = higher (sigma vars q.left v) (sigma vars q.right v)

-- the entry of unknown j, where it stands in the equation
abbrev pub entry_of : ℕ → Option ℕ → List (ℕ × ℕ)
entry_of j None = []
entry_of j (Some order) = (j, order) ∷ []

-- the entries of the unknowns with these numbers as variables, which are themselves numbered from j on
abbrev pub entries_from : ℕ → (ℕ → Option ℕ) → List ℕ → List (ℕ × ℕ)
entries_from j order [] = []
entries_from j order (v ∷ vs) = entry_of j (order v) ++ entries_from (j + 1) order vs

abbrev pub row_of : List FlatVar → FlatEquation → List (ℕ × ℕ)
row_of vars q = entries_from 1 (order_in vars q) (unknown_numbers vars)

unfoldable pub incidence_of : FlatModel → Signature
incidence_of m = record { unknowns = length (unknown_numbers m.vars); rows = map (row_of m.vars) m.equations }

-- the place of the first equation in which a given variable would be differentiated
abbrev pub first_uncarried : List FlatVar → List FlatEquation → Option Place
first_uncarried vars [] = None
first_uncarried vars (q ∷ qs) = if carries vars q.left && carries vars q.right then first_uncarried vars qs else Some q.place

abbrev pub refused : Option Place → Bool → Place → Option Broken
refused (Some place) few name = Some (breach DERIVATIVE_OF_INPUT place)
refused None true name = None
refused None false name = Some (breach INCIDENCE_TOO_LARGE name)

-- The rule that a model breaks where its incidence is asked for: 43 at the first equation in which a given variable would
-- be differentiated, then 42 at the model where there are more than 1,000,000 entries.
unfoldable pub refusal_of : FlatModel → Option Broken
refusal_of m = refused (first_uncarried m.vars m.equations) (nat_le (entries (incidence_of m)) 1000000) m.place

-- it is that rule, where the model is sound
abbrev pub IsRefusal : FlatModel → Broken → Type 0
IsRefusal m refusal = IsSoundModel m → refusal_of m ≡ Some refusal
