-- What it means that an expression fits what is around a leaf (Modelica Language Specification 3.5, section 7.2.5): its sizes are those of the
-- components whose indices are pending.
use Rattle.std.specs.Prelude.{◌≡◌, ℕ, Bool, true, false, List, [], ◌∷◌, length}
use Rattle.mo_syntax.specs.declared.place.Place.{Place}
use Rattle.mo_typing.specs.Dims.{Dims}
use Rattle.mo_typing.specs.Subscripts.{fine}
use Rattle.mo_equations.specs.Variables.{fits_along}

-- what is marked
abbrev pub kept : List Bool → List ℕ → List ℕ
kept [] xs = []
kept (mark ∷ marks) [] = []
kept (true ∷ marks) (x ∷ xs) = x ∷ kept marks xs
kept (false ∷ marks) (x ∷ xs) = kept marks xs

-- Some indices of a path, in their order, are the pending ones, and what they range over are the dimensions.
abbrev pub HaveComponents : List ℕ → Dims → List ℕ → Dims → Type 0
HaveComponents pending dims indices sizes = (marks : List Bool) × (kept marks indices ≡ pending) × (kept marks sizes ≡ dims)

-- An expression fits only where the pending indices have such components,
abbrev pub FitsOnly : Type 0
FitsOnly = (place : Place) (pending indices sizes dims : List ℕ) → fits_along place pending indices sizes dims ≡ fine → HaveComponents pending dims indices sizes

-- and wherever they have.
abbrev pub FitsWherever : Type 0
FitsWherever = (place : Place) (pending indices sizes dims : List ℕ) → length indices ≡ length sizes → length pending ≡ length dims → HaveComponents pending dims indices sizes →
    fits_along place pending indices sizes dims ≡ fine
