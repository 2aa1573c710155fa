-- What holds of the elements of sound array expressions, and of the equations that are made of them.
use Rattle.std.specs.Prelude.{◌≡◌, ℕ, ◌+◌, ◌<◌, List, Ok, IsTrue, All}
use Rattle.mo_syntax.specs.declared.place.Place.{Place}
use Rattle.mo_syntax.specs.declared.meaning.Kind.{Kind}
use Rattle.mo_flat.specs.declared.array.ArrayExpr.{ArrayExpr}
use Rattle.mo_flat.specs.declared.expr.FlatExpr.{FlatExpr}
use Rattle.mo_flat.specs.declared.model.FlatVar.{FlatVar}
use Rattle.mo_flat.specs.declared.model.FlatEquation.{FlatEquation}
use Rattle.mo_flat.specs.Sound.{is_shaped, kind_of as flat_kind_of, orders_fit, IsSoundEquation}
use Rattle.mo_flat.specs.SoundArray.{fits_kind, IsSoundArrayIn, nesting_of}
use Rattle.mo_typing.specs.Kinds.{kind_of}
use Rattle.mo_typing.specs.Dims.{Dims, dims_of}
use Rattle.mo_typing.specs.Subscripts.{subscripts_of, fine}
use Rattle.mo_typing.specs.Indices.{Index, is_index}
use Rattle.mo_arrays.specs.Elements.{element_of}
use Rattle.mo_arrays.specs.Equations.{equations_of}

-- a well shaped expression of a kind, an Integer being accepted for a Real, whose orders and derivatives around one another are at
-- most so many
pub record IsElement (vars : List FlatVar) (kind : Kind) (nesting : ℕ) (u : FlatExpr) : Type 0 where
  pub shaped : IsTrue (is_shaped vars u)
  pub kind_fits : IsTrue (fits_kind kind (flat_kind_of vars u))
  pub orders : IsTrue (orders_fit (nesting + 1) u)

-- The elements of a sound expression that breaks no rule are of its kind, with at most as many derivatives around one another as it
-- has. This holds over any list of variables, whatever they stand for: their numbers and kinds alone are asked.
abbrev pub ElementsAreSound : Type 0
ElementsAreSound =
    (vars : List FlatVar) (e : ArrayExpr) (kind : Kind) (dims : Dims) (index : Index) →
    IsSoundArrayIn vars e → kind_of e ≡ Ok kind → dims_of e ≡ Ok dims → subscripts_of e ≡ fine → IsTrue (is_index dims index) →
    IsElement vars kind (nesting_of e) (element_of e index)

-- The equations of two sound sides are sound equations of a model, where neither has too many derivatives around one another.
abbrev pub EquationsAreSound : Type 0
EquationsAreSound =
    (vars : List FlatVar) (left right : ArrayExpr) (place : Place) (equations : List FlatEquation) →
    IsSoundArrayIn vars left → IsSoundArrayIn vars right → nesting_of left < 65535 → nesting_of right < 65535 →
    equations_of left right place ≡ Ok equations → All (IsSoundEquation vars) equations
