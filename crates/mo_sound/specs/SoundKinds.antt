-- Kinds of flat expressions as the code has them.
use Rattle.std.specs.Prelude.{◌≡◌, ℕ, Bool, List, Option, if◌then◌else◌}
use Rattle.std.specs.List.{list_all}
use Rattle.mo_flat.specs.declared.expr.FlatExpr.{FlatExpr, fold-FlatExpr}
use Rattle.mo_flat.specs.Sound.{FlatKind, real, whole, truth, string, enumeration, is_numeric, is_whole, is_truth, is_string, is_enumeration, number_kind, orders_node, where_holds}
use Rattle.mo_sound.specs.declared.summary.Kinds.{Kinds}
use Rattle.mo_sound.specs.declared.summary.ValueKind.{ValueKind}
use Rattle.mo_sound.specs.declared.summary.ValueKind.TheVariants.{Real, Whole, Truth, Str, Enumeration}

abbrev pub kind_seen : ValueKind → FlatKind
kind_seen Real = real
kind_seen Whole = whole
kind_seen Truth = truth
kind_seen Str = string
kind_seen Enumeration = enumeration

-- whether the orders of an expression stay low enough inside so many derivatives
abbrev pub orders_at : FlatExpr → ℕ → Bool
orders_at = fold-FlatExpr (ℕ → Bool) (orders_node 65535)

-- the kinds of some parts, none of a part that has none
abbrev pub PartKinds : Type 0
PartKinds = List (Option FlatKind)

-- what holds of all kinds of a list
pub record AreSummed (held : Kinds) (kinds : PartKinds) : Type 0 where
  pub numeric : held.numeric ≡ list_all is_numeric kinds
  pub whole : held.whole ≡ list_all is_whole kinds
  pub truth : held.truth ≡ list_all is_truth kinds
  pub string : held.string ≡ list_all is_string kinds
  pub enumeration : held.enumeration ≡ list_all is_enumeration kinds

-- the kind of a product by the kinds of its factors
abbrev pub product_kind : Bool → List (Option FlatKind) → Option FlatKind
product_kind divides kinds = if divides then where_holds (list_all is_numeric kinds) real else number_kind kinds
