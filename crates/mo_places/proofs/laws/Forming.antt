-- A resolved expression stands where its place and its parts do, form by form.
use Rattle.std.proofs.Common.{ℕ, ℤ, Bool, List, [], ◌∷◌, ◌++◌, map, Option, Some, None, sym, subst}
use Rattle.mo_syntax.specs.declared.expr.RelOp.{RelOp}
use Rattle.mo_syntax.specs.declared.meaning.ClassId.{ClassId}
use Rattle.mo_syntax.specs.declared.meaning.Kind.{Kind}
use Rattle.mo_syntax.specs.declared.place.Place.{Place}
use Rattle.mo_flat.specs.declared.array.ArrayExpr.{ArrayExpr, fold-roll-ArrayExpr, roll-ArrayExpr}
use Rattle.mo_flat.specs.declared.array.ArrayNode.{ArrayNode, ArrayNode-F, fold-roll-ArrayNode, map-ArrayNode, roll-ArrayNode}
use Rattle.mo_flat.specs.declared.array.ArrayNode.TheVariants.{Whole, Decimal, Str, Truth, Literal, Time, Vars, Sum, Product, Power, Relation, Not, All, Any, If, Call, Der, Array, Range, Size, Sized}
use Rattle.mo_flat.specs.declared.array.ArrayNode.TheVariants.{rolls-Whole, rolls-Decimal, rolls-Str, rolls-Truth, rolls-Literal, rolls-Time, rolls-Vars, rolls-Sum, rolls-Product, rolls-Power, rolls-Relation, rolls-Not, rolls-All, rolls-Any, rolls-If, rolls-Call, rolls-Der, rolls-Array, rolls-Range, rolls-Size, rolls-Sized}
use Rattle.mo_flat.specs.declared.array.Subscript.{Subscript}
use Rattle.mo_places.specs.Resolved.{ArrayNodeStands, ArrayStands, PlaceStands, in_array, in_array_node, in_branches, in_parts, in_signed, in_subscripts, places_in_array, places_in_array_node}
use Rattle.mo_places.specs.Stands.{Every, IfAny}
use Rattle.mo_places.specs.Written.{Written, At}
use Rattle.mo_places.proofs.laws.Standing.{every_append}

module _ (P : Written → Type 0) where
  abbrev Places : List Place → Type 0
  Places places = Every (PlaceStands P) places

  rolled : (x : ArrayNode-F ArrayNode ArrayExpr) → Places (in_array_node (map-ArrayNode ArrayNode ArrayExpr (List Place) (List Place) places_in_array_node places_in_array x)) → ArrayNodeStands P (roll-ArrayNode x)
  rolled x h = subst (Every (PlaceStands P)) (sym (fold-roll-ArrayNode (List Place) (List Place) in_array_node in_array x)) h

  pub expression_stands : (place : Place) (node : ArrayNode) → P (At place) → ArrayNodeStands P node → ArrayStands P (roll-ArrayExpr (record { place = place; node = node }))
  expression_stands place node hp h = subst (Every (PlaceStands P)) (sym (fold-roll-ArrayExpr (List Place) (List Place) in_array_node in_array (record { place = place; node = node }))) (hp, h)

  -- ---- lists of parts

  signed_stand : (terms : List (Bool × Bool × ArrayExpr)) → Every (λ term. ArrayStands P term.2) terms → Places (in_signed (map (λ term. (term.0, term.1, places_in_array term.2)) terms))
  signed_stand [] h = tt
  signed_stand (term ∷ terms) h = every_append (PlaceStands P) (places_in_array term.2) (in_signed (map (λ term. (term.0, term.1, places_in_array term.2)) terms)) h.0 (signed_stand terms h.1)

  parts_stand : (parts : List ArrayExpr) → Every (ArrayStands P) parts → Places (in_parts (map places_in_array parts))
  parts_stand [] h = tt
  parts_stand (part ∷ parts) h = every_append (PlaceStands P) (places_in_array part) (in_parts (map places_in_array parts)) h.0 (parts_stand parts h.1)

  branches_stand : (branches : List (ArrayExpr × ArrayExpr)) → Every (λ branch. ArrayStands P branch.0 × ArrayStands P branch.1) branches →
      Places (in_branches (map (λ branch. (places_in_array branch.0, places_in_array branch.1)) branches))
  branches_stand [] h = tt
  branches_stand (branch ∷ branches) h =
      every_append (PlaceStands P) (places_in_array branch.0 ++ places_in_array branch.1) (in_branches (map (λ branch. (places_in_array branch.0, places_in_array branch.1)) branches))
      (every_append (PlaceStands P) (places_in_array branch.0) (places_in_array branch.1) h.0.0 h.0.1) (branches_stand branches h.1)

  numbers_stand : (sizes : List (Place × ℤ)) → Every (λ size. P (At size.0)) sizes → Places (map (λ size. size.0) sizes)
  numbers_stand [] h = tt
  numbers_stand (size ∷ sizes) h = (h.0, numbers_stand sizes h.1)

  -- ---- forms

  pub whole_stands : (n : ℤ) → ArrayNodeStands P (Whole n)
  whole_stands n = subst (ArrayNodeStands P) (rolls-Whole n) (rolled (ArrayNode-F.Whole n) tt)

  pub decimal_stands : (text : List ℕ) → ArrayNodeStands P (Decimal text)
  decimal_stands text = subst (ArrayNodeStands P) (rolls-Decimal text) (rolled (ArrayNode-F.Decimal text) tt)

  pub text_stands : (text : List ℕ) → ArrayNodeStands P (Str text)
  text_stands text = subst (ArrayNodeStands P) (rolls-Str text) (rolled (ArrayNode-F.Str text) tt)

  pub truth_stands : (b : Bool) → ArrayNodeStands P (Truth b)
  truth_stands b = subst (ArrayNodeStands P) (rolls-Truth b) (rolled (ArrayNode-F.Truth b) tt)

  pub literal_stands : (class : ClassId) (n : ℕ) (name : List ℕ) → ArrayNodeStands P (Literal class n name)
  literal_stands class n name = subst (ArrayNodeStands P) (rolls-Literal class n name) (rolled (ArrayNode-F.Literal class n name) tt)

  pub time_stands : ArrayNodeStands P Time
  time_stands = subst (ArrayNodeStands P) rolls-Time (rolled ArrayNode-F.Time tt)

  pub vars_stand : (vars : List ℕ) (kind : Kind) (dims : List ℕ) (subs : List Subscript) → Places (in_subscripts subs) → ArrayNodeStands P (Vars vars kind dims subs)
  vars_stand vars kind dims subs h = subst (ArrayNodeStands P) (rolls-Vars vars kind dims subs) (rolled (ArrayNode-F.Vars vars kind dims subs) h)

  pub sum_stands : (terms : List (Bool × Bool × ArrayExpr)) → Every (λ term. ArrayStands P term.2) terms → ArrayNodeStands P (Sum terms)
  sum_stands terms h = subst (ArrayNodeStands P) (rolls-Sum terms) (rolled (ArrayNode-F.Sum terms) (signed_stand terms h))

  pub product_stands : (factors : List (Bool × Bool × ArrayExpr)) → Every (λ factor. ArrayStands P factor.2) factors → ArrayNodeStands P (Product factors)
  product_stands factors h = subst (ArrayNodeStands P) (rolls-Product factors) (rolled (ArrayNode-F.Product factors) (signed_stand factors h))

  pub power_stands : (base : ArrayExpr) (dotted : Bool) (exponent : ArrayExpr) → ArrayStands P base → ArrayStands P exponent → ArrayNodeStands P (Power base dotted exponent)
  power_stands base dotted exponent hb he =
      subst (ArrayNodeStands P) (rolls-Power base dotted exponent) (rolled (ArrayNode-F.Power base dotted exponent) (every_append (PlaceStands P) (places_in_array base) (places_in_array exponent) hb he))

  pub relation_stands : (op : RelOp) (left right : ArrayExpr) → ArrayStands P left → ArrayStands P right → ArrayNodeStands P (Relation op left right)
  relation_stands op left right hl hr =
      subst (ArrayNodeStands P) (rolls-Relation op left right) (rolled (ArrayNode-F.Relation op left right) (every_append (PlaceStands P) (places_in_array left) (places_in_array right) hl hr))

  pub not_stands : (inner : ArrayExpr) → ArrayStands P inner → ArrayNodeStands P (Not inner)
  not_stands inner h = subst (ArrayNodeStands P) (rolls-Not inner) (rolled (ArrayNode-F.Not inner) h)

  pub all_stand : (parts : List ArrayExpr) → Every (ArrayStands P) parts → ArrayNodeStands P (All parts)
  all_stand parts h = subst (ArrayNodeStands P) (rolls-All parts) (rolled (ArrayNode-F.All parts) (parts_stand parts h))

  pub any_stand : (parts : List ArrayExpr) → Every (ArrayStands P) parts → ArrayNodeStands P (Any parts)
  any_stand parts h = subst (ArrayNodeStands P) (rolls-Any parts) (rolled (ArrayNode-F.Any parts) (parts_stand parts h))

  pub if_stands : (branches : List (ArrayExpr × ArrayExpr)) (other : ArrayExpr) → Every (λ branch. ArrayStands P branch.0 × ArrayStands P branch.1) branches → ArrayStands P other → ArrayNodeStands P (If branches other)
  if_stands branches other hb ho =
      subst (ArrayNodeStands P) (rolls-If branches other)
      (rolled (ArrayNode-F.If branches other) (every_append (PlaceStands P) (in_branches (map (λ branch. (places_in_array branch.0, places_in_array branch.1)) branches)) (places_in_array other) (branches_stand branches hb) ho))

  pub call_stands : (function : ℕ) (args : List ArrayExpr) → Every (ArrayStands P) args → ArrayNodeStands P (Call function args)
  call_stands function args h = subst (ArrayNodeStands P) (rolls-Call function args) (rolled (ArrayNode-F.Call function args) (parts_stand args h))

  pub der_stands : (inner : ArrayExpr) → ArrayStands P inner → ArrayNodeStands P (Der inner)
  der_stands inner h = subst (ArrayNodeStands P) (rolls-Der inner) (rolled (ArrayNode-F.Der inner) h)

  pub array_stands : (parts : List ArrayExpr) → Every (ArrayStands P) parts → ArrayNodeStands P (Array parts)
  array_stands parts h = subst (ArrayNodeStands P) (rolls-Array parts) (rolled (ArrayNode-F.Array parts) (parts_stand parts h))

  pub range_stands : (first step last : ℤ) → ArrayNodeStands P (Range first step last)
  range_stands first step last = subst (ArrayNodeStands P) (rolls-Range first step last) (rolled (ArrayNode-F.Range first step last) tt)

  pub size_stands : (part : ArrayExpr) (at : Option (Place × ℤ)) → ArrayStands P part → IfAny (λ (number : Place × ℤ). P (At number.0)) at → ArrayNodeStands P (Size part at)
  size_stands part None h hn = subst (ArrayNodeStands P) (rolls-Size part None) (rolled (ArrayNode-F.Size part None) (every_append (PlaceStands P) (places_in_array part) [] h tt))
  size_stands part (Some at) h hn = subst (ArrayNodeStands P) (rolls-Size part (Some at)) (rolled (ArrayNode-F.Size part (Some at)) (every_append (PlaceStands P) (places_in_array part) (at.0 ∷ []) h (hn, tt)))

  pub sized_stands : (function : ℕ) (part : Option ArrayExpr) (sizes : List (Place × ℤ)) → IfAny (ArrayStands P) part → Every (λ size. P (At size.0)) sizes → ArrayNodeStands P (Sized function part sizes)
  sized_stands function None sizes h hs = subst (ArrayNodeStands P) (rolls-Sized function None sizes) (rolled (ArrayNode-F.Sized function None sizes) (numbers_stand sizes hs))
  sized_stands function (Some part) sizes h hs =
      subst (ArrayNodeStands P) (rolls-Sized function (Some part) sizes) (rolled (ArrayNode-F.Sized function (Some part) sizes) (every_append (PlaceStands P) (places_in_array part) (map (λ size. size.0) sizes) h (numbers_stand sizes hs)))
