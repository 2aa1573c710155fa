-- A rule that the dimensions of a resolved expression break is broken at a place in it.
use Rattle.std.proofs.Common.{ℕ, ℤ, pos, negsuc, Bool, true, false, ◌&&◌, List, [], ◌∷◌, ◌++◌, map, length, Option, Some, None, Ok, sym, ap, subst}
use Rattle.std.specs.Ordering.{int_eq}
use Rattle.std.specs.Prelude.{fold, nat_eq, nat_lt}
use Rattle.mo_syntax.specs.Outcome.{Outcome, and_then}
use Rattle.mo_syntax.specs.declared.place.Place.{Place}
use Rattle.mo_tables.specs.declared.functions.TheConstants.{ATAN2, CROSS, MAX, MIN, NDIMS, PRODUCT, SUM, TRANSPOSE}
use Rattle.mo_flat.specs.declared.array.ArrayExpr.{ArrayExpr, ArrayExpr-F, fold-roll-ArrayExpr, ind-ArrayExpr, map-ArrayExpr, roll-ArrayExpr}
use Rattle.mo_flat.specs.declared.array.ArrayNode.{ArrayNode, ArrayNode-F, fold-roll-ArrayNode, map-ArrayNode, roll-ArrayNode}
use Rattle.mo_typing.specs.Dims.{Dims, Operand, Part, added, alike, are_equal, branch_dims, call, chain, condition, crossed, dims_node, dims_of, dims_of_all, dims_of_branches, dims_of_node, dims_part, filled, inner_matched, is_scalar, largest, matched, matrix_product, multiplied, operand, operands_of, part_of, raised, range, range_count, scalar, scalars, size, sizes_of, spread, times, transposed, with_alike, with_operand, with_scalar}
use Rattle.mo_typing.specs.Kinds.{is_among, takes_sizes}
use Rattle.mo_places.specs.Resolved.{ArrayNodeStands, ArrayStands, PlaceStands, in_array, in_array_node, in_branches, in_number, in_parts, in_signed, places_in_array, places_in_array_node}
use Rattle.mo_places.specs.Stands.{Answers, Anything, Every}
use Rattle.mo_places.specs.Written.{Written, At}
use Rattle.mo_places.proofs.laws.Making.{fold_answers}
use Rattle.mo_places.proofs.laws.Standing.{every_back, every_front, if_answers, then_answers}

module _ (P : Written → Type 0) (place : Place) (hp : P (At place)) where
  pub matched_answers : (a b : Dims) → Answers P Anything (matched place a b)
  matched_answers a b = if_answers P Anything (nat_eq (length a) (length b)) _ _ (if_answers P Anything (are_equal a b) _ _ (record { holds = tt }) (record { holds = hp })) (record { holds = hp })

  spread_answers : (dotted : Bool) (a b : Dims) → Answers P Anything (spread place dotted a b)
  spread_answers dotted a b = if_answers P Anything (dotted && is_scalar b) _ _ (record { holds = tt }) (if_answers P Anything (dotted && is_scalar a) _ _ (record { holds = tt }) (matched_answers a b))

  inner_answers : (n m : ℕ) (dims : Dims) → Answers P Anything (inner_matched place n m dims)
  inner_answers n m dims = if_answers P Anything (nat_eq n m) _ _ (record { holds = tt }) (record { holds = hp })

  matrix_answers : (a b : Dims) → Answers P Anything (matrix_product place a b)
  matrix_answers [] b = record { holds = hp }
  matrix_answers (n ∷ []) [] = record { holds = hp }
  matrix_answers (n ∷ []) (m ∷ []) = inner_answers n m []
  matrix_answers (n ∷ []) (m ∷ q ∷ []) = inner_answers n m (q ∷ [])
  matrix_answers (n ∷ []) (m ∷ q ∷ r ∷ more) = record { holds = hp }
  matrix_answers (p ∷ n ∷ []) [] = record { holds = hp }
  matrix_answers (p ∷ n ∷ []) (m ∷ []) = inner_answers n m (p ∷ [])
  matrix_answers (p ∷ n ∷ []) (m ∷ q ∷ []) = inner_answers n m (p ∷ q ∷ [])
  matrix_answers (p ∷ n ∷ []) (m ∷ q ∷ r ∷ more) = record { holds = hp }
  matrix_answers (p ∷ n ∷ r ∷ more) b = record { holds = hp }

  times_answers : (divide dotted : Bool) (a b : Dims) → Answers P Anything (times place divide dotted a b)
  times_answers divide dotted a b =
      if_answers P Anything dotted _ _ (spread_answers dotted a b)
      (if_answers P Anything (is_scalar b) _ _ (record { holds = tt })
      (if_answers P Anything divide _ _ (record { holds = hp })
      (if_answers P Anything (is_scalar a) _ _ (record { holds = tt }) (matrix_answers a b))))

  added_answers : (so_far : Option Dims) (term : Operand) → Answers P Anything (added place so_far term)
  added_answers None term = record { holds = tt }
  added_answers (Some dims) term = spread_answers term.1 dims term.2

  multiplied_answers : (so_far : Option Dims) (factor : Operand) → Answers P Anything (multiplied place so_far factor)
  multiplied_answers None factor = record { holds = tt }
  multiplied_answers (Some dims) factor = times_answers factor.0 factor.1 dims factor.2

  chain_answers : (join : Option Dims → Operand → Outcome Dims) → ((so_far : Option Dims) (operand : Operand) → Answers P Anything (join so_far operand)) → (operands : List Operand) → Answers P Anything (chain join operands)
  chain_answers join step operands =
      then_answers P Anything Anything (fold (with_operand join) (Ok None) operands) _
      (fold_answers P (with_operand join) (λ o operand h. then_answers P Anything Anything o _ h (λ dims _. then_answers P Anything Anything (join dims operand) _ (step dims operand) (λ _ _. record { holds = tt }))) operands (Ok None) (record { holds = tt }))
      (λ _ _. record { holds = tt })

  alike_answers : (all : List Dims) → Answers P Anything (alike place all)
  alike_answers all =
      then_answers P Anything Anything (fold (with_alike place) (Ok None) all) _
      (fold_answers P (with_alike place) (λ o dims h. then_answers P Anything Anything o _ h (λ so_far _. then_answers P Anything Anything (added place so_far (false, false, dims)) _ (added_answers so_far (false, false, dims)) (λ _ _. record { holds = tt }))) all (Ok None) (record { holds = tt }))
      (λ _ _. record { holds = tt })

  scalar_answers : (dims : Dims) → Answers P Anything (scalar place dims)
  scalar_answers dims = if_answers P Anything (is_scalar dims) _ _ (record { holds = tt }) (record { holds = hp })

  scalars_answer : (all : List Dims) → Answers P Anything (scalars place all)
  scalars_answer all = fold_answers P (with_scalar place) (λ o dims h. then_answers P Anything Anything o _ h (λ _ _. scalar_answers dims)) all (Ok []) (record { holds = tt })

  transposed_answers : (dims : Dims) → Answers P Anything (transposed place dims)
  transposed_answers [] = record { holds = hp }
  transposed_answers (n ∷ []) = record { holds = hp }
  transposed_answers (n ∷ m ∷ more) = record { holds = tt }

  crossed_answers : (a b : Dims) → Answers P Anything (crossed place a b)
  crossed_answers [] b = record { holds = hp }
  crossed_answers (n ∷ []) [] = record { holds = hp }
  crossed_answers (n ∷ []) (m ∷ []) = if_answers P Anything (nat_eq n 3 && nat_eq m 3) _ _ (record { holds = tt }) (record { holds = hp })
  crossed_answers (n ∷ []) (m ∷ q ∷ more) = record { holds = hp }
  crossed_answers (n ∷ m ∷ more) b = record { holds = hp }

  call_answers : (function : ℕ) (all : List Dims) → Answers P Anything (call place function all)
  call_answers function [] = record { holds = hp }
  call_answers function (a ∷ []) =
      if_answers P Anything (is_among (NDIMS ∷ PRODUCT ∷ SUM ∷ []) function) _ _ (record { holds = tt })
      (if_answers P Anything (nat_eq function TRANSPOSE) _ _ (transposed_answers a) (if_answers P Anything (is_among (ATAN2 ∷ CROSS ∷ MAX ∷ MIN ∷ []) function) _ _ (record { holds = hp }) (record { holds = tt })))
  call_answers function (a ∷ b ∷ []) =
      if_answers P Anything (nat_eq function CROSS) _ _ (crossed_answers a b) (if_answers P Anything (is_among (ATAN2 ∷ MAX ∷ MIN ∷ []) function) _ _ (scalars_answer (a ∷ b ∷ [])) (record { holds = hp }))
  call_answers function (a ∷ b ∷ c ∷ more) = record { holds = hp }

  raised_answers : (dotted : Bool) (a b : Dims) → Answers P Anything (raised place dotted a b)
  raised_answers dotted a b = if_answers P Anything dotted _ _ (spread_answers true a b) (scalars_answer (a ∷ b ∷ []))

  range_answers : (first step last : ℤ) → Answers P Anything (range place first step last)
  range_answers first step last = if_answers P Anything (int_eq step (pos 0)) _ _ (record { holds = hp }) (if_answers P Anything (nat_lt largest (range_count first step last)) _ _ (record { holds = hp }) (record { holds = tt }))

  filled_answers : (function : ℕ) (filling sizes : Dims) → Answers P Anything (filled place function filling sizes)
  filled_answers function filling sizes = if_answers P Anything (takes_sizes function (length sizes)) _ _ (then_answers P Anything Anything (scalar place filling) _ (scalar_answers filling) (λ _ _. record { holds = tt })) (record { holds = hp })

pub size_answers : (P : Written → Type 0) (place : Place) (n : ℤ) → P (At place) → Answers P Anything (size (place, n))
size_answers P place (pos n) hp = if_answers P Anything (nat_lt largest n) _ _ (record { holds = hp }) (record { holds = tt })
size_answers P place (negsuc n) hp = record { holds = hp }

sizes_answer : (P : Written → Type 0) (sizes : List (Place × ℤ)) → Every (PlaceStands P) (map (λ size. size.0) sizes) → Answers P Anything (sizes_of sizes)
sizes_answer P [] h = record { holds = tt }
sizes_answer P (one ∷ sizes) h = then_answers P Anything Anything (size one) _ (size_answers P one.0 one.1 h.0) (λ n _. then_answers P Anything Anything (sizes_of sizes) _ (sizes_answer P sizes h.1) (λ ns _. record { holds = tt }))

-- ---- parts

pub record PartAnswers (P : Written → Type 0) (part : Part) : Type 0 where
  pub place : P (At part.place)
  pub dims : Answers P Anything part.dims

all_answer : (P : Written → Type 0) (parts : List Part) → Every (PartAnswers P) parts → Answers P Anything (dims_of_all parts)
all_answer P [] h = record { holds = tt }
all_answer P (part ∷ parts) h = then_answers P Anything Anything part.dims _ h.0.dims (λ dims _. then_answers P Anything Anything (dims_of_all parts) _ (all_answer P parts h.1) (λ all _. record { holds = tt }))

operands_answer : (P : Written → Type 0) (parts : List (Bool × Bool × Part)) → Every (λ part. PartAnswers P part.2) parts → Answers P Anything (operands_of parts)
operands_answer P [] h = record { holds = tt }
operands_answer P (part ∷ parts) h =
    then_answers P Anything Anything (operand part) _ (then_answers P Anything Anything part.2.dims _ h.0.dims (λ dims _. record { holds = tt }))
    (λ one _. then_answers P Anything Anything (operands_of parts) _ (operands_answer P parts h.1) (λ all _. record { holds = tt }))

branches_answer : (P : Written → Type 0) (branches : List (Part × Part)) → Every (λ branch. PartAnswers P branch.0 × PartAnswers P branch.1) branches → Answers P Anything (dims_of_branches branches)
branches_answer P [] h = record { holds = tt }
branches_answer P (branch ∷ branches) h =
    then_answers P Anything Anything (branch_dims branch) _
    (then_answers P Anything Anything (condition branch.0) _ (then_answers P Anything Anything branch.0.dims _ h.0.0.dims (λ dims _. scalar_answers P branch.0.place h.0.0.place dims)) (λ _ _. h.0.1.dims))
    (λ one _. then_answers P Anything Anything (dims_of_branches branches) _ (branches_answer P branches h.1) (λ all _. record { holds = tt }))

module _ (P : Written → Type 0) where
  Law : ArrayExpr → Type 0
  Law e = ArrayStands P e → PartAnswers P (part_of e)

  NodeLaw : ArrayNode → Type 0
  NodeLaw node = ArrayNodeStands P node → (place : Place) → P (At place) → Answers P Anything (dims_of_node node place)

  abbrev Whole : Type 0
  Whole = (e : ArrayExpr) × Law e

  abbrev ANode : Type 0
  ANode = (node : ArrayNode) × NodeLaw node

  abbrev bare : ArrayNode-F ANode Whole → ArrayNode-F ArrayNode ArrayExpr
  bare y = map-ArrayNode ANode Whole ArrayNode ArrayExpr (λ t. t.0) (λ t. t.0) y

  abbrev Term : Type 0
  Term = Bool × Bool × Whole

  abbrev bare_term : Term → Bool × Bool × ArrayExpr
  bare_term t = (t.0, t.1, t.2.0)

  abbrev placed_term : Bool × Bool × ArrayExpr → Bool × Bool × List Place
  placed_term t = (t.0, t.1, places_in_array t.2)

  abbrev part_term : Bool × Bool × ArrayExpr → Bool × Bool × Part
  part_term t = (t.0, t.1, part_of t.2)

  abbrev Branch : Type 0
  Branch = Whole × Whole

  abbrev bare_branch : Branch → ArrayExpr × ArrayExpr
  bare_branch t = (t.0.0, t.1.0)

  abbrev placed_branch : ArrayExpr × ArrayExpr → List Place × List Place
  placed_branch t = (places_in_array t.0, places_in_array t.1)

  abbrev part_branch : ArrayExpr × ArrayExpr → Part × Part
  part_branch t = (part_of t.0, part_of t.1)

  abbrev parts_in : List Whole → List Part
  parts_in parts = map part_of (map (λ t. t.0) parts)

  signed : (terms : List Term) → Every (PlaceStands P) (in_signed (map placed_term (map bare_term terms))) →
      Every (λ (part : Bool × Bool × Part). PartAnswers P part.2) (map part_term (map bare_term terms))
  unfolding Law
  signed [] h = tt
  signed (term ∷ terms) h =
      let rest = in_signed (map placed_term (map bare_term terms)) in
      (term.2.1 (every_front (PlaceStands P) (places_in_array term.2.0) rest h), signed terms (every_back (PlaceStands P) (places_in_array term.2.0) rest h))

  plain : (parts : List Whole) → Every (PlaceStands P) (in_parts (map places_in_array (map (λ t. t.0) parts))) → Every (PartAnswers P) (map part_of (map (λ t. t.0) parts))
  unfolding Law
  plain [] h = tt
  plain (part ∷ parts) h =
      let rest = in_parts (map places_in_array (map (λ t. t.0) parts)) in
      (part.1 (every_front (PlaceStands P) (places_in_array part.0) rest h), plain parts (every_back (PlaceStands P) (places_in_array part.0) rest h))

  branched : (branches : List Branch) → Every (PlaceStands P) (in_branches (map placed_branch (map bare_branch branches))) →
      Every (λ branch. PartAnswers P branch.0 × PartAnswers P branch.1) (map part_branch (map bare_branch branches))
  unfolding Law
  branched [] k = tt
  branched (branch ∷ others) k =
      let rest = in_branches (map placed_branch (map bare_branch others)) in
      let here = every_front (PlaceStands P) (places_in_array branch.0.0 ++ places_in_array branch.1.0) rest k in (
        (branch.0.1 (every_front (PlaceStands P) (places_in_array branch.0.0) (places_in_array branch.1.0) here), branch.1.1 (every_back (PlaceStands P) (places_in_array branch.0.0) (places_in_array branch.1.0) here)),
        branched others (every_back (PlaceStands P) (places_in_array branch.0.0 ++ places_in_array branch.1.0) rest k),
      )

  node_law : (y : ArrayNode-F ANode Whole) → Every (PlaceStands P) (in_array_node (map-ArrayNode ArrayNode ArrayExpr (List Place) (List Place) places_in_array_node places_in_array (bare y))) →
      (place : Place) → P (At place) → Answers P Anything (dims_node (map-ArrayNode ArrayNode ArrayExpr (Place → Outcome Dims) Part dims_of_node part_of (bare y)) place)
  unfolding Law
  node_law (ArrayNode-F.Whole n) h place hp = record { holds = tt }
  node_law (ArrayNode-F.Decimal text) h place hp = record { holds = tt }
  node_law (ArrayNode-F.Str text) h place hp = record { holds = tt }
  node_law (ArrayNode-F.Truth b) h place hp = record { holds = tt }
  node_law (ArrayNode-F.Literal class n name) h place hp = record { holds = tt }
  node_law ArrayNode-F.Time h place hp = record { holds = tt }
  node_law (ArrayNode-F.Vars vars kind dims subs) h place hp = record { holds = tt }
  node_law (ArrayNode-F.Sum terms) h place hp = then_answers P Anything Anything (operands_of (map part_term (map bare_term terms))) _ (operands_answer P (map part_term (map bare_term terms)) (signed terms h)) (λ operands _. chain_answers P place hp (added place) (added_answers P place hp) operands)
  node_law (ArrayNode-F.Product factors) h place hp = then_answers P Anything Anything (operands_of (map part_term (map bare_term factors))) _ (operands_answer P (map part_term (map bare_term factors)) (signed factors h)) (λ operands _. chain_answers P place hp (multiplied place) (multiplied_answers P place hp) operands)
  node_law (ArrayNode-F.Power base dotted exponent) h place hp =
      then_answers P Anything Anything _ _ (base.1 (every_front (PlaceStands P) (places_in_array base.0) (places_in_array exponent.0) h)).dims (λ a _.
      then_answers P Anything Anything _ _ (exponent.1 (every_back (PlaceStands P) (places_in_array base.0) (places_in_array exponent.0) h)).dims (λ b _. raised_answers P place hp dotted a b))
  node_law (ArrayNode-F.Relation op left right) h place hp =
      then_answers P Anything Anything _ _ (left.1 (every_front (PlaceStands P) (places_in_array left.0) (places_in_array right.0) h)).dims (λ a _.
      then_answers P Anything Anything _ _ (right.1 (every_back (PlaceStands P) (places_in_array left.0) (places_in_array right.0) h)).dims (λ b _. scalars_answer P place hp (a ∷ b ∷ [])))
  node_law (ArrayNode-F.Not inner) h place hp = then_answers P Anything Anything _ _ (inner.1 h).dims (λ dims _. scalar_answers P place hp dims)
  node_law (ArrayNode-F.All parts) h place hp = then_answers P Anything Anything (dims_of_all (parts_in parts)) _ (all_answer P (parts_in parts) (plain parts h)) (λ all _. scalars_answer P place hp all)
  node_law (ArrayNode-F.Any parts) h place hp = then_answers P Anything Anything (dims_of_all (parts_in parts)) _ (all_answer P (parts_in parts) (plain parts h)) (λ all _. scalars_answer P place hp all)
  node_law (ArrayNode-F.If branches other) h place hp =
      let inside = in_branches (map placed_branch (map bare_branch branches)) in
      then_answers P Anything Anything (dims_of_branches (map part_branch (map bare_branch branches))) _ (branches_answer P (map part_branch (map bare_branch branches)) (branched branches (every_front (PlaceStands P) inside (places_in_array other.0) h))) (λ all _.
      then_answers P Anything Anything _ _ (other.1 (every_back (PlaceStands P) inside (places_in_array other.0) h)).dims (λ dims _. alike_answers P place hp (all ++ dims ∷ [])))
  node_law (ArrayNode-F.Call function args) h place hp = then_answers P Anything Anything (dims_of_all (parts_in args)) _ (all_answer P (parts_in args) (plain args h)) (λ all _. call_answers P place hp function all)
  node_law (ArrayNode-F.Der inner) h place hp = (inner.1 h).dims
  node_law (ArrayNode-F.Array parts) h place hp =
      then_answers P Anything Anything (and_then (dims_of_all (parts_in parts)) (alike place)) _ (then_answers P Anything Anything (dims_of_all (parts_in parts)) _ (all_answer P (parts_in parts) (plain parts h)) (λ all _. alike_answers P place hp all)) (λ dims _. record { holds = tt })
  node_law (ArrayNode-F.Range first step last) h place hp = range_answers P place hp first step last
  node_law (ArrayNode-F.Size part at) h place hp = then_answers P Anything Anything _ _ (part.1 (every_front (PlaceStands P) (places_in_array part.0) (in_number at) h)).dims (λ dims _. record { holds = tt })
  node_law (ArrayNode-F.Sized function None sizes) h place hp = then_answers P Anything Anything (sizes_of sizes) _ (sizes_answer P sizes h) (λ ns _. filled_answers P place hp function [] ns)
  node_law (ArrayNode-F.Sized function (Some part) sizes) h place hp =
      then_answers P Anything Anything _ _ (part.1 (every_front (PlaceStands P) (places_in_array part.0) (map (λ size. size.0) sizes) h)).dims (λ dims _.
      then_answers P Anything Anything (sizes_of sizes) _ (sizes_answer P sizes (every_back (PlaceStands P) (places_in_array part.0) (map (λ size. size.0) sizes) h)) (λ ns _. filled_answers P place hp function dims ns))

  dims_law : (e : ArrayExpr) → Law e
  unfolding Law NodeLaw
  dims_law = ind-ArrayExpr NodeLaw Law
      (λ x y is. subst (λ z. NodeLaw (roll-ArrayNode z)) is (λ h place hp.
      subst (Answers P Anything) (sym (ap (λ f. f place) (fold-roll-ArrayNode (Place → Outcome Dims) Part dims_node dims_part (bare y))))
      (node_law y (subst (Every (PlaceStands P)) (fold-roll-ArrayNode (List Place) (List Place) in_array_node in_array (bare y)) h) place hp)))
      (λ x y is. subst (λ z. Law (roll-ArrayExpr z)) is (λ h.
      let layer : ArrayExpr-F ArrayNode ArrayExpr = map-ArrayExpr ANode Whole ArrayNode ArrayExpr (λ t. t.0) (λ t. t.0) y in
      let inside = subst (Every (PlaceStands P)) (fold-roll-ArrayExpr (List Place) (List Place) in_array_node in_array layer) h in
      subst (PartAnswers P) (sym (fold-roll-ArrayExpr (Place → Outcome Dims) Part dims_node dims_part layer)) (record { place = inside.0; dims = y.node.1 inside.1 y.place inside.0 })))

  pub dims_answers : (e : ArrayExpr) → ArrayStands P e → Answers P (Anything {A = Dims}) (dims_of e)
  unfolding Law
  dims_answers e h = (dims_law e h).dims
