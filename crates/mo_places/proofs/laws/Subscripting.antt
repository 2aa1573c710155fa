-- A subscript of a resolved expression that lies outside its dimension breaks a rule at a place in the expression.
use Rattle.std.proofs.Common.{ℤ, Bool, List, [], ◌∷◌, ◌++◌, map, length, Option, Some, None, sym, subst}
use Rattle.mo_syntax.specs.declared.place.Place.{Place}
use Rattle.mo_flat.specs.declared.array.ArrayExpr.{ArrayExpr, ArrayExpr-F, fold-roll-ArrayExpr, ind-ArrayExpr, map-ArrayExpr, para-roll-ArrayExpr, roll-ArrayExpr}
use Rattle.mo_flat.specs.declared.array.ArrayNode.{ArrayNode, ArrayNode-F, fold-roll-ArrayNode, map-ArrayNode, para-roll-ArrayNode, roll-ArrayNode}
use Rattle.mo_flat.specs.declared.array.Subscript.{Subscript}
use Rattle.mo_flat.specs.declared.array.Subscript.TheVariants.{All, One, Many}
use Rattle.mo_typing.specs.Dims.{Dims}
use Rattle.mo_typing.specs.Outcome.{each}
use Rattle.mo_typing.specs.Shape.{shape_of}
use Rattle.mo_typing.specs.Subscripts.{Checked, Part, both, every, is_within, of_part, part_of, size_number, subscript, subscripts, subscripts_node, subscripts_of, subscripts_of_node, subscripts_part, within}
use Rattle.mo_places.specs.Resolved.{ArrayNodeStands, ArrayStands, PlaceStands, in_array, in_array_node, in_branches, in_number, in_parts, in_signed, in_subscripts, places_in_array, places_in_array_node}
use Rattle.mo_places.specs.Stands.{Answers, Anything, Every}
use Rattle.mo_places.specs.Written.{Written, At}
use Rattle.mo_places.proofs.laws.Making.{each_answers}
use Rattle.mo_places.proofs.laws.Standing.{every_back, every_front, every_map, if_answers, then_answers}

pub within_answers : (P : Written → Type 0) (place : Place) (b : Bool) → P (At place) → Answers P Anything (within place b)
within_answers P place b hp = if_answers P Anything b _ _ (record { holds = tt }) (record { holds = hp })

subscripts_answer : (P : Written → Type 0) (dims : Dims) (subs : List Subscript) → Every (PlaceStands P) (in_subscripts subs) → Answers P Anything (subscripts dims subs)
subscripts_answer P [] subs h = record { holds = tt }
subscripts_answer P (n ∷ dims) [] h = record { holds = tt }
subscripts_answer P (n ∷ dims) (All ∷ subs) h = subscripts_answer P dims subs h
subscripts_answer P (n ∷ dims) (One place k ∷ subs) h = then_answers P Anything Anything (within place (is_within n k)) _ (within_answers P place (is_within n k) h.0) (λ _ _. subscripts_answer P dims subs h.1)
subscripts_answer P (n ∷ dims) (Many place ks ∷ subs) h = then_answers P Anything Anything (subscript n (Many place ks)) _ (within_answers P place _ h.0) (λ _ _. subscripts_answer P dims subs h.1)

every_answers : {A : Type 0} (P : Written → Type 0) (check : A → Checked) (xs : List A) → Every (λ x. Answers P Anything (check x)) xs → Answers P Anything (every check xs)
every_answers P check xs h =
    then_answers P (Every Anything) Anything (each (λ (c : Checked). c) (map check xs)) _
    (each_answers P Anything (λ (c : Checked). c) (map check xs) (every_map (λ (c : Checked). Answers P Anything c) check xs h)) (λ _ _. record { holds = tt })

both_answers : (P : Written → Type 0) (a b : Checked) → Answers P Anything a → Answers P Anything b → Answers P Anything (both a b)
both_answers P a b ha hb = then_answers P Anything Anything a _ ha (λ _ _. hb)

module _ (P : Written → Type 0) where
  Law : ArrayExpr → Type 0
  Law e = ArrayStands P e → Answers P Anything (subscripts_of e)

  NodeLaw : ArrayNode → Type 0
  NodeLaw node = ArrayNodeStands P node → Answers P Anything (subscripts_of_node node)

  abbrev Whole : Type 0
  Whole = (e : ArrayExpr) × Law e

  abbrev ANode : Type 0
  ANode = (node : ArrayNode) × NodeLaw node

  abbrev bare : ArrayNode-F ANode Whole → ArrayNode-F ArrayNode ArrayExpr
  bare y = map-ArrayNode ANode Whole ArrayNode ArrayExpr (λ t. t.0) (λ t. t.0) y

  abbrev Term : Type 0
  Term = Bool × Bool × Whole

  abbrev bare_term : Term → Bool × Bool × ArrayExpr
  bare_term t = (t.0, t.1, t.2.0)

  abbrev placed_term : Bool × Bool × ArrayExpr → Bool × Bool × List Place
  placed_term t = (t.0, t.1, places_in_array t.2)

  abbrev part_term : Bool × Bool × ArrayExpr → Bool × Bool × Part
  part_term t = (t.0, t.1, part_of t.2)

  abbrev Branch : Type 0
  Branch = Whole × Whole

  abbrev bare_branch : Branch → ArrayExpr × ArrayExpr
  bare_branch t = (t.0.0, t.1.0)

  abbrev placed_branch : ArrayExpr × ArrayExpr → List Place × List Place
  placed_branch t = (places_in_array t.0, places_in_array t.1)

  abbrev part_branch : ArrayExpr × ArrayExpr → Part × Part
  part_branch t = (part_of t.0, part_of t.1)

  signed : (terms : List Term) → Every (PlaceStands P) (in_signed (map placed_term (map bare_term terms))) →
      Every (λ (term : Bool × Bool × Part). Answers P Anything term.2.1) (map part_term (map bare_term terms))
  unfolding Law
  signed [] h = tt
  signed (term ∷ terms) h =
      let rest = in_signed (map placed_term (map bare_term terms)) in
      (term.2.1 (every_front (PlaceStands P) (places_in_array term.2.0) rest h), signed terms (every_back (PlaceStands P) (places_in_array term.2.0) rest h))

  plain : (parts : List Whole) → Every (PlaceStands P) (in_parts (map places_in_array (map (λ t. t.0) parts))) → Every (λ (part : Part). Answers P Anything (of_part part)) (map part_of (map (λ t. t.0) parts))
  unfolding Law
  plain [] h = tt
  plain (part ∷ parts) h =
      let rest = in_parts (map places_in_array (map (λ t. t.0) parts)) in
      (part.1 (every_front (PlaceStands P) (places_in_array part.0) rest h), plain parts (every_back (PlaceStands P) (places_in_array part.0) rest h))

  branched : (branches : List Branch) → Every (PlaceStands P) (in_branches (map placed_branch (map bare_branch branches))) →
      Every (λ (branch : Part × Part). Answers P Anything (both branch.0.1 branch.1.1)) (map part_branch (map bare_branch branches))
  unfolding Law
  branched [] k = tt
  branched (branch ∷ others) k =
      let rest = in_branches (map placed_branch (map bare_branch others)) in
      let here = every_front (PlaceStands P) (places_in_array branch.0.0 ++ places_in_array branch.1.0) rest k in (
        both_answers P _ _ (branch.0.1 (every_front (PlaceStands P) (places_in_array branch.0.0) (places_in_array branch.1.0) here)) (branch.1.1 (every_back (PlaceStands P) (places_in_array branch.0.0) (places_in_array branch.1.0) here)),
        branched others (every_back (PlaceStands P) (places_in_array branch.0.0 ++ places_in_array branch.1.0) rest k),
      )

  number_answers : (dims : Dims) (at : Option (Place × ℤ)) → Every (PlaceStands P) (in_number at) → Answers P Anything (size_number dims at)
  number_answers dims None h = record { holds = tt }
  number_answers dims (Some at) h = within_answers P at.0 (is_within (length dims) at.1) h.0

  node_law : (y : ArrayNode-F ANode Whole) → Every (PlaceStands P) (in_array_node (map-ArrayNode ArrayNode ArrayExpr (List Place) (List Place) places_in_array_node places_in_array (bare y))) →
      Answers P Anything (subscripts_node (map-ArrayNode ArrayNode ArrayExpr (ArrayNode × Checked) Part (λ node. (node, subscripts_of_node node)) part_of (bare y)))
  unfolding Law
  node_law (ArrayNode-F.Whole n) h = record { holds = tt }
  node_law (ArrayNode-F.Decimal text) h = record { holds = tt }
  node_law (ArrayNode-F.Str text) h = record { holds = tt }
  node_law (ArrayNode-F.Truth b) h = record { holds = tt }
  node_law (ArrayNode-F.Literal class n name) h = record { holds = tt }
  node_law ArrayNode-F.Time h = record { holds = tt }
  node_law (ArrayNode-F.Vars vars kind dims subs) h = subscripts_answer P dims subs h
  node_law (ArrayNode-F.Sum terms) h = every_answers P _ _ (signed terms h)
  node_law (ArrayNode-F.Product factors) h = every_answers P _ _ (signed factors h)
  node_law (ArrayNode-F.Power base dotted exponent) h =
      both_answers P _ _ (base.1 (every_front (PlaceStands P) (places_in_array base.0) (places_in_array exponent.0) h)) (exponent.1 (every_back (PlaceStands P) (places_in_array base.0) (places_in_array exponent.0) h))
  node_law (ArrayNode-F.Relation op left right) h =
      both_answers P _ _ (left.1 (every_front (PlaceStands P) (places_in_array left.0) (places_in_array right.0) h)) (right.1 (every_back (PlaceStands P) (places_in_array left.0) (places_in_array right.0) h))
  node_law (ArrayNode-F.Not inner) h = inner.1 h
  node_law (ArrayNode-F.All parts) h = every_answers P of_part _ (plain parts h)
  node_law (ArrayNode-F.Any parts) h = every_answers P of_part _ (plain parts h)
  node_law (ArrayNode-F.If branches other) h =
      let inside = in_branches (map placed_branch (map bare_branch branches)) in
      both_answers P _ _ (every_answers P _ _ (branched branches (every_front (PlaceStands P) inside (places_in_array other.0) h))) (other.1 (every_back (PlaceStands P) inside (places_in_array other.0) h))
  node_law (ArrayNode-F.Call function args) h = every_answers P of_part _ (plain args h)
  node_law (ArrayNode-F.Der inner) h = inner.1 h
  node_law (ArrayNode-F.Array parts) h = every_answers P of_part _ (plain parts h)
  node_law (ArrayNode-F.Range first step last) h = record { holds = tt }
  node_law (ArrayNode-F.Size part at) h =
      both_answers P _ _ (part.1 (every_front (PlaceStands P) (places_in_array part.0) (in_number at) h)) (number_answers (shape_of part.0) at (every_back (PlaceStands P) (places_in_array part.0) (in_number at) h))
  node_law (ArrayNode-F.Sized function None sizes) h = record { holds = tt }
  node_law (ArrayNode-F.Sized function (Some part) sizes) h = part.1 (every_front (PlaceStands P) (places_in_array part.0) (map (λ size. size.0) sizes) h)

  subscripts_law : (e : ArrayExpr) → Law e
  unfolding Law NodeLaw
  subscripts_law = ind-ArrayExpr NodeLaw Law
      (λ x y is. subst (λ z. NodeLaw (roll-ArrayNode z)) is (λ h.
      subst (Answers P Anything) (sym (para-roll-ArrayNode Checked Checked subscripts_node subscripts_part (bare y)))
      (node_law y (subst (Every (PlaceStands P)) (fold-roll-ArrayNode (List Place) (List Place) in_array_node in_array (bare y)) h))))
      (λ x y is. subst (λ z. Law (roll-ArrayExpr z)) is (λ h.
      let layer : ArrayExpr-F ArrayNode ArrayExpr = map-ArrayExpr ANode Whole ArrayNode ArrayExpr (λ t. t.0) (λ t. t.0) y in
      let inside = subst (Every (PlaceStands P)) (fold-roll-ArrayExpr (List Place) (List Place) in_array_node in_array layer) h in
      subst (Answers P Anything) (sym (para-roll-ArrayExpr Checked Checked subscripts_node subscripts_part layer)) (y.node.1 inside.1)))

  pub subscripts_of_answers : (e : ArrayExpr) → ArrayStands P e → Answers P Anything (subscripts_of e)
  unfolding Law
  subscripts_of_answers e h = subscripts_law e h
