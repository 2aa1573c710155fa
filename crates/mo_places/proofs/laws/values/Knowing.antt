-- What is known of a resolved expression at an index breaks a rule at a place in it, or where one of its variables breaks it.
use Rattle.std.proofs.Common.{◌≡◌, ℕ, ◌-◌, Bool, List, [], ◌∷◌, ◌++◌, map, Option, Some, None, Ok, refl, sym, subst, zero, suc, true, false}
use Rattle.std.specs.Prelude.{fold, slice_get}
use Rattle.mo_syntax.specs.Outcome.{Outcome}
use Rattle.mo_syntax.specs.declared.place.Place.{Place}
use Rattle.mo_flat.specs.declared.array.ArrayExpr.{ArrayExpr, ArrayExpr-F, fold-roll-ArrayExpr, ind-ArrayExpr, map-ArrayExpr, para-roll-ArrayExpr, roll-ArrayExpr}
use Rattle.mo_flat.specs.declared.array.ArrayNode.{ArrayNode, ArrayNode-F, fold-roll-ArrayNode, map-ArrayNode, para-roll-ArrayNode, roll-ArrayNode}
use Rattle.mo_typing.specs.Indices.{Index, or_else}
use Rattle.mo_typing.specs.Kinds.{kind_of_node}
use Rattle.mo_values.specs.Scalars.{Known, chained, negated, of_known, related}
use Rattle.mo_eval.specs.Virtuals.{Component_element, Division, Element, Resolved, Virtual, known_at, known_of_virtual, known_of_virtuals, numbered}
use Rattle.mo_values.specs.Walk.{Factor, Part, at, branch_of, element_among, kind_or_real, known_by, known_part, number, part_of, result_node, result_of_node, signed_of, unbegun}
use Rattle.mo_values.specs.declared.value.Reckoned.{Reckoned}
use Rattle.mo_places.specs.Resolved.{ArrayNodeStands, ArrayStands, PlaceStands, ReadStands, ResolvedStands, VirtualStands, VirtualsStand, in_array, in_array_node, in_branches, in_parts, in_signed, places_in_array, places_in_array_node}
use Rattle.mo_places.specs.Stands.{Answers, Anything, Every, IfAny}
use Rattle.mo_places.specs.Written.{Written}
use Rattle.mo_places.proofs.laws.Standing.{every_append, every_back, every_front, then_answers}
use Rattle.mo_places.proofs.laws.Walking.{PartFine, call_fine, chain_fine, chained_answers, division_answers, on_both_answers, read_as_answers, reads_fine, settled_answers, terms_answer, undecided_answers}

module _ (P : Written → Type 0) (variable : ℕ → Outcome Known) (answers : (n : ℕ) → Answers P (Anything {A = Known}) (variable n)) where
  Law : ArrayExpr → Type 0
  Law e = ArrayStands P e → PartFine P (part_of variable e)

  NodeLaw : ArrayNode → Type 0
  NodeLaw node = ArrayNodeStands P node → (index : Index) → Answers P (Anything {A = Reckoned}) (result_of_node variable node index)

  abbrev Whole : Type 0
  Whole = (e : ArrayExpr) × Law e

  abbrev ANode : Type 0
  ANode = (node : ArrayNode) × NodeLaw node

  abbrev bare : ArrayNode-F ANode Whole → ArrayNode-F ArrayNode ArrayExpr
  bare y = map-ArrayNode ANode Whole ArrayNode ArrayExpr (λ t. t.0) (λ t. t.0) y

  abbrev Term : Type 0
  Term = Bool × Bool × Whole

  abbrev bare_term : Term → Bool × Bool × ArrayExpr
  bare_term t = (t.0, t.1, t.2.0)

  abbrev placed_term : Bool × Bool × ArrayExpr → Bool × Bool × List Place
  placed_term t = (t.0, t.1, places_in_array t.2)

  signed : (terms : List Term) → Every (PlaceStands P) (in_signed (map placed_term (map bare_term terms))) → Every (λ (term : Factor). PartFine P term.2) (map (signed_of variable) (map bare_term terms))
  unfolding Law
  signed [] h = tt
  signed (term ∷ terms) h =
      let rest = in_signed (map placed_term (map bare_term terms)) in
      (term.2.1 (every_front (PlaceStands P) (places_in_array term.2.0) rest h), signed terms (every_back (PlaceStands P) (places_in_array term.2.0) rest h))

  plain : (parts : List Whole) → Every (PlaceStands P) (in_parts (map places_in_array (map (λ t. t.0) parts))) → Every (PartFine P) (map (part_of variable) (map (λ t. t.0) parts))
  unfolding Law
  plain [] h = tt
  plain (part ∷ parts) h =
      let rest = in_parts (map places_in_array (map (λ t. t.0) parts)) in
      (part.1 (every_front (PlaceStands P) (places_in_array part.0) rest h), plain parts (every_back (PlaceStands P) (places_in_array part.0) rest h))

  abbrev Branch : Type 0
  Branch = Whole × Whole

  abbrev bare_branch : Branch → ArrayExpr × ArrayExpr
  bare_branch t = (t.0.0, t.1.0)

  abbrev placed_branch : ArrayExpr × ArrayExpr → List Place × List Place
  placed_branch t = (places_in_array t.0, places_in_array t.1)

  branched : (branches : List Branch) → Every (PlaceStands P) (in_branches (map placed_branch (map bare_branch branches))) →
      Every (λ (branch : Part × Part). PartFine P branch.0 × PartFine P branch.1) (map (branch_of variable) (map bare_branch branches))
  unfolding Law
  branched [] h = tt
  branched (branch ∷ others) h =
      let rest = in_branches (map placed_branch (map bare_branch others)) in
      let here = every_front (PlaceStands P) (places_in_array branch.0.0 ++ places_in_array branch.1.0) rest h in (
        (branch.0.1 (every_front (PlaceStands P) (places_in_array branch.0.0) (places_in_array branch.1.0) here), branch.1.1 (every_back (PlaceStands P) (places_in_array branch.0.0) (places_in_array branch.1.0) here)),
        branched others (every_back (PlaceStands P) (places_in_array branch.0.0 ++ places_in_array branch.1.0) rest h),
      )

  whole_fine : (t : Whole) → ArrayStands P t.0 → PartFine P (part_of variable t.0)
  unfolding Law
  whole_fine t h = t.1 h

  operands_fine : (index : Index) (parts : List Part) → Every (PartFine P) parts → Every (λ (o : Outcome Known). Answers P (Anything {A = Known}) o) (map (λ part. at part index) parts)
  operands_fine index [] h = tt
  operands_fine index (part ∷ parts) h = (h.0 _, operands_fine index parts h.1)

  among_fine : (parts : List Part) (index : Index) → Every (PartFine P) parts → Answers P (Anything {A = Reckoned}) (element_among parts index)
  among_fine parts [] h = record { holds = tt }
  among_fine parts (k ∷ index) h = by (slice_get parts (k - 1)) refl (got parts (k - 1) h)
    where
      got : (parts : List Part) (n : ℕ) → Every (PartFine P) parts → IfAny (PartFine P) (slice_get parts n)
      got [] n h = tt
      got (part ∷ parts) zero h = h.0
      got (part ∷ parts) (suc n) h = got parts n h.1

      by : (o : Option Part) → slice_get parts (k - 1) ≡ o → IfAny (PartFine P) o → Answers P (Anything {A = Reckoned}) (element_among parts (k ∷ index))
      by None is h = rw is (record { holds = tt })
      by (Some part) is h = rw is (read_as_answers P of_known (part.1 index) (h index))

  node_law : (y : ArrayNode-F ANode Whole) → Every (PlaceStands P) (in_array_node (map-ArrayNode ArrayNode ArrayExpr (List Place) (List Place) places_in_array_node places_in_array (bare y))) →
      (index : Index) → Answers P (Anything {A = Reckoned}) (result_node variable (map-ArrayNode ArrayNode ArrayExpr (ArrayNode × (Index → Outcome Reckoned)) Part (λ node. (node, result_of_node variable node)) (part_of variable) (bare y)) index)
  node_law (ArrayNode-F.Whole n) h index = record { holds = tt }
  node_law (ArrayNode-F.Decimal text) h index = record { holds = tt }
  node_law (ArrayNode-F.Str text) h index = record { holds = tt }
  node_law (ArrayNode-F.Truth b) h index = record { holds = tt }
  node_law (ArrayNode-F.Literal class n name) h index = record { holds = tt }
  node_law ArrayNode-F.Time h index = record { holds = tt }
  node_law (ArrayNode-F.Vars vars kind dims subs) h index = read_as_answers P of_known (variable _) (answers _)
  node_law (ArrayNode-F.Sum terms) h index = terms_answer P index (map (signed_of variable) (map bare_term terms)) (Ok (number 0)) (record { holds = tt }) (signed terms h)
  node_law (ArrayNode-F.Product factors) h index = chain_fine P (map (signed_of variable) (map bare_term factors)) unbegun (λ index. record { holds = tt }) (signed factors h) index
  node_law (ArrayNode-F.Power base dotted exponent) h index =
      undecided_answers P (at (part_of variable base.0) index ∷ at (part_of variable exponent.0) index ∷ []) (
        whole_fine base (every_front (PlaceStands P) (places_in_array base.0) (places_in_array exponent.0) h) _,
        (whole_fine exponent (every_back (PlaceStands P) (places_in_array base.0) (places_in_array exponent.0) h) _, tt),
      )
  node_law (ArrayNode-F.Relation op left right) h index =
      on_both_answers P (related op) (at (part_of variable left.0) index) (at (part_of variable right.0) index)
      (whole_fine left (every_front (PlaceStands P) (places_in_array left.0) (places_in_array right.0) h) _)
      (whole_fine right (every_back (PlaceStands P) (places_in_array left.0) (places_in_array right.0) h) _)
  node_law (ArrayNode-F.Not inner) h index = read_as_answers P (λ known. of_known (negated known)) (at (part_of variable inner.0) index) (whole_fine inner h _)
  node_law (ArrayNode-F.All parts) h index =
      let operands = map (λ (part : Part). at part index) (map (part_of variable) (map (λ t. t.0) parts)) in
      read_as_answers P of_known (chained false operands) (chained_answers P false operands (operands_fine index (map (part_of variable) (map (λ t. t.0) parts)) (plain parts h)))
  node_law (ArrayNode-F.Any parts) h index =
      let operands = map (λ (part : Part). at part index) (map (part_of variable) (map (λ t. t.0) parts)) in
      read_as_answers P of_known (chained true operands) (chained_answers P true operands (operands_fine index (map (part_of variable) (map (λ t. t.0) parts)) (plain parts h)))
  node_law (ArrayNode-F.If branches other) h index =
      let inside = in_branches (map placed_branch (map bare_branch branches)) in
      let reads = reads_fine P index (map (branch_of variable) (map bare_branch branches)) (branched branches (every_front (PlaceStands P) inside (places_in_array other.0) h)) in
      undecided_answers P _ (every_append (λ (o : Outcome Known). Answers P (Anything {A = Known}) o) _ (at (part_of variable other.0) index ∷ []) reads
      (whole_fine other (every_back (PlaceStands P) inside (places_in_array other.0) h) _, tt))
  node_law (ArrayNode-F.Call function args) h index = call_fine P function (map (part_of variable) (map (λ t. t.0) args)) index (plain args h)
  node_law (ArrayNode-F.Der inner) h index = undecided_answers P (at (part_of variable inner.0) index ∷ []) (whole_fine inner h _, tt)
  node_law (ArrayNode-F.Array parts) h index = among_fine (map (part_of variable) (map (λ t. t.0) parts)) index (plain parts h)
  node_law (ArrayNode-F.Range first step last) h index = record { holds = tt }
  node_law (ArrayNode-F.Size part at) h index = record { holds = tt }
  node_law (ArrayNode-F.Sized function None sizes) h index = record { holds = tt }
  node_law (ArrayNode-F.Sized function (Some part) sizes) h index =
      read_as_answers P of_known (known_by variable part.0 []) (whole_fine part (every_front (PlaceStands P) (places_in_array part.0) (map (λ size. size.0) sizes) h) [])

  expression_law : (y : ArrayExpr-F ANode Whole) → Law (roll-ArrayExpr (map-ArrayExpr ANode Whole ArrayNode ArrayExpr (λ t. t.0) (λ t. t.0) y))
  unfolding Law NodeLaw
  expression_law y h =
      let layer : ArrayExpr-F ArrayNode ArrayExpr = map-ArrayExpr ANode Whole ArrayNode ArrayExpr (λ t. t.0) (λ t. t.0) y in
      let inside = subst (Every (PlaceStands P)) (fold-roll-ArrayExpr (List Place) (List Place) in_array_node in_array layer) h in
      λ index.
      subst (λ (f : Index → Outcome Known). Answers P (Anything {A = Known}) (f index)) (sym (para-roll-ArrayExpr (Index → Outcome Reckoned) (Index → Outcome Known) (result_node variable) known_part layer))
      (then_answers P Anything Anything (result_of_node variable y.node.0 index) _ (y.node.1 inside.1 index) (λ result _. settled_answers P y.place inside.0 (kind_or_real (kind_of_node y.node.0 y.place)) result))

  known_law : (e : ArrayExpr) → Law e
  unfolding Law NodeLaw
  known_law = ind-ArrayExpr NodeLaw Law
      (λ x y is. subst (λ z. NodeLaw (roll-ArrayNode z)) is (λ h index.
      subst (λ (f : Index → Outcome Reckoned). Answers P (Anything {A = Reckoned}) (f index)) (sym (para-roll-ArrayNode (Index → Outcome Reckoned) (Index → Outcome Known) (result_node variable) known_part (bare y)))
      (node_law y (subst (Every (PlaceStands P)) (fold-roll-ArrayNode (List Place) (List Place) in_array_node in_array (bare y)) h) index)))
      (λ x y is. subst (λ z. Law (roll-ArrayExpr z)) is (expression_law y))

  pub known_by_answers : (e : ArrayExpr) → ArrayStands P e → (index : Index) → Answers P (Anything {A = Known}) (known_by variable e index)
  unfolding Law
  known_by_answers e h index = known_law e h index

-- ---- virtual variables

module _ (P : Written → Type 0) (read : Element → Outcome Known) (reads : ReadStands P read) where
  abbrev AllFine : List (Outcome Known) → Type 0
  AllFine known = Every (λ (o : Outcome Known). Answers P (Anything {A = Known}) o) known

  numbered_answers : (known : List (Outcome Known)) → AllFine known → (n : ℕ) → Answers P (Anything {A = Known}) (numbered known n)
  numbered_answers known h n = got known (n - 1) h
    where
      got : (known : List (Outcome Known)) (n : ℕ) → AllFine known → Answers P (Anything {A = Known}) (or_else (slice_get known n) (Ok None))
      got [] n h = record { holds = tt }
      got (o ∷ known) zero h = h.0
      got (o ∷ known) (suc n) h = got known n h.1

  virtual_answers : (before : List (Outcome Known)) (virtual : Virtual) → AllFine before → VirtualStands P virtual → Answers P (Anything {A = Known}) (known_of_virtual read before virtual)
  virtual_answers before (Component_element element) hb h = reads element h
  virtual_answers before (Division place function a b) hb h =
      then_answers P Anything Anything (known_by (numbered before) a []) _ (known_by_answers P (numbered before) (numbered_answers before hb) a h.1 []) (λ x _.
      then_answers P Anything Anything (known_by (numbered before) b []) _ (known_by_answers P (numbered before) (numbered_answers before hb) b h.2 []) (λ y _. division_answers P place h.0 function x y))

  virtuals_answer : (virtuals : List Virtual) (before : List (Outcome Known)) → AllFine before → VirtualsStand P virtuals →
      AllFine (fold (λ before virtual. before ++ known_of_virtual read before virtual ∷ []) before virtuals)
  virtuals_answer [] before hb h = hb
  virtuals_answer (virtual ∷ virtuals) before hb h =
      virtuals_answer virtuals (before ++ known_of_virtual read before virtual ∷ [])
      (every_append (λ (o : Outcome Known). Answers P (Anything {A = Known}) o) before (known_of_virtual read before virtual ∷ []) hb (virtual_answers before virtual hb h.0, tt)) h.1

  pub known_at_answers : (resolved : Resolved) → ResolvedStands P resolved → (index : Index) → Answers P (Anything {A = Known}) (known_at read resolved index)
  known_at_answers resolved h index =
      known_by_answers P (numbered (known_of_virtuals read resolved.virtuals))
      (numbered_answers (known_of_virtuals read resolved.virtuals) (virtuals_answer resolved.virtuals [] tt h.virtuals)) resolved.expression h.expression index
