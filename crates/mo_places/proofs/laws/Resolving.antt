-- What is made of each form of an expression stands where what is made of its parts does.
use Rattle.std.proofs.Common.{◌≡◌, ℕ, pos, Bool, true, false, ◌&&◌, not, refl, List, [], ◌∷◌, Option, Some, None}
use Rattle.mo_syntax.specs.Outcome.{Outcome, and_then}
use Rattle.mo_syntax.specs.declared.expr.BranchOf.{BranchOf}
use Rattle.mo_syntax.specs.declared.expr.FactorOf.{FactorOf}
use Rattle.mo_syntax.specs.declared.expr.ReferenceOf.{ReferenceOf}
use Rattle.mo_syntax.specs.declared.expr.TermOf.{TermOf}
use Rattle.mo_syntax.specs.declared.place.Place.{Place}
use Rattle.mo_flat.specs.declared.array.ArrayExpr.{ArrayExpr, roll-ArrayExpr}
use Rattle.mo_flat.specs.declared.array.ArrayNode.{ArrayNode}
use Rattle.mo_flat.specs.declared.array.ArrayNode.TheVariants.{Product, Relation, If}
use Rattle.mo_scope.specs.Frames.{Scope}
use Rattle.mo_scope.specs.Lookup.{Found, Component, Class, Iteration, Function}
use Rattle.mo_scope.specs.Lookup.{Literal as found_literal, Time as found_time}
use Rattle.mo_scope.specs.Rows.{Table}
use Rattle.mo_syntax.specs.declared.rules.TheConstants.{WRONG_TYPE, NAME_NOT_FOUND}
use Rattle.mo_typing.specs.Dims.{dims_of}
use Rattle.mo_eval.specs.Contexts.{Part, alone, place_of, read_element, truth_of}
use Rattle.mo_values.specs.Asked.{layered, only_scalar, only_whole, operand, read_in}
use Rattle.mo_eval.specs.References.{Named, Components, Found_at, is_replaced, named}
use Rattle.mo_values.specs.Made.{Choice, chosen, is_matrix, is_string_sum, made_end, power_of, range_of, sum_of}
use Rattle.mo_eval.specs.Resolving.{at_place, literal_text, made_choice, made_found, made_name, made_named, made_power, made_product, made_range, made_sum, make_part, make_parts, read_end, read_step}
use Rattle.mo_values.specs.Scalars.{Known, has_values}
use Rattle.mo_eval.specs.Virtuals.{Ask, Element, Making, make, make_each, make_from, make_then}
use Rattle.mo_values.specs.declared.context.Context.{Context}
use Rattle.mo_values.specs.declared.value.Scalar.{Scalar}
use Rattle.mo_places.specs.InFiles.{Descends}
use Rattle.mo_places.specs.Resolved.{ArrayNodeStands, ArrayStands, AskStands, Makes, PartStands, ReadStands, ReadingStands, ResolvedStands}
use Rattle.mo_places.specs.Stands.{Answers, Anything, Every, FrameStands, IfAny, TableStands}
use Rattle.mo_places.specs.Written.{Written, At}
use Rattle.mo_places.proofs.laws.Forming.{expression_stands, if_stands, literal_stands, power_stands, product_stands, range_stands, relation_stands, sum_stands, time_stands, whole_stands}
use Rattle.mo_places.proofs.laws.Layers.{LayersStand, truth_of_answers, whole_scalar_answers}
use Rattle.mo_places.proofs.laws.Making.{alone_stands, broken_makes, each_makes, from_makes, makes, then_makes}
use Rattle.mo_places.proofs.laws.Referring.{IdentifiersStand, NamedStands, named_answers}
use Rattle.mo_places.proofs.laws.Selecting.{made_reference_makes}
use Rattle.mo_places.proofs.laws.Standing.{every_weaker, if_answers, then_answers}

-- what is read of elements one reference deeper
pub reads_stand : (P : Written → Type 0) (ask : Ask) → AskStands P ask → ReadStands P (read_element ask is_replaced)
reads_stand P ask asks = λ element h.
    let read = then_answers P (ReadingStands P) Anything (ask element.place) (λ reading. reading.value element) (asks element.place h.place) (λ reading hr. hr.value element h) in
    if_answers P Anything (has_values element.kind) _ _ read (if_answers P Anything (is_replaced element) _ _ read (record { holds = tt }))

abbrev pub ChoiceStands : (Written → Type 0) → Choice → Type 0
ChoiceStands P choice = Every (λ branch. ArrayStands P branch.0 × ArrayStands P branch.1) choice.0 × ArrayStands P choice.1

module _ (P : Written → Type 0) where
  pub at_place_makes : (place : Place) (made : Making ArrayNode) → P (At place) → Makes P (ArrayNodeStands P) made → Makes P (ArrayStands P) (at_place place made)
  at_place_makes place made hp h = then_makes P (ArrayNodeStands P) (ArrayStands P) made _ h (λ node hn. makes P (ArrayStands P) (roll-ArrayExpr (record { place = place; node = node })) (expression_stands P place node hp hn))

  pub part_makes : (context : Context) (part : Part) → PartStands P part → Makes P (ArrayStands P) (make_part context part)
  part_makes context part h = h.1 (operand context)

  pub parts_make : (context : Context) (parts : List Part) → Every (PartStands P) parts → Makes P (Every (ArrayStands P)) (make_parts context parts)
  parts_make context parts h = each_makes P (ArrayStands P) (make_part context) parts (every_weaker (PartStands P) (λ (part : Part). Makes P (ArrayStands P) (make_part context part)) (part_makes context) parts h)

  -- ---- chains

  SignedStands : Bool × Bool × ArrayExpr → Type 0
  SignedStands term = ArrayStands P term.2

  pub sum_makes : (context : Context) (place : Place) (terms : List (TermOf Part)) → P (At place) → Every (λ (term : TermOf Part). PartStands P term.value) terms → Makes P (ArrayNodeStands P) (made_sum context place terms)
  unfolding SignedStands
  sum_makes context place terms hp h =
      then_makes P (Every SignedStands) (ArrayNodeStands P) (make_each (λ (term : TermOf Part). make_then (make_part context term.value) (λ e. make (term.minus, term.dotted, e))) terms) _
      (each_makes P SignedStands (λ (term : TermOf Part). make_then (make_part context term.value) (λ e. make (term.minus, term.dotted, e))) terms
      (every_weaker (λ (term : TermOf Part). PartStands P term.value) _
      (λ term ht. then_makes P (ArrayStands P) SignedStands (make_part context term.value) _ (part_makes context term.value ht) (λ e he. makes P SignedStands (term.minus, term.dotted, e) he)) terms h))
      (λ made hm. from_makes P (ArrayNodeStands P) (sum_of place made) (if_answers P (ArrayNodeStands P) (is_string_sum made) _ _ (record { holds = hp }) (record { holds = sum_stands P made hm })))

  pub product_makes : (context : Context) (factors : List (FactorOf Part)) → Every (λ (factor : FactorOf Part). PartStands P factor.value) factors → Makes P (ArrayNodeStands P) (made_product context factors)
  unfolding SignedStands
  product_makes context factors h =
      then_makes P (Every SignedStands) (ArrayNodeStands P) (make_each (λ (factor : FactorOf Part). make_then (make_part context factor.value) (λ e. make (factor.divide, factor.dotted, e))) factors) _
      (each_makes P SignedStands (λ (factor : FactorOf Part). make_then (make_part context factor.value) (λ e. make (factor.divide, factor.dotted, e))) factors
      (every_weaker (λ (factor : FactorOf Part). PartStands P factor.value) _
      (λ factor hf. then_makes P (ArrayStands P) SignedStands (make_part context factor.value) _ (part_makes context factor.value hf) (λ e he. makes P SignedStands (factor.divide, factor.dotted, e) he)) factors h))
      (λ made hm. makes P (ArrayNodeStands P) (Product made) (product_stands P made hm))

  pub power_makes : (context : Context) (place : Place) (base : Part) (dotted : Bool) (exponent : Part) → P (At place) → PartStands P base → PartStands P exponent → Makes P (ArrayNodeStands P) (made_power context place base dotted exponent)
  power_makes context place base dotted exponent hp hb he =
      then_makes P (ArrayStands P) (ArrayNodeStands P) (make_part context base) _ (part_makes context base hb) (λ b h.
      then_makes P (ArrayStands P) (ArrayNodeStands P) (make_part context exponent) _ (part_makes context exponent he) (λ e k.
      from_makes P (ArrayNodeStands P) (power_of place b dotted e) (if_answers P (ArrayNodeStands P) (not dotted && is_matrix (dims_of b)) _ _ (record { holds = hp }) (record { holds = power_stands P b dotted e h k }))))

  pub relation_makes : (context : Context) (op : _) (left right : Part) → PartStands P left → PartStands P right →
      Makes P (ArrayNodeStands P) (make_then (make_part context left) (λ left. make_then (make_part context right) (λ right. make (Relation op left right))))
  relation_makes context op left right hl hr =
      then_makes P (ArrayStands P) (ArrayNodeStands P) (make_part context left) _ (part_makes context left hl) (λ a ha.
      then_makes P (ArrayStands P) (ArrayNodeStands P) (make_part context right) _ (part_makes context right hr) (λ b hb. makes P (ArrayNodeStands P) (Relation op a b) (relation_stands P op a b ha hb)))

  -- ---- the size of the dimension

  pub end_makes : (context : Context) (place : Place) → P (At place) → Makes P (ArrayNodeStands P) (make_from (made_end context place))
  end_makes context place hp = from_makes P (ArrayNodeStands P) (made_end context place) (by context.last refl)
    where
      by : (last : Option ℕ) → context.last ≡ last → Answers P (ArrayNodeStands P) (made_end context place)
      by None is = rw is (record { holds = hp })
      by (Some size) is = rw is (record { holds = whole_stands P (pos size) })

-- ---- ranges

range_answers : (P : Written → Type 0) (place : Place) → P (At place) → (first step last : Known) → Answers P (ArrayNodeStands P) (range_of place first step last)
range_answers P place hp (Some (Scalar.Whole a)) (Some (Scalar.Whole b)) (Some (Scalar.Whole c)) = record { holds = range_stands P a b c }
range_answers P place hp (Some (Scalar.Whole a)) (Some (Scalar.Whole b)) (Some (Scalar.Truth c)) = record { holds = hp }
range_answers P place hp (Some (Scalar.Whole a)) (Some (Scalar.Whole b)) (Some (Scalar.Literal class n)) = record { holds = hp }
range_answers P place hp (Some (Scalar.Whole a)) (Some (Scalar.Whole b)) None = record { holds = hp }
range_answers P place hp (Some (Scalar.Whole a)) (Some (Scalar.Truth b)) last = record { holds = hp }
range_answers P place hp (Some (Scalar.Whole a)) (Some (Scalar.Literal class n)) last = record { holds = hp }
range_answers P place hp (Some (Scalar.Whole a)) None last = record { holds = hp }
range_answers P place hp (Some (Scalar.Truth a)) step last = record { holds = hp }
range_answers P place hp (Some (Scalar.Literal class n)) step last = record { holds = hp }
range_answers P place hp None step last = record { holds = hp }

module _ (P : Written → Type 0) (descends : Descends P) (layers : LayersStand P) (read : Element → Outcome Known) (reads : ReadStands P read) where
  part_place : (part : Part) → PartStands P part → P (At (place_of part))
  part_place part h = (descends.expression part.0 h.0).0

  read_end_answers : (context : Context) (part : Part) → PartStands P part → Answers P Anything (read_end read context part)
  read_end_answers context part h =
      then_answers P (ResolvedStands P) Anything (alone part (read_in context)) _ (alone_stands P part (read_in context) h) (λ resolved hr.
      then_answers P Anything Anything (layered (only_whole (place_of part)) (only_scalar WRONG_TYPE (place_of part)) resolved.expression) _
      (whole_scalar_answers P layers (place_of part) (part_place part h) resolved.expression hr.expression) (λ _ _. layers.known read reads resolved hr []))

  read_step_answers : (context : Context) (step : Option Part) → IfAny (PartStands P) step → Answers P Anything (read_step read context step)
  read_step_answers context None h = record { holds = tt }
  read_step_answers context (Some part) h = read_end_answers context part h

  pub range_makes : (context : Context) (place : Place) (first : Part) (step : Option Part) (last : Part) → P (At place) → PartStands P first → IfAny (PartStands P) step → PartStands P last →
      Makes P (ArrayNodeStands P) (make_from (made_range read context place first step last))
  range_makes context place first step last hp hf hs hl =
      from_makes P (ArrayNodeStands P) (made_range read context place first step last)
      (then_answers P Anything (ArrayNodeStands P) (read_end read context first) _ (read_end_answers context first hf) (λ a _.
      then_answers P Anything (ArrayNodeStands P) (read_step read context step) _ (read_step_answers context step hs) (λ b _.
      then_answers P Anything (ArrayNodeStands P) (read_end read context last) _ (read_end_answers context last hl) (λ c _. range_answers P place hp a b c))))

  -- ---- if-expressions

  -- the branches that are left behind one, by its condition
  abbrev decided_by : Context → BranchOf Part → Making Choice → Known → Making Choice
  decided_by context branch further (Some (Scalar.Truth true)) = make_then (make_part context branch.value) (λ value. make ([], value))
  decided_by context branch further (Some (Scalar.Truth false)) = further
  decided_by context branch further known =
      make_then (make_part context branch.condition) (λ condition.
      make_then (make_part context branch.value) (λ value.
      make_then further (λ choice. make ((condition, value) ∷ choice.0, choice.1))))

  kept_makes : (context : Context) (branch : BranchOf Part) (further : Making Choice) → PartStands P branch.condition → PartStands P branch.value → Makes P (ChoiceStands P) further →
      Makes P (ChoiceStands P) (make_then (make_part context branch.condition) (λ condition. make_then (make_part context branch.value) (λ value. make_then further (λ choice. make ((condition, value) ∷ choice.0, choice.1)))))
  kept_makes context branch further hc hv hf =
      then_makes P (ArrayStands P) (ChoiceStands P) (make_part context branch.condition) _ (part_makes P context branch.condition hc) (λ condition hx.
      then_makes P (ArrayStands P) (ChoiceStands P) (make_part context branch.value) _ (part_makes P context branch.value hv) (λ value hy.
      then_makes P (ChoiceStands P) (ChoiceStands P) further _ hf (λ choice hd. makes P (ChoiceStands P) ((condition, value) ∷ choice.0, choice.1) (((hx, hy), hd.0), hd.1))))

  decided_makes : (context : Context) (branch : BranchOf Part) (further : Making Choice) → PartStands P branch.condition → PartStands P branch.value → Makes P (ChoiceStands P) further → (known : Known) →
      Makes P (ChoiceStands P) (decided_by context branch further known)
  decided_makes context branch further hc hv hf (Some (Scalar.Truth true)) =
      then_makes P (ArrayStands P) (ChoiceStands P) (make_part context branch.value) _ (part_makes P context branch.value hv) (λ value hy. makes P (ChoiceStands P) ([], value) (tt, hy))
  decided_makes context branch further hc hv hf (Some (Scalar.Truth false)) = hf
  decided_makes context branch further hc hv hf (Some (Scalar.Whole n)) = kept_makes context branch further hc hv hf
  decided_makes context branch further hc hv hf (Some (Scalar.Literal class n)) = kept_makes context branch further hc hv hf
  decided_makes context branch further hc hv hf None = kept_makes context branch further hc hv hf

  pub choice_makes : (context : Context) (branches : List (BranchOf Part)) (other : Part) → Every (λ (branch : BranchOf Part). PartStands P branch.condition × PartStands P branch.value) branches → PartStands P other →
      Makes P (ChoiceStands P) (made_choice read context branches other)
  choice_makes context [] other h ho =
      then_makes P (ArrayStands P) (ChoiceStands P) (make_part context other) _ (part_makes P context other ho) (λ value hv. makes P (ChoiceStands P) ([], value) (tt, hv))
  choice_makes context (branch ∷ branches) other h ho =
      then_makes P Anything (ChoiceStands P) (make_from (and_then (alone branch.condition (read_in context)) (truth_of read WRONG_TYPE (place_of branch.condition)))) (decided_by context branch (made_choice read context branches other))
      (from_makes P Anything (and_then (alone branch.condition (read_in context)) (truth_of read WRONG_TYPE (place_of branch.condition)))
      (then_answers P (ResolvedStands P) Anything (alone branch.condition (read_in context)) _ (alone_stands P branch.condition (read_in context) h.0.0)
      (λ resolved hr. truth_of_answers P layers read reads WRONG_TYPE (place_of branch.condition) (part_place branch.condition h.0.0) resolved hr)))
      (λ known _. decided_makes context branch (made_choice read context branches other) h.0.0 h.0.1 (choice_makes context branches other h.1 ho) known)

  pub chosen_stands : (place : Place) (choice : Choice) → P (At place) → ChoiceStands P choice → ArrayStands P (chosen place choice)
  chosen_stands place ([], other) hp h = h.1
  chosen_stands place (branch ∷ branches, other) hp h = expression_stands P place (If (branch ∷ branches) other) hp (if_stands P (branch ∷ branches) other h.0 h.1)

-- ---- names

found_answers : (P : Written → Type 0) (table : Table) (place : Place) (found : Found) → P (At place) → Answers P (ArrayNodeStands P) (made_found table place found)
found_answers P table place (found_literal class n) hp = record { holds = literal_stands P (record { 0 = class }) n (literal_text table class n) }
found_answers P table place (Iteration n) hp = record { holds = whole_stands P n }
found_answers P table place found_time hp = record { holds = time_stands P }
found_answers P table place (Class frame replaceable) hp = record { holds = hp }
found_answers P table place (Component frame member) hp = record { holds = hp }
found_answers P table place (Function code) hp = record { holds = hp }

module _ (P : Written → Type 0) (descends : Descends P) (layers : LayersStand P) (table : Table) (stands : TableStands P table) (ask : Ask) (asks : AskStands P ask) where
  named_makes : (context : Context) (place : Place) (it : Named) → P (At place) → NamedStands P it → Makes P (ArrayNodeStands P) (made_named table ask context place it)
  named_makes context place (Components []) hp h = broken_makes P (ArrayNodeStands P) NAME_NOT_FOUND place hp
  named_makes context place (Components (first ∷ others)) hp h =
      made_reference_makes P table stands descends layers ask asks (reads_stand P ask asks) context place hp first others h.0 h.1
  named_makes context place (Found_at found at) hp h = from_makes P (ArrayNodeStands P) (made_found table at found) (found_answers P table at found h.1)

  pub name_makes : (scope : Scope) → FrameStands P scope.frame → (context : Context) (place : Place) (reference : ReferenceOf Part) → P (At place) → IdentifiersStand P reference.parts →
      Makes P (ArrayNodeStands P) (made_name table ask scope context place reference)
  name_makes scope hf context place reference hp h =
      then_makes P (NamedStands P) (ArrayNodeStands P) (make_from (named table scope reference)) _ (from_makes P (NamedStands P) (named table scope reference) (named_answers P table stands scope reference hf h))
      (λ it hn. named_makes context place it hp hn)
