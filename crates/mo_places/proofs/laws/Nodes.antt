-- What is made of an expression stands where the scope and the expression do.
use Rattle.std.proofs.Common.{List, Option}
use Rattle.mo_syntax.specs.declared.expr.Arg.{Arg}
use Rattle.mo_syntax.specs.declared.expr.Args.{Args}
use Rattle.mo_syntax.specs.declared.expr.BranchOf.{BranchOf}
use Rattle.mo_syntax.specs.declared.expr.FactorOf.{FactorOf}
use Rattle.mo_syntax.specs.declared.expr.Node.{Node, Node-F}
use Rattle.mo_syntax.specs.declared.expr.TermOf.{TermOf}
use Rattle.mo_syntax.specs.declared.place.Place.{Place}
use Rattle.mo_syntax.specs.declared.rules.TheConstants.{OUTSIDE_PROFILE}
use Rattle.mo_flat.specs.declared.array.ArrayExpr.{ArrayExpr}
use Rattle.mo_flat.specs.declared.array.ArrayNode.TheVariants.{Whole, Decimal, Str, Truth, Not, All, Any, Array}
use Rattle.mo_scope.specs.Frames.{Scope}
use Rattle.mo_scope.specs.Rows.{Table}
use Rattle.mo_eval.specs.Contexts.{Part, read_element}
use Rattle.mo_eval.specs.References.{is_replaced}
use Rattle.mo_values.specs.Made.{chosen}
use Rattle.mo_eval.specs.Resolving.{made_choice, made_node, make_part, make_parts}
use Rattle.mo_eval.specs.Virtuals.{Ask, Making, make}
use Rattle.mo_values.specs.declared.context.Context.{Context}
use Rattle.mo_places.specs.InFiles.{Descends}
use Rattle.mo_places.specs.Resolved.{ArrayNodeStands, ArrayStands, AskStands, Makes, PartStands}
use Rattle.mo_places.specs.Stands.{Every, FrameStands, IfAny, TableStands}
use Rattle.mo_places.specs.Written.{Written, At}
use Rattle.mo_places.proofs.laws.Calling.{CalleePartStands, call_makes}
use Rattle.mo_places.proofs.laws.Forming.{all_stand, any_stand, array_stands, decimal_stands, not_stands, text_stands, truth_stands, whole_stands}
use Rattle.mo_places.proofs.laws.Layers.{LayersStand}
use Rattle.mo_places.proofs.laws.Making.{broken_makes, makes, then_makes}
use Rattle.mo_places.proofs.laws.Referring.{IdentifiersStand}
use Rattle.mo_places.proofs.laws.Resolving.{ChoiceStands, at_place_makes, choice_makes, chosen_stands, end_makes, name_makes, part_makes, parts_make, power_makes, product_makes, range_makes, reads_stand, relation_makes, sum_makes}

abbrev pub Form : Type 0
Form = Node-F (Arg × Option Part) (Node × (Place → Context → Making ArrayExpr)) (Args × Option (List Part)) Part

-- the parts of a form stand
abbrev pub FormStands : (Written → Type 0) → Form → Type 0
FormStands P (Node-F.Ref reference) = IdentifiersStand P reference.parts
FormStands P (Node-F.Sum terms) = Every (λ (term : TermOf Part). PartStands P term.value) terms
FormStands P (Node-F.Product factors) = Every (λ (factor : FactorOf Part). PartStands P factor.value) factors
FormStands P (Node-F.Power base dotted exponent) = PartStands P base × PartStands P exponent
FormStands P (Node-F.Relation op left right) = PartStands P left × PartStands P right
FormStands P (Node-F.Not inner) = PartStands P inner
FormStands P (Node-F.All operands) = Every (PartStands P) operands
FormStands P (Node-F.Any operands) = Every (PartStands P) operands
FormStands P (Node-F.Range first step last) = PartStands P first × IfAny (PartStands P) step × PartStands P last
FormStands P (Node-F.If branches other) = Every (λ (branch : BranchOf Part). PartStands P branch.condition × PartStands P branch.value) branches × PartStands P other
FormStands P (Node-F.Call callee arguments) = CalleePartStands P callee × IfAny (Every (PartStands P)) arguments.1
FormStands P (Node-F.Array elements) = Every (PartStands P) elements
FormStands P form = Unit {0}

module _ (P : Written → Type 0) (descends : Descends P) (layers : LayersStand P) (table : Table) (stands : TableStands P table) (ask : Ask) (asks : AskStands P ask) (scope : Scope) (framed : FrameStands P scope.frame) where
  pub form_makes : (form : Form) → FormStands P form → (place : Place) → P (At place) → (context : Context) → Makes P (ArrayStands P) (made_node table ask scope form place context)
  form_makes (Node-F.Whole n) h place hp context = at_place_makes P place (make (Whole n)) hp (makes P (ArrayNodeStands P) (Whole n) (whole_stands P n))
  form_makes (Node-F.Decimal text) h place hp context = at_place_makes P place (make (Decimal text)) hp (makes P (ArrayNodeStands P) (Decimal text) (decimal_stands P text))
  form_makes (Node-F.Str text) h place hp context = at_place_makes P place (make (Str text)) hp (makes P (ArrayNodeStands P) (Str text) (text_stands P text))
  form_makes (Node-F.Truth b) h place hp context = at_place_makes P place (make (Truth b)) hp (makes P (ArrayNodeStands P) (Truth b) (truth_stands P b))
  form_makes (Node-F.Ref reference) h place hp context = at_place_makes P place _ hp (name_makes P descends layers table stands ask asks scope framed context place reference hp h)
  form_makes (Node-F.Sum terms) h place hp context = at_place_makes P place _ hp (sum_makes P context place terms hp h)
  form_makes (Node-F.Product factors) h place hp context = at_place_makes P place _ hp (product_makes P context factors h)
  form_makes (Node-F.Power base dotted exponent) h place hp context = at_place_makes P place _ hp (power_makes P context place base dotted exponent hp h.0 h.1)
  form_makes (Node-F.Relation op left right) h place hp context = at_place_makes P place _ hp (relation_makes P context op left right h.0 h.1)
  form_makes (Node-F.Not inner) h place hp context =
      at_place_makes P place _ hp (then_makes P (ArrayStands P) (ArrayNodeStands P) (make_part context inner) _ (part_makes P context inner h) (λ e he. makes P (ArrayNodeStands P) (Not e) (not_stands P e he)))
  form_makes (Node-F.All operands) h place hp context =
      at_place_makes P place _ hp (then_makes P (Every (ArrayStands P)) (ArrayNodeStands P) (make_parts context operands) _ (parts_make P context operands h) (λ es he. makes P (ArrayNodeStands P) (All es) (all_stand P es he)))
  form_makes (Node-F.Any operands) h place hp context =
      at_place_makes P place _ hp (then_makes P (Every (ArrayStands P)) (ArrayNodeStands P) (make_parts context operands) _ (parts_make P context operands h) (λ es he. makes P (ArrayNodeStands P) (Any es) (any_stand P es he)))
  form_makes (Node-F.Range first step last) h place hp context =
      at_place_makes P place _ hp (range_makes P descends layers (read_element ask is_replaced) (reads_stand P ask asks) context place first step last hp h.0 h.1 h.2)
  form_makes (Node-F.If branches other) h place hp context =
      then_makes P (ChoiceStands P) (ArrayStands P) (made_choice (read_element ask is_replaced) context branches other) _
      (choice_makes P descends layers (read_element ask is_replaced) (reads_stand P ask asks) context branches other h.0 h.1)
      (λ choice hc. makes P (ArrayStands P) (chosen place choice) (chosen_stands P descends layers (read_element ask is_replaced) (reads_stand P ask asks) place choice hp hc))
  form_makes (Node-F.Call callee arguments) h place hp context =
      at_place_makes P place _ hp (call_makes P descends layers (read_element ask is_replaced) (reads_stand P ask asks) table stands scope framed context place hp callee h.0 arguments.1 h.1)
  form_makes (Node-F.Tuple outputs) h place hp context = broken_makes P (ArrayStands P) OUTSIDE_PROFILE place hp
  form_makes (Node-F.Array elements) h place hp context =
      at_place_makes P place _ hp (then_makes P (Every (ArrayStands P)) (ArrayNodeStands P) (make_parts context elements) _ (parts_make P context elements h) (λ es he. makes P (ArrayNodeStands P) (Array es) (array_stands P es he)))
  form_makes (Node-F.ArrayFor element iterators) h place hp context = broken_makes P (ArrayStands P) OUTSIDE_PROFILE place hp
  form_makes (Node-F.Matrix rows) h place hp context = broken_makes P (ArrayStands P) OUTSIDE_PROFILE place hp
  form_makes Node-F.EndMark h place hp context = at_place_makes P place _ hp (end_makes P context place hp)
