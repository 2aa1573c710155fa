-- What is resolved in a scope stands where the scope and the expression do.
use Rattle.std.proofs.Common.{◌≡◌, ℕ, Bool, true, false, ◌&&◌, List, [], ◌∷◌, ◌++◌, map, flat_map, Option, Some, None, refl, ap, sym, ◌∙◌, subst, if◌then◌else◌}
use Rattle.std.specs.Option.{option_map}
use Rattle.mo_syntax.specs.Outcome.{breaks}
use Rattle.mo_syntax.specs.declared.expr.Arg.{Arg, Arg-F, map-Arg, out-roll-Arg, roll-Arg}
use Rattle.mo_syntax.specs.declared.expr.Arg.TheVariants.{rolls-Partial, rolls-Value}
use Rattle.mo_syntax.specs.declared.expr.Args.{Args, Args-F, map-Args, out-roll-Args, roll-Args}
use Rattle.mo_syntax.specs.declared.expr.BranchOf.{BranchOf}
use Rattle.mo_syntax.specs.declared.expr.CalleeOf.{CalleeOf}
use Rattle.mo_syntax.specs.declared.expr.CalleeOf.TheVariants.{Named, Der, Initial, Pure}
use Rattle.mo_syntax.specs.declared.expr.Expr.{Expr, Expr-F, ind-Expr, map-Expr, out-roll-Expr, roll-Expr}
use Rattle.mo_syntax.specs.declared.expr.FactorOf.{FactorOf}
use Rattle.mo_syntax.specs.declared.expr.Node.{Node, Node-F, map-Node, out-Node, out-roll-Node, roll-Node}
use Rattle.mo_syntax.specs.declared.expr.Node.TheVariants.{Whole, Decimal, Str, Truth, Ref, Sum, Product, Power, Relation, Not, All, Any, Range, If, Call, Tuple, Array, ArrayFor, Matrix, EndMark}
use Rattle.mo_syntax.specs.declared.expr.Node.TheVariants.{rolls-Whole, rolls-Decimal, rolls-Str, rolls-Truth, rolls-Ref, rolls-Sum, rolls-Product, rolls-Power, rolls-Relation, rolls-Not, rolls-All, rolls-Any, rolls-Range, rolls-If, rolls-Call, rolls-Tuple, rolls-Array, rolls-ArrayFor, rolls-Matrix, rolls-EndMark}
use Rattle.mo_syntax.specs.declared.expr.PartOf.{PartOf}
use Rattle.mo_syntax.specs.declared.expr.ReferenceOf.{ReferenceOf}
use Rattle.mo_syntax.specs.declared.expr.TermOf.{TermOf}
use Rattle.mo_syntax.specs.declared.place.Place.{Place}
use Rattle.mo_flat.specs.declared.array.ArrayExpr.{ArrayExpr}
use Rattle.mo_scope.specs.Frames.{Scope}
use Rattle.mo_scope.specs.Rows.{Table}
use Rattle.mo_eval.specs.Contexts.{Part}
use Rattle.mo_eval.specs.Resolving.{all_arguments, is_empty, made, made_node, resolved_in, with_argument}
use Rattle.mo_eval.specs.Virtuals.{Ask, Making, make_from}
use Rattle.mo_syntax.specs.declared.rules.TheConstants.{OUTSIDE_PROFILE}
use Rattle.mo_values.specs.declared.context.Context.{Context}
use Rattle.mo_eval.specs.steps.Parts.{Former, as_branch, as_callee, as_factor, as_identifier, as_part, as_reference, as_term, made_argument, made_arguments, made_below}
use Rattle.mo_eval.proofs.Forms.{at_All, at_Any, at_Args, at_Array, at_ArrayFor, at_Call, at_Decimal, at_EndMark, at_If, at_Matrix, at_Not, at_Partial, at_Power, at_Product, at_Range, at_Ref, at_Relation, at_Str, at_Sum, at_Truth, at_Tuple, at_Value, at_Whole, at_expr}
use Rattle.mo_places.specs.InFiles.{Descends}
use Rattle.mo_places.specs.Pieces.{in_argument, in_arguments_of_call, in_callee, in_name, in_node, in_ranges}
use Rattle.mo_places.specs.Resolved.{ArrayStands, AskStands, Makes, PartStands, ResolvedStands}
use Rattle.mo_places.specs.Stands.{Answers, Every, FrameStands, IfAny, TableStands}
use Rattle.mo_places.specs.TreeWritten.{in_subs, places_of_parts}
use Rattle.mo_places.specs.Written.{Written, At, Valued}
use Rattle.mo_places.proofs.laws.Calling.{CalleePartStands}
use Rattle.mo_places.proofs.laws.Layers.{LayersStand}
use Rattle.mo_places.proofs.laws.Making.{alone_stands, from_makes}
use Rattle.mo_places.proofs.laws.Nodes.{Form, FormStands, form_makes}
use Rattle.mo_places.proofs.laws.Reading.{ResolvesIn}
use Rattle.mo_places.proofs.laws.Referring.{IdentifierStands, IdentifiersStand}
use Rattle.mo_places.proofs.laws.Standing.{every_back, every_front}

maps_alike : {A B : Type 0} (f g : A → B) → ((x : A) → f x ≡ g x) → (xs : List A) → map f xs ≡ map g xs
maps_alike f g same [] = refl
maps_alike f g same (x ∷ xs) = ap (λ y. y ∷ map f xs) (same x) ∙ ap (λ ys. g x ∷ ys) (maps_alike f g same xs)

module _ (P : Written → Type 0) (descends : Descends P) (layers : LayersStand P) (table : Table) (stands : TableStands P table) (ask : Ask) (asks : AskStands P ask) (scope : Scope) (framed : FrameStands P scope.frame) where
  unfoldable ExprLaw : Expr → Type 0
  ExprLaw e = P (Valued e) → PartStands P (as_part table ask scope e)

  unfoldable NodeLaw : Node → Type 0
  NodeLaw node = Every P (in_node (out-Node node)) → (place : Place) → P (At place) → (context : Context) → Makes P (ArrayStands P) (made_below table ask scope node place context)

  unfoldable ArgsLaw : Args → Type 0
  ArgsLaw arguments = Every P (in_arguments_of_call arguments) → IfAny (Every (PartStands P)) (made_arguments table ask scope arguments)

  unfoldable ArgLaw : Arg → Type 0
  ArgLaw argument = Every P (in_argument argument) → IfAny (PartStands P) (made_argument table ask scope argument)

  abbrev ExprAt : Type 0
  ExprAt = (e : Expr) × ExprLaw e

  abbrev NodeAt : Type 0
  NodeAt = (node : Node) × NodeLaw node

  abbrev ArgsAt : Type 0
  ArgsAt = (arguments : Args) × ArgsLaw arguments

  abbrev ArgAt : Type 0
  ArgAt = (argument : Arg) × ArgLaw argument

  abbrev asked_part : Expr → Part
  asked_part = as_part table ask scope

  part_stands : (t : ExprAt) → P (Valued t.0) → PartStands P (asked_part t.0)
  unfolding ExprLaw
  part_stands t h = t.1 h

  -- ---- what a form holds

  plain : (ts : List ExprAt) → Every P (map Valued (map (λ t. t.0) ts)) → Every (PartStands P) (map asked_part (map (λ t. t.0) ts))
  plain [] h = tt
  plain (t ∷ ts) h = (part_stands t h.0, plain ts h.1)

  abbrev bare_term : TermOf ExprAt → TermOf Expr
  bare_term t = record { minus = t.minus; dotted = t.dotted; value = t.value.0 }

  terms_stand : (ts : List (TermOf ExprAt)) → Every P (map (λ (term : TermOf Expr). Valued term.value) (map bare_term ts)) → Every (λ (term : TermOf Part). PartStands P term.value) (map (as_term asked_part) (map bare_term ts))
  terms_stand [] h = tt
  terms_stand (t ∷ ts) h = (part_stands t.value h.0, terms_stand ts h.1)

  abbrev bare_factor : FactorOf ExprAt → FactorOf Expr
  bare_factor t = record { divide = t.divide; dotted = t.dotted; value = t.value.0 }

  factors_stand : (ts : List (FactorOf ExprAt)) → Every P (map (λ (factor : FactorOf Expr). Valued factor.value) (map bare_factor ts)) → Every (λ (factor : FactorOf Part). PartStands P factor.value) (map (as_factor asked_part) (map bare_factor ts))
  factors_stand [] h = tt
  factors_stand (t ∷ ts) h = (part_stands t.value h.0, factors_stand ts h.1)

  abbrev bare_branch : BranchOf ExprAt → BranchOf Expr
  bare_branch t = record { condition = t.condition.0; value = t.value.0 }

  abbrev in_branch : BranchOf Expr → List Written
  in_branch branch = Valued branch.condition ∷ Valued branch.value ∷ []

  branches_stand : (ts : List (BranchOf ExprAt)) → Every P (flat_map in_branch (map bare_branch ts)) →
      Every (λ (branch : BranchOf Part). PartStands P branch.condition × PartStands P branch.value) (map (as_branch asked_part) (map bare_branch ts))
  branches_stand [] h = tt
  branches_stand (t ∷ ts) h = ((part_stands t.condition h.0, part_stands t.value h.1.0), branches_stand ts h.1.1)

  -- ---- names

  abbrev bare_sub : Option ExprAt → Option Expr
  bare_sub None = None
  bare_sub (Some t) = Some t.0

  abbrev bare_part : PartOf ExprAt → PartOf Expr
  bare_part part = record { name = part.name; place = part.place; subs = map bare_sub part.subs }

  abbrev bare_name : ReferenceOf ExprAt → ReferenceOf Expr
  bare_name reference = record { top = reference.top; parts = map bare_part reference.parts }

  subs_stand : (subs : List (Option ExprAt)) → Every P (in_subs (map bare_sub subs)) → Every (IfAny (PartStands P)) (map (option_map asked_part) (map bare_sub subs))
  subs_stand [] h = tt
  subs_stand (None ∷ subs) h = (tt, subs_stand subs h)
  subs_stand (Some t ∷ subs) h = (part_stands t h.0, subs_stand subs h.1)

  abbrev subs_of : PartOf Expr → List Written
  subs_of part = in_subs part.subs

  identifiers_stand : (parts : List (PartOf ExprAt)) → Every P (map (λ (other : PartOf Expr). At other.place) (map bare_part parts)) → Every P (flat_map subs_of (map bare_part parts)) →
      Every (IdentifierStands P) (map (as_identifier asked_part) (map bare_part parts))
  identifiers_stand [] h hs = tt
  identifiers_stand (part ∷ parts) h hs =
      let inside = in_subs (map bare_sub part.subs) in
      let others = flat_map subs_of (map bare_part parts) in
      ((h.0, subs_stand part.subs (every_front P inside others hs)), identifiers_stand parts h.1 (every_back P inside others hs))

  name_stands : (parts : List (PartOf ExprAt)) → Every P (places_of_parts (map bare_part parts)) → Every P (flat_map subs_of (map bare_part parts)) → IdentifiersStand P (map (as_identifier asked_part) (map bare_part parts))
  name_stands [] h hs = h.0
  name_stands (part ∷ parts) h hs =
      let inside = in_subs (map bare_sub part.subs) in
      let others = flat_map subs_of (map bare_part parts) in
      ((h.0, subs_stand part.subs (every_front P inside others hs)), identifiers_stand parts h.1 (every_back P inside others hs))

  reference_stands : (reference : ReferenceOf ExprAt) → Every P (in_name (bare_name reference)) → IdentifiersStand P (as_reference asked_part (bare_name reference)).parts
  reference_stands reference h =
      let places = places_of_parts (map bare_part reference.parts) in
      let inside = flat_map subs_of (map bare_part reference.parts) in
      name_stands reference.parts (every_front P places inside h) (every_back P places inside h)

  -- ---- nodes

  -- a form whose parts stand where what it holds does
  rolled : (layer : Node-F Arg Node Args Expr) (node : Node) (form : Form) → roll-Node layer ≡ node → made_below table ask scope node ≡ made_node table ask scope form → (Every P (in_node layer) → FormStands P form) → NodeLaw (roll-Node layer)
  unfolding NodeLaw
  rolled layer node form rolls same law h place hp context =
      subst (λ (f : Former). Makes P (ArrayStands P) (f place context)) (sym (ap (made_below table ask scope) rolls ∙ same))
      (form_makes P descends layers table stands ask asks scope framed form (law (subst (λ z. Every P (in_node z)) (out-roll-Node layer) h)) place hp context)

  -- a form that is left out
  refused : (layer : Node-F Arg Node Args Expr) (node : Node) → roll-Node layer ≡ node → ((place : Place) (context : Context) → made_below table ask scope node place context ≡ make_from (breaks OUTSIDE_PROFILE place)) → NodeLaw (roll-Node layer)
  unfolding NodeLaw
  refused layer node rolls same h place hp context =
      subst (Makes P (ArrayStands P)) (sym (ap (λ n. made_below table ask scope n place context) rolls ∙ same place context)) (from_makes P (ArrayStands P) (breaks OUTSIDE_PROFILE place) (record { holds = hp }))

  abbrev bare_node : Node-F ArgAt NodeAt ArgsAt ExprAt → Node-F Arg Node Args Expr
  bare_node y = map-Node ArgAt NodeAt ArgsAt ExprAt Arg Node Args Expr (λ t. t.0) (λ t. t.0) (λ t. t.0) (λ t. t.0) y

  ref_alike : (reference : ReferenceOf ExprAt) → bare_node (Node-F.Ref reference) ≡ Node-F.Ref (bare_name reference)
  ref_alike reference =
      ap (λ parts. Node-F.Ref (record { top = reference.top; parts = parts }))
      (maps_alike _ _ (λ part. ap (λ subs. record { name = part.name; place = part.place; subs = subs }) (maps_alike _ _ (options_alike _ _ refl (λ t. refl)) part.subs)) reference.parts)
    where
      options_alike : {A B : Type 0} (f g : Option A → B) → f None ≡ g None → ((x : A) → f (Some x) ≡ g (Some x)) → (o : Option A) → f o ≡ g o
      options_alike f g none some None = none
      options_alike f g none some (Some x) = some x

  call_alike : (reference : ReferenceOf ExprAt) (arguments : ArgsAt) → bare_node (Node-F.Call (Named reference) arguments) ≡ Node-F.Call (Named (bare_name reference)) arguments.0
  call_alike reference arguments =
      ap (λ parts. Node-F.Call (Named (record { top = reference.top; parts = parts })) arguments.0)
      (maps_alike _ _ (λ part. ap (λ subs. record { name = part.name; place = part.place; subs = subs }) (maps_alike _ _ (options_alike _ _ refl (λ t. refl)) part.subs)) reference.parts)
    where
      options_alike : {A B : Type 0} (f g : Option A → B) → f None ≡ g None → ((x : A) → f (Some x) ≡ g (Some x)) → (o : Option A) → f o ≡ g o
      options_alike f g none some None = none
      options_alike f g none some (Some x) = some x

  arguments_stand : (t : ArgsAt) → Every P (in_arguments_of_call t.0) → IfAny (Every (PartStands P)) (made_arguments table ask scope t.0)
  unfolding ArgsLaw
  arguments_stand t h = t.1 h

  call_law : (callee : CalleeOf Expr) (t : ArgsAt) → (Every P (in_callee callee) → CalleePartStands P (as_callee asked_part callee)) → NodeLaw (roll-Node (Node-F.Call callee t.0))
  call_law callee t law =
      rolled (Node-F.Call callee t.0) (Call callee t.0) (Node-F.Call (as_callee asked_part callee) (t.0, made_arguments table ask scope t.0)) (rolls-Call callee t.0) (at_Call table ask scope callee t.0)
      (λ h. (law (every_front P (in_callee callee) (in_arguments_of_call t.0) h), arguments_stand t (every_back P (in_callee callee) (in_arguments_of_call t.0) h)))

  node_law : (y : Node-F ArgAt NodeAt ArgsAt ExprAt) → NodeLaw (roll-Node (bare_node y))
  node_law (Node-F.Whole n) = rolled (Node-F.Whole n) (Whole n) (Node-F.Whole n) (rolls-Whole n) (at_Whole table ask scope n) (λ h. tt)
  node_law (Node-F.Decimal text) = rolled (Node-F.Decimal text) (Decimal text) (Node-F.Decimal text) (rolls-Decimal text) (at_Decimal table ask scope text) (λ h. tt)
  node_law (Node-F.Str text) = rolled (Node-F.Str text) (Str text) (Node-F.Str text) (rolls-Str text) (at_Str table ask scope text) (λ h. tt)
  node_law (Node-F.Truth b) = rolled (Node-F.Truth b) (Truth b) (Node-F.Truth b) (rolls-Truth b) (at_Truth table ask scope b) (λ h. tt)
  node_law (Node-F.Ref reference) =
      let bare = bare_name reference in
      subst (λ layer. NodeLaw (roll-Node layer)) (sym (ref_alike reference))
      (rolled (Node-F.Ref bare) (Ref bare) (Node-F.Ref (as_reference asked_part bare)) (rolls-Ref bare) (at_Ref table ask scope bare) (λ h. reference_stands reference h))
  node_law (Node-F.Sum terms) =
      let bare = map bare_term terms in
      rolled (Node-F.Sum bare) (Sum bare) (Node-F.Sum (map (as_term asked_part) bare)) (rolls-Sum bare) (at_Sum table ask scope bare) (terms_stand terms)
  node_law (Node-F.Product factors) =
      let bare = map bare_factor factors in
      rolled (Node-F.Product bare) (Product bare) (Node-F.Product (map (as_factor asked_part) bare)) (rolls-Product bare) (at_Product table ask scope bare) (factors_stand factors)
  node_law (Node-F.Power base dotted exponent) =
      rolled (Node-F.Power base.0 dotted exponent.0) (Power base.0 dotted exponent.0) (Node-F.Power (asked_part base.0) dotted (asked_part exponent.0)) (rolls-Power base.0 dotted exponent.0) (at_Power table ask scope base.0 dotted exponent.0)
      (λ h. (part_stands base h.0, part_stands exponent h.1.0))
  node_law (Node-F.Relation op left right) =
      rolled (Node-F.Relation op left.0 right.0) (Relation op left.0 right.0) (Node-F.Relation op (asked_part left.0) (asked_part right.0)) (rolls-Relation op left.0 right.0) (at_Relation table ask scope op left.0 right.0)
      (λ h. (part_stands left h.0, part_stands right h.1.0))
  node_law (Node-F.Not inner) = rolled (Node-F.Not inner.0) (Not inner.0) (Node-F.Not (asked_part inner.0)) (rolls-Not inner.0) (at_Not table ask scope inner.0) (λ h. part_stands inner h.0)
  node_law (Node-F.All operands) =
      let bare : List Expr = map (λ t. t.0) operands in
      rolled (Node-F.All bare) (All bare) (Node-F.All (map asked_part bare)) (rolls-All bare) (at_All table ask scope bare) (plain operands)
  node_law (Node-F.Any operands) =
      let bare : List Expr = map (λ t. t.0) operands in
      rolled (Node-F.Any bare) (Any bare) (Node-F.Any (map asked_part bare)) (rolls-Any bare) (at_Any table ask scope bare) (plain operands)
  node_law (Node-F.Range first None last) =
      rolled (Node-F.Range first.0 None last.0) (Range first.0 None last.0) (Node-F.Range (asked_part first.0) None (asked_part last.0)) (rolls-Range first.0 None last.0) (at_Range table ask scope first.0 None last.0)
      (λ h. (part_stands first h.0, tt, part_stands last h.1.0))
  node_law (Node-F.Range first (Some step) last) =
      rolled (Node-F.Range first.0 (Some step.0) last.0) (Range first.0 (Some step.0) last.0) (Node-F.Range (asked_part first.0) (Some (asked_part step.0)) (asked_part last.0)) (rolls-Range first.0 (Some step.0) last.0) (at_Range table ask scope first.0 (Some step.0) last.0)
      (λ h. (part_stands first h.0, part_stands step h.1.0, part_stands last h.1.1.0))
  node_law (Node-F.If branches other) =
      let bare = map bare_branch branches in
      rolled (Node-F.If bare other.0) (If bare other.0) (Node-F.If (map (as_branch asked_part) bare) (asked_part other.0)) (rolls-If bare other.0) (at_If table ask scope bare other.0)
      (λ h. (branches_stand branches (every_front P (flat_map in_branch bare) (Valued other.0 ∷ []) h), part_stands other (every_back P (flat_map in_branch bare) (Valued other.0 ∷ []) h).0))
  node_law (Node-F.Call (Named reference) arguments) =
      subst (λ layer. NodeLaw (roll-Node layer)) (sym (call_alike reference arguments)) (call_law (Named (bare_name reference)) arguments (λ h. reference_stands reference h))
  node_law (Node-F.Call Der arguments) = call_law Der arguments (λ h. tt)
  node_law (Node-F.Call Initial arguments) = call_law Initial arguments (λ h. tt)
  node_law (Node-F.Call Pure arguments) = call_law Pure arguments (λ h. tt)
  node_law (Node-F.Tuple outputs) = refused (bare_node (Node-F.Tuple outputs)) (Tuple _) (rolls-Tuple _) (at_Tuple table ask scope _)
  node_law (Node-F.Array elements) =
      let bare : List Expr = map (λ t. t.0) elements in
      rolled (Node-F.Array bare) (Array bare) (Node-F.Array (map asked_part bare)) (rolls-Array bare) (at_Array table ask scope bare) (plain elements)
  node_law (Node-F.ArrayFor element iterators) = refused (bare_node (Node-F.ArrayFor element iterators)) (ArrayFor element.0 _) (rolls-ArrayFor element.0 _) (at_ArrayFor table ask scope element.0 _)
  node_law (Node-F.Matrix rows) = refused (bare_node (Node-F.Matrix rows)) (Matrix _) (rolls-Matrix _) (at_Matrix table ask scope _)
  node_law Node-F.EndMark = rolled Node-F.EndMark EndMark Node-F.EndMark rolls-EndMark (at_EndMark table ask scope) (λ h. tt)

  -- ---- expressions

  expr_law : (y : Expr-F ArgAt NodeAt ArgsAt ExprAt) → ExprLaw (roll-Expr (map-Expr ArgAt NodeAt ArgsAt ExprAt Arg Node Args Expr (λ t. t.0) (λ t. t.0) (λ t. t.0) (λ t. t.0) y))
  unfolding ExprLaw NodeLaw
  expr_law y h =
      let layer : Expr-F Arg Node Args Expr = record { place = y.place; node = y.node.0 } in
      let inside : Every P (At y.place ∷ in_node (out-Node y.node.0)) = subst (λ (z : Expr-F Arg Node Args Expr). Every P (At z.place ∷ in_node (out-Node z.node))) (out-roll-Expr layer) (descends.expression (roll-Expr layer) h) in
      (h, λ context. subst (λ (f : Context → Making ArrayExpr). Makes P (ArrayStands P) (f context)) (sym (at_expr table ask scope y.place y.node.0)) (y.node.1 inside.1 y.place inside.0 context))

  -- ---- arguments

  argument_stands : (t : ArgAt) → Every P (in_argument t.0) → IfAny (PartStands P) (made_argument table ask scope t.0)
  unfolding ArgLaw
  argument_stands t h = t.1 h

  with_stands : (argument : Option Part) (arguments : Option (List Part)) → IfAny (PartStands P) argument → IfAny (Every (PartStands P)) arguments → IfAny (Every (PartStands P)) (with_argument argument arguments)
  with_stands None arguments h hs = tt
  with_stands (Some argument) None h hs = tt
  with_stands (Some argument) (Some arguments) h hs = (h, hs)

  abbrev asked : Arg → Arg × Option Part
  asked argument = (argument, made_argument table ask scope argument)

  all_stand : (ts : List ArgAt) → Every P (flat_map in_argument (map (λ t. t.0) ts)) → IfAny (Every (PartStands P)) (all_arguments (map asked (map (λ t. t.0) ts)))
  all_stand [] h = tt
  all_stand (t ∷ ts) h =
      let rest = flat_map in_argument (map (λ t. t.0) ts) in
      with_stands (made_argument table ask scope t.0) (all_arguments (map asked (map (λ t. t.0) ts))) (argument_stands t (every_front P (in_argument t.0) rest h)) (all_stand ts (every_back P (in_argument t.0) rest h))

  abbrev arguments_by : Args-F Arg Node Args Expr → Option (List Part)
  arguments_by layer = if is_empty layer.named && is_empty layer.iters then all_arguments (map asked layer.plain) else None

  if_any : (b : Bool) (arguments : Option (List Part)) → IfAny (Every (PartStands P)) arguments → IfAny (Every (PartStands P)) (if b then arguments else None)
  if_any true arguments h = h
  if_any false arguments h = tt

  abbrev in_layer : Args-F Arg Node Args Expr → List Written
  in_layer layer = flat_map in_argument layer.plain ++ flat_map (λ named. in_argument named.1) layer.named ++ in_ranges layer.iters

  args_law : (y : Args-F ArgAt NodeAt ArgsAt ExprAt) → ArgsLaw (roll-Args (map-Args ArgAt NodeAt ArgsAt ExprAt Arg Node Args Expr (λ t. t.0) (λ t. t.0) (λ t. t.0) (λ t. t.0) y))
  unfolding ArgsLaw
  args_law y h =
      let layer : Args-F Arg Node Args Expr = map-Args ArgAt NodeAt ArgsAt ExprAt Arg Node Args Expr (λ t. t.0) (λ t. t.0) (λ t. t.0) (λ t. t.0) y in
      let inside : Every P (in_layer layer) = subst (λ (z : Args-F Arg Node Args Expr). Every P (in_layer z)) (out-roll-Args layer) h in
      let plain_in = flat_map in_argument layer.plain in
      let named_in = flat_map (λ (named : List ℕ × Arg). in_argument named.1) layer.named in
      subst (IfAny (Every (PartStands P))) (sym (at_Args table ask scope (roll-Args layer) ∙ ap arguments_by (out-roll-Args layer)))
      (if_any (is_empty layer.named && is_empty layer.iters) (all_arguments (map asked layer.plain)) (all_stand y.plain (every_front P plain_in named_in (every_front P (plain_in ++ named_in) (in_ranges layer.iters) inside))))

  arg_law : (y : Arg-F ArgAt NodeAt ArgsAt ExprAt) → ArgLaw (roll-Arg (map-Arg ArgAt NodeAt ArgsAt ExprAt Arg Node Args Expr (λ t. t.0) (λ t. t.0) (λ t. t.0) (λ t. t.0) y))
  unfolding ArgLaw
  arg_law (Arg-F.Value t) h =
      let held = rw (out-roll-Arg (Arg-F.Value t.0)) at h in
      subst (IfAny (PartStands P)) (sym (ap (made_argument table ask scope) (rolls-Value t.0) ∙ at_Value table ask scope t.0)) (part_stands t held.0)
  arg_law (Arg-F.Partial function named) h = subst (IfAny (PartStands P)) (sym (ap (made_argument table ask scope) (rolls-Partial _ _) ∙ at_Partial table ask scope _ _)) tt

  -- ---- all

  every_expr : (e : Expr) → ExprLaw e
  every_expr = ind-Expr ArgLaw NodeLaw ArgsLaw ExprLaw
      (λ x y is. subst (λ z. ArgLaw (roll-Arg z)) is (arg_law y))
      (λ x y is. subst (λ z. NodeLaw (roll-Node z)) is (node_law y))
      (λ x y is. subst (λ z. ArgsLaw (roll-Args z)) is (args_law y))
      (λ x y is. subst (λ z. ExprLaw (roll-Expr z)) is (expr_law y))

  -- an expression of what is written, with how it is resolved
  pub resolving_stands : (e : Expr) → P (Valued e) → PartStands P (e, made table ask scope e)
  unfolding ExprLaw
  resolving_stands e h = every_expr e h

  pub resolved_in_answers : (context : Context) (e : Expr) → P (Valued e) → Answers P (ResolvedStands P) (resolved_in table ask scope context e)
  resolved_in_answers context e h = alone_stands P (e, made table ask scope e) context (resolving_stands e h)

-- resolving, whatever is asked one reference deeper
pub resolves : (P : Written → Type 0) → Descends P → LayersStand P → (table : Table) → TableStands P table → (ask : Ask) → AskStands P ask → ResolvesIn P table ask
resolves P descends layers table stands ask asks = λ scope framed context e h. resolved_in_answers P descends layers table stands ask asks scope framed context e h
