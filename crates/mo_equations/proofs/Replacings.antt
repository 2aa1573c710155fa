-- What stands for the elements that an expression names, step by step.
use Rattle.std.proofs.Common.{◌≡◌, ℕ, zero, suc, ◌+◌, ◌-◌, ◌<◌, List, [], ◌∷◌, length, map, take, get_or, Option, Some, None, Result, Ok, Err, refl, ap, sym, ◌∙◌, subst, arith}
use Rattle.std.specs.Prelude.{IfErr, IfOk, option_map, slice_get}
use Rattle.mo_syntax.specs.Outcome.{IfBroken, Outcome, and_then, breaks}
use Rattle.mo_syntax.specs.declared.expr.Expr.{Expr}
use Rattle.mo_syntax.specs.declared.meaning.Kind.{Kind}
use Rattle.mo_syntax.specs.declared.place.Broken.{Broken}
use Rattle.mo_syntax.specs.declared.place.NoMemory.{NoMemory}
use Rattle.mo_syntax.specs.declared.place.Stop.{Stop}
use Rattle.mo_syntax.specs.declared.place.Stop.TheVariants.{Broken as broken_by, NoMemory as no_memory}
use Rattle.mo_flat.specs.declared.expr.FlatExpr.{FlatExpr}
use Rattle.mo_flat.specs.declared.expr.FlatExpr as flat
use Rattle.mo_scope.specs.Outcome as seen
use Rattle.mo_scope.specs.Rows.{Table}
use Rattle.mo_scope.specs.Frames.{Frame, Indexed, Scope, at_of}
use Rattle.mo_scope.specs.Names.{Child, child_of_member, path_below}
use Rattle.mo_scope.specs.Parts.{Picked, picked_here}
use Rattle.mo_scope.specs.Instances.{Chosen}
use Rattle.mo_scope.specs.Places.{Every}
use Rattle.mo_scope.specs.Worlds.{World, Grows, IsFrame, frames_of, scope_in, table_in}
use Rattle.mo_names.specs.Sights.{IsMember}
use Rattle.mo_names.proofs.Later.{frame_later, table_later}
use Rattle.mo_typing.specs.Outcome as told
use Rattle.mo_syntax.specs.declared.rules.TheConstants.{REFERENCE_CHAIN_TOO_LONG, NO_VALUE}
use Rattle.mo_typing.specs.Dims.{Dims}
use Rattle.mo_typing.specs.Indices.{Index}
use Rattle.mo_typing.specs.Subscripts.{Checked}
use Rattle.mo_values.specs.declared.value.Scalar.{Scalar}
use Rattle.mo_eval.specs.declared.virtuals.Element.{Element as ElementAt}
use Rattle.mo_eval.specs.declared.virtuals.Virtual.{Virtual as VirtualAt}
use Rattle.mo_eval.specs.declared.virtuals.Virtual.TheVariants.{Component, Division as division_at}
use Rattle.mo_values.specs.Asked.{layered, fitted}
use Rattle.mo_eval.specs.Components.{binding_of, place_of}
use Rattle.mo_values.specs.Scalars.{Known}
use Rattle.mo_eval.specs.Seen.{AreThere, element_seen, virtual_seen, virtuals_seen}
use Rattle.mo_eval.specs.Values.{resolved}
use Rattle.mo_eval.specs.Virtuals.{Element, Virtual, Component_element, Resolved}
use Rattle.mo_eval.proofs.Grown.{same_element}
use Rattle.mo_equations.specs.declared.desk.Desk.{Desk}
use Rattle.mo_equations.specs.declared.flat.Flat.{Flat}
use Rattle.mo_equations.specs.declared.standing.Asked.{Asked}
use Rattle.mo_equations.specs.Replacing.{Replacing, constant, constant_by, flat_at, flat_chosen, flat_element, flat_value, of_variable, of_virtual, standing, value_or, with_variables}
use Rattle.mo_equations.specs.steps.Counting.{variables_in}
use Rattle.mo_equations.specs.steps.Desks.{Goes, IsDesk}
use Rattle.mo_equations.specs.steps.Flats.{Answers, IsFlat}
use Rattle.mo_equations.specs.steps.Layers.{fit_of, wanted_of}
use Rattle.mo_equations.specs.steps.Standing.{AreReplaced, IsAskedAt, IsVirtualThere, constant_expression, constant_known, replacing_in}
use Rattle.mo_equations.proofs.Answering.{answers_halt, answers_stop}
use Rattle.mo_equations.proofs.Asking.{IsThere, breaks_first}
use Rattle.mo_equations.proofs.Staying.{same_replacing, stays_grown}

-- ---- answers

pub answers_as : {T A : Type 0} (Is : T → A → Type 0) (result : Result T Stop) (o o' : Outcome A) → o ≡ o' → Answers Is result o → Answers Is result o'
answers_as Is result o o' e h = subst (λ x. Answers Is result x) e h

pub flat_is : (result : Result Flat Stop) (made : Result Flat NoMemory) (o : Outcome FlatExpr) → IfOk result (λ value. made ≡ Ok value) → IfErr result (λ stop. stop ≡ no_memory) →
    IfOk made (λ flat. (e : FlatExpr) × (o ≡ Ok e) × IsFlat flat e) → Answers IsFlat result o
flat_is (Ok value) made o same error is = subst (λ r. IfOk r (λ flat. (e : FlatExpr) × (o ≡ Ok e) × IsFlat flat e)) same is
flat_is (Err stop) made o same error is = rw error tt

pub refused_answers : {T A : Type 0} (U : Type 0) (Is : T → A → Type 0) (o : Outcome A) (stop : Stop) → IfBroken {T = U} (Err stop) (λ broken. o ≡ Err broken) → Answers {T = T} Is (Err stop) o
refused_answers U Is o (broken_by broken) h = h
refused_answers U Is o no_memory h = tt

pub answers_refused : {T A : Type 0} (U : Type 0) (Is : T → A → Type 0) (o : Outcome A) (stop : Stop) → Answers {T = T} Is (Err stop) o → IfBroken {T = U} (Err stop) (λ broken. o ≡ Err broken)
answers_refused U Is o (broken_by broken) h = h
answers_refused U Is o no_memory h = tt

pub answers_breaks : {T A : Type 0} (Is : T → A → Type 0) (o : Outcome A) (stop : Stop) (broken : Broken) → stop ≡ broken_by broken → o ≡ Err broken → Answers {T = T} Is (Err stop) o
answers_breaks {T} Is o stop broken e h = subst (λ (s : Stop). Answers {T = T} Is (Err s) o) (sym e) h

-- ---- expressions

module _ (table : Table) (left : ℕ) (replace : Replacing) (wanted : Kind → Checked) (fit : Dims → Checked) (scope : Scope) (e : Expr) (index : Index) where
  resolved_is : (r : Resolved) → resolved table left scope e ≡ Ok r →
      flat_at table left replace wanted fit scope e index ≡ and_then (layered wanted fit r.expression) (λ _. flat_element replace r index)
  resolved_is r h = ap (λ (o : Outcome Resolved). and_then o (λ r. and_then (layered wanted fit r.expression) (λ _. flat_element replace r index))) h

  pub flat_at_then : (r : Resolved) (result : Result Flat Stop) → resolved table left scope e ≡ Ok r → layered wanted fit r.expression ≡ Ok tt →
      Answers IsFlat result (flat_element replace r index) → Answers IsFlat result (flat_at table left replace wanted fit scope e index)
  flat_at_then r result h k next =
      answers_as IsFlat result (flat_element replace r index) (flat_at table left replace wanted fit scope e index)
      (sym (resolved_is r h ∙ ap (λ (o : Checked). and_then o (λ _. flat_element replace r index)) k)) next

  pub flat_at_unresolved : {U : Type 0} (view : U → Resolved) (stop : Stop) → seen.Gives view (Err stop) (resolved table left scope e) →
      Answers {T = Flat} IsFlat (Err stop) (flat_at table left replace wanted fit scope e index)
  flat_at_unresolved view stop h = answers_stop view IsFlat (resolved table left scope e) (λ r. and_then (layered wanted fit r.expression) (λ _. flat_element replace r index)) stop h

  pub flat_at_unlayered : (r : Resolved) (stop : Stop) → resolved table left scope e ≡ Ok r → told.Gives {T = Unit {0}} (Err stop) (layered wanted fit r.expression) →
      Answers {T = Flat} IsFlat (Err stop) (flat_at table left replace wanted fit scope e index)
  flat_at_unlayered r stop h k =
      answers_as {T = Flat} IsFlat (Err stop) (and_then (layered wanted fit r.expression) (λ _. flat_element replace r index)) (flat_at table left replace wanted fit scope e index)
      (sym (resolved_is r h)) (answers_halt IsFlat (layered wanted fit r.expression) (λ _. flat_element replace r index) stop k)

-- ---- variables

slice_map : {A B : Type 0} (f : A → B) (xs : List A) (k : ℕ) (x : A) → slice_get xs k ≡ Some x → slice_get (map f xs) k ≡ Some (f x)
slice_map f [] k x h = absurd (no h)
  where
    no : None ≡ Some x → ⊥
    no e = cc
slice_map {A} {B} f (y ∷ ys) zero x h = ap (option_map f) h
slice_map f (y ∷ ys) (suc k) x h = slice_map f ys k x h

pub of_variable_at : (replace : Replacing) (F : List Frame) (virtuals : List VirtualAt) (n k : ℕ) (it : VirtualAt) → k ≡ n - 1 → slice_get virtuals k ≡ Some it →
    of_variable replace (virtuals_seen F virtuals) n ≡ of_virtual replace (virtual_seen F it)
of_variable_at replace F virtuals n k it e at =
    let found : slice_get (virtuals_seen F virtuals) (n - 1) ≡ Some (virtual_seen F it) = slice_map (virtual_seen F) virtuals (n - 1) it (ap (slice_get virtuals) (sym e) ∙ at) in
    rw found refl

pub same_number : (replace : Replacing) (virtuals : List Virtual) (n m : ℕ) → n - 1 ≡ m - 1 → of_variable replace virtuals n ≡ of_variable replace virtuals m
same_number replace virtuals n m e = go (slice_get virtuals (n - 1)) (slice_get virtuals (m - 1)) refl refl (ap (slice_get virtuals) e)
  where
    go : (a b : Option Virtual) → slice_get virtuals (n - 1) ≡ a → slice_get virtuals (m - 1) ≡ b → slice_get virtuals (n - 1) ≡ slice_get virtuals (m - 1) → of_variable replace virtuals n ≡ of_variable replace virtuals m
    go a b p q same = rw same refl

pub there_at : (world : World) (virtuals : List VirtualAt) → AreThere world virtuals → (k : ℕ) (it : VirtualAt) → slice_get virtuals k ≡ Some it → IsVirtualThere world it
there_at world virtuals are k (Component element) at = are.each k element at
there_at world virtuals are k (division_at place function left right) at = tt

same_virtual : (u v : World) (it : VirtualAt) → Grows u v → IsVirtualThere u it → virtual_seen (frames_of v) it ≡ virtual_seen (frames_of u) it
same_virtual u v (Component element) g is = ap Component_element (same_element u v g element is)
same_virtual u v (division_at place function left right) g is = refl

-- what stands for a variable at a later world is what stands for it by its number
pub variable_now : (u v : World) (before after : Desk) (left : ℕ) (virtuals : List VirtualAt) (n k : ℕ) (it : VirtualAt) → IsDesk u before → Goes u v before after → AreThere u virtuals →
    k ≡ n - 1 → slice_get virtuals k ≡ Some it →
    of_variable (replacing_in u before.leaves left) (virtuals_seen (frames_of u) virtuals) n ≡ of_virtual (replacing_in v after.leaves left) (virtual_seen (frames_of v) it)
variable_now u v before after left virtuals n k it is goes are e at =
    of_variable_at (replacing_in u before.leaves left) (frames_of u) virtuals n k it e at
    ∙ (ap (λ (r : Replacing). of_virtual r (virtual_seen (frames_of u) it)) (sym (same_replacing u v before after left is goes))
    ∙ ap (of_virtual (replacing_in v after.leaves left)) (sym (same_virtual u v it goes.grows (there_at u virtuals are k it at))))

-- what was asked is there
pub all_there : (replace : ℕ → Outcome FlatExpr) (replaced : List (Option Flat)) → AreReplaced replace replaced → (ns : List ℕ) → Every (IsAskedAt replaced) ns → Every (IsThere replace) ns
all_there replace replaced are [] all = tt
all_there replace replaced are (n ∷ ns) all =
    let one = are.each n all.0.0 all.0.1 in
    (record { e = one.e; is = one.is }, all_there replace replaced are ns all.1)

-- ---- elements

pub standing_some : (number : Indexed → ℕ) (replace : Replacing) (element : Element) (path : Indexed) →
    path_below (at_of element.member.home) element.member.name element.index ≡ Some path → standing number replace element ≡ Ok (flat.Var (number path) 0)
standing_some number replace element path h = rw h refl

pub standing_none : (number : Indexed → ℕ) (replace : Replacing) (element : Element) →
    path_below (at_of element.member.home) element.member.name element.index ≡ None → standing number replace element ≡ replace element
standing_none number replace element h = rw h refl

-- ---- constants

pub constant_none : (table : Table) (number : Indexed → ℕ) (left : ℕ) (element : Element) → left ≡ 0 → constant table number left element ≡ breaks REFERENCE_CHAIN_TOO_LONG element.place
unfolding constant
constant_none table number zero element h = refl
constant_none table number (suc left) element h = absurd (omega (arith, h))

pub constant_some : (table : Table) (number : Indexed → ℕ) (left less : ℕ) (element : Element) → left ≡ less + 1 →
    constant table number left element ≡ constant_by table less (standing number (constant table number less)) element
unfolding constant
constant_some table number zero less element h = absurd (omega (arith, h))
constant_some table number (suc left) less element h =
    let same : left ≡ less = omega (arith, h) in
    ap (λ (n : ℕ). constant_by table n (standing number (constant table number n)) element) same

pub constant_is : (table : Table) (left : ℕ) (replace : Replacing) (element : Element) →
    constant_by table left replace element ≡ value_or table (constant_expression table left replace element) (constant_known table left element)
constant_is table left replace element = go (binding_of table element.member element.index) refl
  where
    go : (o : Outcome (Option Picked)) → binding_of table element.member element.index ≡ o →
        constant_by table left replace element ≡ value_or table (constant_expression table left replace element) (constant_known table left element)
    go (Err broken) h = rw h refl
    go (Ok None) h = rw h refl
    go (Ok (Some binding)) h = rw h refl

module _ (table : Table) (other : Outcome FlatExpr) (known : Outcome Known) where
  pub value_halts : (stop : Stop) → told.Gives {T = Known} (Err stop) known → Answers {T = Flat} IsFlat (Err stop) (value_or table other known)
  value_halts (broken_by broken) h = rw h refl
  value_halts no_memory h = tt

  pub value_some : (scalar : Scalar) → known ≡ Ok (Some scalar) → value_or table other known ≡ Ok (flat_value table scalar)
  value_some scalar h = rw h refl

  pub value_none : known ≡ Ok None → value_or table other known ≡ other
  value_none h = rw h refl

module _ (table : Table) (left : ℕ) (replace : Replacing) (element : Element) where
  pub child_halts : {T : Type 0} (view : T → Child) (stop : Stop) → seen.Gives view (Err stop) (child_of_member table element.member element.index) →
      Answers {T = Flat} IsFlat (Err stop) (constant_expression table left replace element)
  child_halts view (broken_by broken) h = rw h refl
  child_halts view no_memory h = tt

  pub unbound_is : (child : Child) → child_of_member table element.member element.index ≡ Ok child → picked_here child.sources ≡ None →
      constant_expression table left replace element ≡ breaks NO_VALUE element.place
  unbound_is child h none = rw (h, none) refl

  pub bound_is : (child : Child) (binding : Picked) → child_of_member table element.member element.index ≡ Ok child → picked_here child.sources ≡ Some binding →
      constant_expression table left replace element ≡ flat_chosen table left replace element.kind (fitted (place_of binding.value) binding.pending) binding
  bound_is child binding h some = rw (h, some) refl

-- the expression of a constant in a later world
pub expression_now : (u v : World) (before after : Desk) (left : ℕ) (element : ElementAt) → IsDesk u before → Goes u v before after → IsMember u element.member →
    constant_expression (table_in v) left (replacing_in v after.leaves left) (element_seen (frames_of v) element) ≡ constant_expression (table_in u) left (replacing_in u before.leaves left) (element_seen (frames_of u) element)
expression_now u v before after left element is goes member =
    ap (λ (table : Table). constant_expression table left (replacing_in v after.leaves left) (element_seen (frames_of v) element)) (table_later u v goes.grows)
    ∙ (ap (λ (replace : Replacing). constant_expression (table_in u) left replace (element_seen (frames_of v) element)) (same_replacing u v before after left is goes)
    ∙ ap (constant_expression (table_in u) left (replacing_in u before.leaves left)) (same_element u v goes.grows element member))

pub chosen_now : (u v : World) (desk : Desk) (left : ℕ) (kind : Kind) (fit : Dims → Checked) (chosen : Chosen) → IsDesk u desk → Grows u v →
    flat_chosen (table_in v) left (replacing_in v desk.leaves left) kind fit chosen ≡ flat_chosen (table_in u) left (replacing_in u desk.leaves left) kind fit chosen
chosen_now u v desk left kind fit chosen is g =
    ap (λ (table : Table). flat_chosen table left (replacing_in v desk.leaves left) kind fit chosen) (table_later u v g)
    ∙ ap (λ (replace : Replacing). flat_chosen (table_in u) left replace kind fit chosen) (same_replacing u v desk desk left is (stays_grown u v desk g is).goes)

-- what is asked of an expression is answered alike in a later world
pub asked_now : (u v : World) (before after : Desk) (asked : Asked) → IsDesk u before → Goes u v before after → IsFrame u asked.at.now.frame.0 →
    flat_at (table_in v) asked.left (replacing_in v after.leaves asked.left) (wanted_of asked.layers.want asked.layers.place) (fit_of asked.layers.fit asked.layers.place) (scope_in (frames_of v) asked.at.now.frame.0 asked.at.now.iters) asked.value.now asked.index.now
    ≡ flat_at (table_in u) asked.left (replacing_in u before.leaves asked.left) (wanted_of asked.layers.want asked.layers.place) (fit_of asked.layers.fit asked.layers.place) (scope_in (frames_of u) asked.at.now.frame.0 asked.at.now.iters) asked.value.now asked.index.now
asked_now u v before after asked is goes at =
    let want = wanted_of asked.layers.want asked.layers.place in
    let fit = fit_of asked.layers.fit asked.layers.place in
    let iterations = asked.at.now.iters in
    ap (λ (table : Table). flat_at table asked.left (replacing_in v after.leaves asked.left) want fit (scope_in (frames_of v) asked.at.now.frame.0 iterations) asked.value.now asked.index.now) (table_later u v goes.grows)
    ∙ (ap (λ (replace : Replacing). flat_at (table_in u) asked.left replace want fit (scope_in (frames_of v) asked.at.now.frame.0 iterations) asked.value.now asked.index.now) (same_replacing u v before after asked.left is goes)
    ∙ ap (λ (frame : Frame). flat_at (table_in u) asked.left (replacing_in u before.leaves asked.left) want fit (record { frame = frame; iterations = iterations }) asked.value.now asked.index.now) (frame_later u v asked.at.now.frame.0 goes.grows at))

-- the first variable that stops
pub breaks_on : (variable : ℕ → Outcome FlatExpr) (e : FlatExpr) (i n : ℕ) (stop : Stop) → Every (IsThere variable) (take i (variables_in e)) → i < length (variables_in e) →
    n ≡ get_or (variables_in e) i n → Answers {T = Flat} IsFlat (Err stop) (variable n) → IfBroken {T = Unit {0}} (Err stop) (λ broken. with_variables variable e ≡ Err broken)
breaks_on variable e i n (broken_by broken) before small at h = breaks_first variable e i n broken before small at h
breaks_on variable e i n no_memory before small at h = tt
