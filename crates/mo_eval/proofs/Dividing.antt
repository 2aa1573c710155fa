-- Operands of `div`, `mod` and `rem`: two scalar Integers.
use Rattle.std.proofs.Common.{◌≡◌, ℕ, zero, suc, ◌+◌, ◌++◌, true, false, List, [], ◌∷◌, length, length-append, Option, Some, Ok, Err, refl, ap, sym, subst, ◌∙◌, arith}
use Rattle.std.specs.Prelude.{slice_get}
use Rattle.std.proofs.lemmas.List.{length-map, map-append}
use Rattle.mo_syntax.specs.Outcome.{Outcome, and_then, breach, breaks}
use Rattle.mo_syntax.specs.declared.meaning.Kind.TheVariants.{Whole as whole_kind}
use Rattle.mo_syntax.specs.declared.place.Broken.{Broken}
use Rattle.mo_syntax.specs.declared.place.Place.{Place}
use Rattle.mo_syntax.specs.declared.place.Stop.{Stop}
use Rattle.mo_syntax.specs.declared.place.Stop.TheVariants.{Broken as broken_by, NoMemory as no_memory}
use Rattle.mo_flat.specs.declared.array.ArrayExpr.{ArrayExpr}
use Rattle.mo_flat.specs.declared.array.ArrayNode.{ArrayNode}
use Rattle.mo_flat.specs.declared.array.ArrayNode.TheVariants.{Vars}
use Rattle.mo_scope.specs.Frames.{Frame}
use Rattle.mo_scope.specs.Worlds.{World}
use Rattle.mo_syntax.specs.declared.rules.TheConstants.{WRONG_TYPE}
use Rattle.mo_typing.specs.Outcome.{Gives, each}
use Rattle.mo_values.specs.Scalars.{Known}
use Rattle.mo_values.specs.declared.context.Context.{Context}
use Rattle.mo_eval.specs.declared.virtuals.Element.{Element as ElementAt}
use Rattle.mo_eval.specs.declared.virtuals.Virtual.{Virtual as VirtualAt}
use Rattle.mo_eval.specs.declared.virtuals.Virtual.TheVariants.{Component, Division as division_at}
use Rattle.mo_eval.specs.Virtuals.{Division, Element, Virtual}
use Rattle.mo_eval.specs.Contexts.{Part}
use Rattle.mo_values.specs.Asked.{read_in, checked_operands}
use Rattle.mo_eval.specs.Calls.{division_variable, made_division, known_of_operands, make_arguments, value_of_division}
use Rattle.mo_values.specs.Made.{known_number}
use Rattle.mo_eval.specs.Seen.{AreThere, virtual_seen, virtuals_seen}
use Rattle.mo_eval.specs.steps.Sites.{IsMade}
use Rattle.mo_values.specs.steps.Operands.{are_two}
use Rattle.mo_eval.specs.steps.Dividing.{variable_of}

-- ---- two operands

-- what a call of other than two operands has
pub none_known : (read : Element → Outcome Known) (place : Place) (function : ℕ) (operands : List ArrayExpr) (virtuals : List Virtual) → are_two operands ≡ false →
    known_of_operands read place function operands virtuals ≡ breaks WRONG_TYPE place
none_known read place function [] virtuals e = refl
none_known read place function (a ∷ []) virtuals e = refl
none_known read place function (a ∷ b ∷ []) virtuals e = absurd (cc)
none_known read place function (a ∷ b ∷ c ∷ more) virtuals e = refl

-- ---- the value in the flat model

pub operands_halt : (world : World) (stop : Stop) (virtuals : List VirtualAt) (read : Element → Outcome Known) (context : Context) (place : Place) (function : ℕ) (parts : List Part) →
    IsMade {A = List ArrayExpr} world (Err stop) virtuals (make_arguments (read_in context) parts []) → Gives {T = ArrayNode} (Err stop) (value_of_division read context place function parts)
operands_halt world (broken_by broken) virtuals read context place function parts h = rw h.is refl
operands_halt world no_memory virtuals read context place function parts h = tt

pub operands_made : (read : Element → Outcome Known) (context : Context) (place : Place) (function : ℕ) (parts : List Part) (operands : List ArrayExpr) (virtuals : List Virtual) →
    make_arguments (read_in context) parts [] ≡ Ok (operands, virtuals) →
    value_of_division read context place function parts ≡ and_then (checked_operands place operands) (λ _. and_then (known_of_operands read place function operands virtuals) (known_number place))
operands_made read context place function parts operands virtuals h = rw h refl

-- ---- a variable for a call

pub two_popped : (place : Place) (function : ℕ) (xs ys zs : List ArrayExpr) (a b : ArrayExpr) → length xs ≡ 2 → xs ≡ ys ++ b ∷ [] → ys ≡ zs ++ a ∷ [] →
    variable_of place function xs ≡ Ok (division_at place function a b)
two_popped place function xs ys [] a b counted h k = ap (variable_of place function) (h ∙ ap (λ zs. zs ++ b ∷ []) k)
two_popped place function xs ys (z ∷ zs) a b counted h k =
    let long = ap length h ∙ length-append ys (b ∷ []) in
    let longer = ap length k ∙ length-append (z ∷ zs) (a ∷ []) in
    absurd (omega arith)

pub other_number : (place : Place) (function : ℕ) (operands : List ArrayExpr) → (length operands ≡ 2 → ⊥) → variable_of place function operands ≡ breaks WRONG_TYPE place
other_number place function [] other = refl
other_number place function (x ∷ []) other = refl
other_number place function (x ∷ y ∷ []) other = absurd (other refl)
other_number place function (x ∷ y ∷ z ∷ more) other = refl

same_breach : (place : Place) (broken : Broken) → ◌≡◌ {A = Outcome VirtualAt} (breaks WRONG_TYPE place) (Err broken) → breach WRONG_TYPE place ≡ broken
same_breach place broken h = cc

-- the variable of a call, by the one that is put
pub halt_put : (world : World) (stop : Stop) (virtuals : List VirtualAt) (place : Place) (function : ℕ) (operands : List ArrayExpr) (before : List Virtual) → Gives {T = VirtualAt} (Err stop) (variable_of place function operands) →
    IsMade {A = ArrayNode} world (Err stop) virtuals (division_variable place function operands before)
halt_put world (broken_by broken) virtuals place function [] before h = record { is = ap Err (same_breach place broken h) }
halt_put world (broken_by broken) virtuals place function (x ∷ []) before h = record { is = ap Err (same_breach place broken h) }
halt_put world (broken_by broken) virtuals place function (x ∷ y ∷ []) before h = absurd (let clash : ◌≡◌ {A = Outcome VirtualAt} (Ok (division_at place function x y)) (Err broken) = h in cc)
halt_put world (broken_by broken) virtuals place function (x ∷ y ∷ z ∷ more) before h = record { is = ap Err (same_breach place broken h) }
halt_put world no_memory virtuals place function operands before h = record { is = tt }

pub put_variable : (frames : List Frame) (place : Place) (function : ℕ) (operands : List ArrayExpr) (it : VirtualAt) (virtuals : List VirtualAt) → variable_of place function operands ≡ Ok it →
    division_variable place function operands (virtuals_seen frames virtuals) ≡ Ok (Vars ((length virtuals + 1) ∷ []) whole_kind [] [], virtuals_seen frames (virtuals ++ it ∷ []))
put_variable frames place function [] it virtuals h = absurd (let clash : ◌≡◌ {A = Outcome VirtualAt} (breaks WRONG_TYPE place) (Ok it) = h in cc)
put_variable frames place function (a ∷ []) it virtuals h = absurd (let clash : ◌≡◌ {A = Outcome VirtualAt} (breaks WRONG_TYPE place) (Ok it) = h in cc)
put_variable frames place function (a ∷ b ∷ c ∷ more) it virtuals h = absurd (let clash : ◌≡◌ {A = Outcome VirtualAt} (breaks WRONG_TYPE place) (Ok it) = h in cc)
put_variable frames place function (a ∷ b ∷ []) it virtuals h =
    let same : division_at place function a b ≡ it = cc in
    ap (λ n. Ok (Vars ((n + 1) ∷ []) whole_kind [] [], virtuals_seen frames virtuals ++ Division place function a b ∷ [])) (length-map virtuals (virtual_seen frames))
    ∙ (ap (λ seen. Ok (Vars ((length virtuals + 1) ∷ []) whole_kind [] [], seen)) (sym (map-append (virtual_seen frames) virtuals (division_at place function a b ∷ [])))
    ∙ ap (λ one. Ok (Vars ((length virtuals + 1) ∷ []) whole_kind [] [], virtuals_seen frames (virtuals ++ one ∷ []))) same)

same_component : (virtuals : List VirtualAt) (place : Place) (function : ℕ) (a b : ArrayExpr) (k : ℕ) (element : ElementAt) →
    slice_get (virtuals ++ division_at place function a b ∷ []) k ≡ Some (Component element) → slice_get virtuals k ≡ Some (Component element)
same_component [] place function a b zero element h = absurd (let clash : ◌≡◌ {A = Option VirtualAt} (Some (division_at place function a b)) (Some (Component element)) = h in cc)
same_component [] place function a b (suc k) element h = h
same_component (virtual ∷ virtuals) place function a b zero element h = h
same_component (virtual ∷ virtuals) place function a b (suc k) element h = same_component virtuals place function a b k element h

pub there_more : (world : World) (virtuals : List VirtualAt) (place : Place) (function : ℕ) (operands : List ArrayExpr) (it : VirtualAt) → variable_of place function operands ≡ Ok it → AreThere world virtuals →
    AreThere world (virtuals ++ it ∷ [])
there_more world virtuals place function [] it h are = absurd (let clash : ◌≡◌ {A = Outcome VirtualAt} (breaks WRONG_TYPE place) (Ok it) = h in cc)
there_more world virtuals place function (a ∷ []) it h are = absurd (let clash : ◌≡◌ {A = Outcome VirtualAt} (breaks WRONG_TYPE place) (Ok it) = h in cc)
there_more world virtuals place function (a ∷ b ∷ c ∷ more) it h are = absurd (let clash : ◌≡◌ {A = Outcome VirtualAt} (breaks WRONG_TYPE place) (Ok it) = h in cc)
there_more world virtuals place function (a ∷ b ∷ []) it h are =
    let same : division_at place function a b ≡ it = cc in
    subst (λ (one : VirtualAt). AreThere world (virtuals ++ one ∷ [])) same (record { each = λ k element at. are.each k element (same_component virtuals place function a b k element at) })

-- ---- a call of `div`, `mod` or `rem`

pub flat_is : (read : Element → Outcome Known) (context : Context) (place : Place) (function : ℕ) (parts : List Part) (before : List Virtual) → context.flat ≡ true →
    made_division read context place function parts before ≡ and_then {B = ArrayNode × List Virtual} (value_of_division read context place function parts) (λ node. Ok (node, before))
flat_is read context place function parts before h = rw h refl

pub kept_is : (read : Element → Outcome Known) (context : Context) (place : Place) (function : ℕ) (parts : List Part) (before : List Virtual) → context.flat ≡ false →
    made_division read context place function parts before
    ≡ and_then {B = ArrayNode × List Virtual} (make_arguments (read_in context) parts before) (λ made. and_then (and_then {B = Unit {0} × List Virtual} (checked_operands place made.0) (λ u. Ok (u, made.1))) (λ checked. division_variable place function made.0 checked.1))
kept_is read context place function parts before h = rw h refl
