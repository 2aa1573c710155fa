-- The equations of a section, one by one (Modelica Language Specification 3.5, sections 8.3 and 10.6.1).
--
-- Each equation gives scalar equations, asserts and connects, or breaks a rule. Forms that are left out are refused before their parts are
-- read.
use Rattle.std.specs.Prelude.{ℕ, ℤ, Bool, true, false, ◌&&◌, not, List, [], ◌∷◌, Option, Some, None, Ok, if◌then◌else◌}
use Rattle.mo_syntax.specs.Outcome.{Outcome, and_then, breaks}
use Rattle.mo_syntax.specs.declared.equation.EquationKind.{EquationKind, EquationKind-F, fold-EquationKind}
use Rattle.mo_syntax.specs.declared.equation.EquationOf.{EquationOf}
use Rattle.mo_syntax.specs.declared.expr.Args.{Args}
use Rattle.mo_syntax.specs.declared.expr.Expr.{Expr}
use Rattle.mo_syntax.specs.declared.expr.IndexOf.{IndexOf}
use Rattle.mo_syntax.specs.declared.expr.ReferenceOf.{ReferenceOf}
use Rattle.mo_syntax.specs.declared.place.Place.{Place}
use Rattle.mo_flat.specs.declared.expr.FlatExpr.{FlatExpr}
use Rattle.mo_scope.specs.Frames.{Scope}
use Rattle.mo_syntax.specs.declared.rules.TheConstants.{OUTSIDE_PROFILE, CONNECT_UNDER_OPEN_CONDITION, WRONG_TYPE, CONDITION_NOT_BOOLEAN}
use Rattle.mo_typing.specs.Dims.{Dims}
use Rattle.mo_values.specs.declared.value.Scalar.TheVariants.{Truth}
use Rattle.mo_values.specs.Scalars.{Known}
use Rattle.mo_values.specs.Asked.{layered, only_scalar, only_truth, only_whole}
use Rattle.mo_eval.specs.Contexts.{truth_of}
use Rattle.mo_eval.specs.Components.{place_of, reader}
use Rattle.mo_eval.specs.References.{numbers_of}
use Rattle.mo_eval.specs.Values.{most_references, known_of, reading, resolved_for_value}
use Rattle.mo_equations.specs.Leaves.{Tree, place_of_root}
use Rattle.mo_equations.specs.Replacing.{flat_at}
use Rattle.mo_equations.specs.Variables.{replacing}
use Rattle.mo_equations.specs.Gathering.{Made, Turning, made_assert, made_connects, made_equations, turn_none, turn_then, one_turn, gathered}
use Rattle.mo_equations.specs.Ends.{connect_of}
use Rattle.mo_equations.specs.Equalities.{equalities}
use Rattle.mo_equations.specs.Asserts.{is_assert, plain_values, assert_of}
use Rattle.mo_equations.specs.Joining.{Choice, made_if}

-- Where an equation stands: the scope of its text, and whether it is in a branch of an if-equation that no value decides.
pub record Site : Type 0 where
  pub scope : Scope
  pub undecided : Bool

-- ---- asserts

-- A call is an assert that is in no undecided branch; each other one is left out, and its name is not looked up.
abbrev pub made_call : Tree → Place → Site → ReferenceOf Expr → Args → Outcome Made
made_call tree place site called arguments =
    if is_assert called && not site.undecided then
    and_then (assert_of tree site.scope place (plain_values arguments)) (λ assert. Ok (made_assert assert))
    else breaks OUTSIDE_PROFILE place

-- ---- connects

-- A connect in an undecided branch breaks rule 36.
abbrev pub made_connect : Tree → Place → Site → ReferenceOf Expr → ReferenceOf Expr → Outcome Made
made_connect tree place site left right =
    if site.undecided then breaks CONNECT_UNDER_OPEN_CONDITION place else
    and_then (connect_of tree site.scope place left right) (λ connects. Ok (made_connects connects))

-- ---- what holds equations

-- an equation whose form is read: what comes of it at its place and its site
abbrev pub Former : Type 0
Former = Place → Site → Turning Made

abbrev pub all_made : List (EquationOf Former) → Site → Turning Made
all_made equations site = gathered (λ equation. equation.what equation.place site) equations

-- ---- loops

abbrev pub with_iteration : Site → List ℕ → ℤ → Site
with_iteration site name value =
    record { scope = record { frame = site.scope.frame; iterations = (name, value) ∷ site.scope.iterations }; undecided = site.undecided }

abbrev pub vector_size : Place → Dims → Outcome ℕ
vector_size place (n ∷ []) = Ok n
vector_size place dims = breaks WRONG_TYPE place

-- the numbers of a range: a vector of Integers that have values
abbrev pub range_numbers : Tree → Scope → Expr → Outcome (List ℤ)
range_numbers tree scope e =
    and_then (resolved_for_value tree.classes most_references scope e) (λ resolved.
    and_then (layered (only_whole (place_of e)) (vector_size (place_of e)) resolved.expression)
    (numbers_of (known_of tree.classes most_references resolved) (place_of e)))

-- an iteration variable without a range is left out
abbrev pub numbers_of_index : Tree → Place → Scope → Option Expr → Outcome (List ℤ)
numbers_of_index tree place scope None = breaks OUTSIDE_PROFILE place
numbers_of_index tree place scope (Some e) = range_numbers tree scope e

-- The equations once for each number of the range; with several iteration variables the loop of the later ones is inside that of the
-- earlier ones. Each turn of each counts.
abbrev pub made_loop : Tree → Place → List (IndexOf Expr) → (Site → Turning Made) → Site → Turning Made
made_loop tree place [] body site = body site
made_loop tree place (index ∷ indices) body site =
    turn_then (turn_none (numbers_of_index tree place site.scope index.range))
    (gathered (λ n. one_turn (place_of_root tree) (made_loop tree place indices body (with_iteration site index.name n))))

-- ---- if-equations

abbrev pub in_branch : Site → Site
in_branch site = record { scope = site.scope; undecided = true }

-- A condition is a scalar Boolean, else rule 40 is broken at it. First it is read for its value.
abbrev pub condition_known : Tree → Scope → Expr → Outcome Known
condition_known tree scope e =
    and_then (resolved_for_value tree.classes most_references scope e)
    (truth_of (reader (reading tree.classes most_references)) CONDITION_NOT_BOOLEAN (place_of e))

abbrev pub flat_condition : Tree → Scope → Expr → Outcome FlatExpr
flat_condition tree scope e =
    flat_at tree.classes most_references (replacing tree) (only_truth CONDITION_NOT_BOOLEAN (place_of e)) (only_scalar CONDITION_NOT_BOOLEAN (place_of e)) scope e []

-- a condition that no value decides, then the equations of its branch
abbrev pub undecided_branch : Tree → Site → Expr × List (EquationOf Former) → Turning (FlatExpr × Made)
undecided_branch tree site branch =
    turn_then (turn_none (flat_condition tree site.scope branch.0)) (λ condition.
    turn_then (all_made branch.1 (in_branch site)) (λ made. turn_none (Ok (condition, made))))

-- A branch whose condition is false is dropped; one whose condition is true is the last, and what stands behind it is not read.
abbrev pub made_choice : Tree → Site → List (Expr × List (EquationOf Former)) → List (EquationOf Former) → Turning Choice
made_choice tree site [] others = turn_then (all_made others site) (λ made. turn_none (Ok ([], made)))
made_choice tree site (branch ∷ branches) others =
    turn_then (turn_none (condition_known tree site.scope branch.0)) (decided (λ site. made_choice tree site branches others))
  where
    decided : (Site → Turning Choice) → Known → Turning Choice
    decided further (Some (Truth true)) = turn_then (all_made branch.1 site) (λ made. turn_none (Ok ([], made)))
    decided further (Some (Truth false)) = further site
    decided further known =
        turn_then (undecided_branch tree site branch) (λ first.
        turn_then (further (in_branch site)) (λ choice. turn_none (Ok (first ∷ choice.0, choice.1))))

-- ---- all forms

-- A when-equation is left out.
abbrev pub made_form : Tree → EquationKind-F Former → Former
made_form tree (EquationKind-F.Equal left right) place site =
    turn_none (and_then (equalities tree site.scope place left right) (λ equations. Ok (made_equations equations)))
made_form tree (EquationKind-F.If branches others) place site =
    turn_then (made_choice tree site branches others) (λ choice. turn_none (made_if place choice))
made_form tree (EquationKind-F.For indices equations) place site = made_loop tree place indices (all_made equations) site
made_form tree (EquationKind-F.When branches) place site = turn_none (breaks OUTSIDE_PROFILE place)
made_form tree (EquationKind-F.Connect left right) place site = turn_none (made_connect tree place site left right)
made_form tree (EquationKind-F.Call called arguments) place site = turn_none (made_call tree place site called arguments)

abbrev pub made_kind : Tree → EquationKind → Former
made_kind tree = fold-EquationKind Former (made_form tree)

-- the equations of a section in their order
abbrev pub made_section : Tree → Scope → List (EquationOf EquationKind) → Turning Made
made_section tree scope equations =
    gathered (λ equation. made_kind tree equation.what equation.place (record { scope = scope; undecided = false })) equations
