-- Names behind a dot, one after another.
use Rattle.std.proofs.Common.{◌≡◌, ℕ, false, List, [], ◌∷◌, Result, Ok, refl, ap, sym, subst, ◌∙◌}
use Rattle.mo_syntax.specs.Outcome.{and_then}
use Rattle.mo_syntax.specs.declared.expr.Expr.{Expr}
use Rattle.mo_syntax.specs.declared.expr.PartOf.{PartOf}
use Rattle.mo_syntax.specs.declared.expr.ReferenceOf.{ReferenceOf}
use Rattle.mo_syntax.specs.declared.place.Place.{Place}
use Rattle.mo_syntax.specs.declared.place.Stop.{Stop}
use Rattle.mo_scope.specs.Outcome.{Gives}
use Rattle.mo_scope.specs.Rows.{Table}
use Rattle.mo_scope.specs.Frames.{Scope, Member}
use Rattle.mo_scope.specs.Lookup.{Found, Component, Class, Literal, Iteration, Function, Time, Element, Other, Absent, asking_of, reached}
use Rattle.mo_scope.specs.Names.{behind_component, behind_found, child_of_member, component_frame, found_behind, found_reference, taken}
use Rattle.mo_names.specs.Children.{component_next, first_found, next_found, reached_in_component}
use Rattle.mo_names.specs.Past.{first_met}
use Rattle.mo_lookup.proofs.Chains.{then_after}
use Rattle.mo_names.proofs.Circling.{then_same}

-- subscripts do not count
pub next_is : (table : Table) (found : Found) (part : PartOf Expr) → next_found table found part.name part.place ≡ behind_found table found part
next_is table (Component frame member) part = refl
next_is table (Class frame replaceable) part = refl
next_is table (Literal class place) part = refl
next_is table (Iteration value) part = refl
next_is table (Function code) part = refl
next_is table Time part = refl

pub behind_step : (table : Table) (found : Found) (part : PartOf Expr) (parts : List (PartOf Expr)) →
    and_then (behind_found table found part) (λ next. found_behind table next parts) ≡ found_behind table found (part ∷ parts)
behind_step table found part parts = refl

pub reference_step : (table : Table) (scope : Scope) (reference : ReferenceOf Expr) (part : PartOf Expr) (parts : List (PartOf Expr)) → reference.parts ≡ part ∷ parts →
    and_then (first_found table reference.top scope part.name part.place) (λ first. found_behind table first parts) ≡ found_reference table scope reference
reference_step table scope reference part parts is =
    sym (then_after (first_met table (asking_of table) false reference.top scope part.place part.name) (λ met. taken table met.near part.place met.found) (λ first. found_behind table first parts))
    ∙ ap (λ (ps : List (PartOf Expr)). found_reference table scope (record { top = reference.top; parts = ps })) (sym is)

pub component_step : (table : Table) (place : Place) (member : Member) (name : List ℕ) →
    component_next table place member name ≡ behind_component table place member name
component_step table place member name =
    sym (then_after (child_of_member table member []) (λ child. Ok (component_frame member [] child)) (λ frame. reached_in_component table place frame name))
    ∙ then_same (child_of_member table member []) _ _ (λ child. then_same (reached table (asking_of table) place (component_frame member [] child) name) _ _
    (elim [
      | Element part ↦ refl
      | Other found ↦ refl
      | Absent ↦ refl
    ]))

pub behind_gives : {T : Type 0} (view : T → Found) (r : Result T Stop) (table : Table) (place : Place) (member : Member) (name : List ℕ) → Gives view r (component_next table place member name) →
    Gives view r (behind_component table place member name)
behind_gives view r table place member name gives = subst (Gives view r) (component_step table place member name) gives

pub next_gives : {T : Type 0} (view : T → Found) (r : Result T Stop) (table : Table) (found : Found) (part : PartOf Expr) → Gives view r (next_found table found part.name part.place) →
    Gives view r (behind_found table found part)
next_gives view r table found part gives = subst (Gives view r) (next_is table found part) gives
