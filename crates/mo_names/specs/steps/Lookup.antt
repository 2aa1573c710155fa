-- Steps of the definitions of lookup and inheritance by name: what each does for one element of the list that it goes down.
use Rattle.std.specs.Prelude.{ℕ, ◌+◌, Bool, true, false, List, [], ◌∷◌, Option, Some, None, Ok, if◌then◌else◌}
use Rattle.mo_syntax.specs.Outcome.{Outcome, and_then, breaks}
use Rattle.mo_syntax.specs.declared.expr.Expr.{Expr}
use Rattle.mo_syntax.specs.declared.expr.PartOf.{PartOf}
use Rattle.mo_syntax.specs.declared.class.Import.{Import}
use Rattle.mo_syntax.specs.declared.place.Place.{Place}
use Rattle.mo_scope.specs.Rows.{Table, Row, Part, Element_of, Base_of, Declares, Clause, is_class, is_left_out}
use Rattle.mo_scope.specs.Frames.{Frame, Scope, Member}
use Rattle.mo_scope.specs.Lookup.{Found, Reached, Element, Other, Absent, Met, Classed, Inherited, Walked, Asking, met, counted, behind_class, class_wanted, first_at_top, and_also, found_by_import, found_by_star, found_first, classed, base_frame, base_of, leaf_of, nothing_walked}
use Rattle.mo_syntax.specs.declared.rules.TheConstants.{PROTECTED_ELEMENT, WRONG_KIND_OF_NAME, NAME_NOT_FOUND, OUTSIDE_PROFILE}

-- ---- a name behind a dot

abbrev pub open_element : Table → Place → Frame → Member → Outcome Found
open_element table place frame member = if member.hidden then breaks PROTECTED_ELEMENT place else met table frame member

-- an element behind a class, where it counts
abbrev pub element_behind : Table → Place → Option Place → Frame → Member → Outcome Found
element_behind table place None frame member = open_element table place frame member
element_behind table place (Some wrong) frame member = if is_class member.declares then open_element table place frame member else breaks WRONG_KIND_OF_NAME wrong

-- what stands behind a class, of what was reached there and counts
abbrev pub reached_behind : Table → Place → Option Place → Frame → Reached → Outcome Found
reached_behind table place component frame (Element member) = element_behind table place component frame member
reached_behind table place component frame (Other found) = Ok found
reached_behind table place component frame Absent = breaks NAME_NOT_FOUND place

-- asks that an element that is reached counts
abbrev pub counted_reached : Table → Asking → (ask : Place) → (place : Place) → Frame → Reached → Outcome Reached
counted_reached table asking ask place frame (Element member) = and_then (counted table asking ask place frame member) (λ counted. Ok (Element counted))
counted_reached table asking ask place frame (Other found) = Ok (Other found)
counted_reached table asking ask place frame Absent = Ok Absent

-- ---- imports

abbrev pub before_dot : Place → List (List ℕ) → Option Place
before_dot place [] = None
before_dot place (name ∷ names) = Some place

-- one name of an import
abbrev pub import_step : Table → Asking → (ask : Place) → (place : Place) → (before : Option Place) → Found → List ℕ → Outcome Found
import_step table asking ask place before found name =
    and_then (class_wanted place found) (λ frame. behind_class table asking ask place before frame name)

-- one name of an import before `.*`
abbrev pub package_step : Table → Asking → (ask : Place) → (place : Place) → Frame → List ℕ → Outcome Frame
package_step table asking ask place frame name =
    and_then (behind_class table asking ask place (Some place) frame name) (class_wanted place)

abbrev pub package_behind : Table → Asking → (ask : Place) → (place : Place) → Frame → List (List ℕ) → Outcome Frame
package_behind table asking ask place frame [] = Ok frame
package_behind table asking ask place frame (name ∷ names) =
    and_then (behind_class table asking ask place (Some place) frame name) (λ found.
    and_then (class_wanted place found) (λ next. package_behind table asking ask place next names))

-- the class that the first identifier of an import finds
abbrev pub package_at_top : Table → (place : Place) → List ℕ → Outcome Frame
package_at_top table place name = and_then (first_at_top table place name) (class_wanted place)

-- what is reached through `.*`: a protected element is not there
abbrev pub shown : Reached → Outcome Reached
shown (Element member) = if member.hidden then Ok Absent else Ok (Element member)
shown (Other found) = Ok (Other found)
shown Absent = Ok Absent

-- what a name finds through `.*`, of what was reached there and counts
abbrev pub reached_by_star : Table → Frame → Reached → Outcome (Option Found)
reached_by_star table frame (Element member) = and_then (met table frame member) (λ found. Ok (Some found))
reached_by_star table frame (Other found) = Ok (Some found)
reached_by_star table frame Absent = Ok None

-- what an import clause finds, by its names or by its star
abbrev pub found_by : Table → Asking → (ask : Place) → (star : Bool) → List ℕ → Import → Outcome (Option Found)
found_by table asking ask true name clause = found_by_star table asking ask name clause
found_by table asking ask false name clause = found_by_import table asking ask name clause

-- what one more import clause finds
abbrev pub also_found : Table → Asking → (ask : Place) → (star : Bool) → List ℕ → Option Found → Import → Outcome (Option Found)
also_found table asking ask star name so_far clause = and_then (found_by table asking ask star name clause) (and_also ask so_far)

-- what the import clauses find
abbrev pub found_by_all : Table → Asking → (ask : Place) → (star : Bool) → List ℕ → Option Found → List Import → Outcome (Option Found)
found_by_all table asking ask star name so_far [] = Ok so_far
found_by_all table asking ask star name so_far (clause ∷ clauses) =
    and_then (also_found table asking ask star name so_far clause) (λ so_far. found_by_all table asking ask star name so_far clauses)

abbrev pub found_or : Option Found → Outcome (Option Found) → Outcome (Option Found)
found_or (Some found) others = Ok (Some found)
found_or None others = others

abbrev pub found_by_names_or_stars : Table → Asking → (ask : Place) → List ℕ → List Import → Outcome (Option Found)
found_by_names_or_stars table asking ask name clauses =
    and_then (found_by_all table asking ask false name None clauses) (λ found.
    found_or found (found_by_all table asking ask true name None clauses))

-- ---- a simple name

-- what is reached among the elements of one frame
abbrev pub element_met : Table → Frame → Reached → Outcome (Option Found)
element_met table frame (Element member) = and_then (met table frame member) (λ found. Ok (Some found))
element_met table frame other = Ok None

-- what is met in one frame or through imports
abbrev pub met_or : Bool → Option Found → Outcome (Option Met) → Outcome (Option Met)
met_or near (Some found) others = Ok (Some (record { found = found; near = near }))
met_or near None others = others

-- all that is found is met
abbrev pub all_met : Bool → Option Found → Outcome (Option Met)
all_met near None = Ok None
all_met near (Some found) = Ok (Some (record { found = found; near = near }))

abbrev pub imported_met : Option Found → Option Met
imported_met None = None
imported_met (Some found) = Some (record { found = found; near = false })

-- what is met through imports
abbrev pub imports_met : Table → Asking → (ask : Place) → List ℕ → List Import → Outcome (Option Met)
imports_met table asking ask name clauses = and_then (found_by_names_or_stars table asking ask name clauses) (λ found. Ok (imported_met found))

-- ---- the name of a class

-- the first identifier of the name of a class
abbrev pub first_class : Table → Asking → (bare : Bool) → (top : Bool) → Scope → PartOf Expr → Outcome Classed
first_class table asking bare top scope part =
    and_then (found_first table asking bare top scope part) (λ met. classed part.place met.found)

-- a further identifier
abbrev pub class_step : Table → Asking → Classed → PartOf Expr → Outcome Classed
class_step table asking class part =
    and_then (behind_class table asking part.place part.place (Some part.place) class.frame part.name) (classed part.place)

-- ---- the elements of a frame

-- what the elements of a class begin with
abbrev pub started : Frame → Option Row → Outcome Walked
started frame None = Ok (nothing_walked (Some frame))
started frame (Some row) = if is_left_out row then breaks OUTSIDE_PROFILE row.class.place else Ok (nothing_walked (leaf_of row frame))

-- the base frame of an extends clause, whose class was found
abbrev pub entered_base : Frame → Option Row → Clause → Frame → Frame
entered_base frame None clause class = frame
entered_base frame (Some row) clause class = base_frame frame row clause class

-- an extends clause, its base being found
abbrev pub base_at : Table → Asking → Frame → Option Row → Clause → Outcome Frame
base_at table asking frame None clause = Ok frame
base_at table asking frame (Some row) clause = base_of table asking frame row clause

abbrev pub own_inherited : Frame → ℕ → Declares → Inherited
own_inherited frame item declares = record {
  member = record { name = declares.name; home = frame; item = item; hidden = declares.flags.hidden; declares = declares };
  through = [];
}

-- how many elements of its own a class has behind one more part
abbrev pub next_item : Part → ℕ → ℕ
next_item (Element_of declares) item = item + 1
next_item (Base_of clause) item = item
