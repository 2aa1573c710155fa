-- What the instances of a class give (Modelica Language Specification 3.5, sections 4.4, 7.1, 8.2 to 8.6 and 9.1).
--
-- First come the variables, leaf by leaf, with the equations of the bindings of unknowns; then the equations of each instance, those of its
-- bases first, and of an instance before those of its parts. Initial equations and their asserts stand apart.
use Rattle.std.specs.Prelude.{ℕ, Bool, true, false, List, [], ◌++◌, map, flat_map, Option, Some, None, Ok}
use Rattle.mo_syntax.specs.Outcome.{Outcome, and_then, breaks}
use Rattle.mo_syntax.specs.declared.place.Place.{Place}
use Rattle.mo_flat.specs.declared.connect.Expanded.{Expanded}
use Rattle.mo_scope.specs.Rows.{Table, Row, row_at}
use Rattle.mo_scope.specs.Frames.{Frame, class_of}
use Rattle.mo_scope.specs.Instances.{Instance}
use Rattle.mo_syntax.specs.declared.rules.TheConstants.{OUTSIDE_PROFILE}
use Rattle.mo_typing.specs.Outcome.{each}
use Rattle.mo_eval.specs.Resolving.{dotted, path_of_class}
use Rattle.mo_equations.specs.Leaves.{Tree, place_of_root, root_of}
use Rattle.mo_equations.specs.Variables.{Declared, all_declared}
use Rattle.mo_equations.specs.Gathering.{Made, Turning, all_beside, nothing, turn_each, turn_none, turn_then}
use Rattle.mo_equations.specs.Sections.{Section, Equations, Left_out, frames_of, sections_of}
use Rattle.mo_equations.specs.Connectors.{all_flows}
use Rattle.mo_equations.specs.Equations.{made_section}

-- ---- all sections

-- A section, with the frame that it stands in and the name of its class.
pub record Placed : Type 0 where
  pub frame : Frame
  pub name : Place
  pub section : Section

abbrev pub sections_at : Table → Frame → List Placed
sections_at table frame = sections_by (row_at table (class_of frame))
  where
    sections_by : Option Row → List Placed
    sections_by None = []
    sections_by (Some row) = map (λ section. record { frame = frame; name = row.class.place; section = section }) (sections_of row)

abbrev pub sections_of_instance : Table → Instance → Outcome (List Placed)
sections_of_instance table instance =
    and_then (frames_of table instance.frame) (λ frames. Ok (flat_map (sections_at table) frames))

abbrev pub all_sections : Tree → Outcome (List Placed)
all_sections tree =
    and_then (each (sections_of_instance tree.classes) tree.instances) (λ sections. Ok (flat_map (λ placed. placed) sections))

-- ---- what they give

-- What comes of sections: of those that are initial, apart, and of the others. All connects are of the others.
pub record Parts : Type 0 where
  pub initial : Made
  pub usual : Made

abbrev pub parts_of : Bool → Made → Parts
parts_of false made = record { initial = nothing; usual = made }
parts_of true made = record {
  initial = record { equations = made.equations; asserts = made.asserts; connects = [] };
  usual = record { equations = []; asserts = []; connects = made.connects };
}

-- A part that is left out breaks rule 34 at the name of the class that holds it.
abbrev pub made_placed : Tree → Placed → Turning Parts
made_placed tree placed = made_by placed.section
  where
    made_by : Section → Turning Parts
    made_by Left_out = turn_none (breaks OUTSIDE_PROFILE placed.name)
    made_by (Equations initial equations) =
        turn_then (made_section tree (record { frame = placed.frame; iterations = [] }) equations) (λ made.
        turn_none (Ok (parts_of initial made)))

-- ---- the whole

-- the path of the asked class, with dots
abbrev pub name_of_root : Tree → List ℕ
name_of_root tree = name_in (root_of tree)
  where
    name_in : Option Instance → List ℕ
    name_in None = []
    name_in (Some root) = dotted (path_of_class tree.classes (class_of root.frame))

abbrev pub expanded_with : Tree → List Declared → Made → Made → Expanded
expanded_with tree declared initial usual = record {
  name = name_of_root tree;
  place = place_of_root tree;
  vars = map (λ one. one.variable) declared;
  first = initial.equations;
  first_asserts = initial.asserts;
  equations = flat_map (λ one. one.equations) declared ++ usual.equations;
  asserts = usual.asserts;
  connects = record { list = usual.connects; flows = all_flows tree };
}

-- What the instances of a class give, or the first rule that is broken.
abbrev pub expansion_of : Tree → Outcome Expanded
expansion_of tree =
    and_then (all_declared tree) (λ declared.
    and_then (all_sections tree) (λ sections.
    and_then (turn_each (made_placed tree) sections 0) (λ made.
    Ok (expanded_with tree declared (all_beside (map (λ parts. parts.initial) made.0)) (all_beside (map (λ parts. parts.usual) made.0))))))
