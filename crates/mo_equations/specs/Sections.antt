-- The sections of the classes of an instance (Modelica Language Specification 3.5, sections 4.5, 7.1, 8.2 and 12.9).
use Rattle.std.specs.Prelude.{Bool, List, [], ◌∷◌, ◌++◌, map, flat_map, Ok, if◌then◌else◌}
use Rattle.mo_syntax.specs.Outcome.{Outcome, and_then}
use Rattle.mo_syntax.specs.declared.class.Body.{Body, Body-F, out-Body}
use Rattle.mo_syntax.specs.declared.class.Element.{Element}
use Rattle.mo_syntax.specs.declared.class.Give.{Give}
use Rattle.mo_syntax.specs.declared.class.Item.{Item, Item-F, out-Item}
use Rattle.mo_syntax.specs.declared.class.What.{What}
use Rattle.mo_syntax.specs.declared.equation.EquationKind.{EquationKind}
use Rattle.mo_syntax.specs.declared.equation.EquationOf.{EquationOf}
use Rattle.mo_scope.specs.Rows.{Table, Row, items_in}
use Rattle.mo_scope.specs.Frames.{Frame}
use Rattle.mo_scope.specs.Lookup.{final_frame}
use Rattle.mo_scope.specs.Names.{walk_of}

-- A section of equations, initial or not; or a part that is left out: an algorithm section, or an external clause.
pub data Section : Type 0 where
  Equations : (initial : Bool) → List (EquationOf EquationKind) → Section
  Left_out : Section

abbrev pub section_in : Item → List Section
section_in item = section_by (out-Item item)
  where
    section_by : Item-F Body Give Item What Element → List Section
    section_by (Item-F.Equations initial equations) = Equations initial equations ∷ []
    section_by (Item-F.Algorithm initial statements) = Left_out ∷ []
    section_by other = []

abbrev pub external_in : Body-F Body Give Item What Element → List Section
external_in (Body-F.Long extending items external) = if external then Left_out ∷ [] else []
external_in other = []

-- the sections of a class in the order of its text, an external clause behind them
abbrev pub sections_in : Body-F Body Give Item What Element → List Section
sections_in body = flat_map section_in (items_in body) ++ external_in body

abbrev pub sections_of : Row → List Section
sections_of row = sections_in (out-Body row.class.body)

-- The frames whose sections an instance has: its bases in the order of the extends clauses, each behind its own bases, then its class.
abbrev pub frames_of : Table → Frame → Outcome (List Frame)
frames_of table frame = and_then (walk_of table frame) (λ walked. Ok (map final_frame walked.sections ++ frame ∷ []))
