-- Which names of a path carry `each` (Modelica Language Specification 3.5, section 7.2.5): for the argument that decides on the path, whether
-- an argument on the way to it, that has `each`, begins at the name.
--
-- The sources of an element are taken as `picked` takes them, each with the marks of the names that were passed.
use Rattle.std.specs.Prelude.{ℕ, Bool, true, false, List, [], ◌∷◌, ◌++◌, map, flat_map, Option, Some, None}
use Rattle.mo_syntax.specs.declared.class.ArgumentOf.{ArgumentOf}
use Rattle.mo_syntax.specs.declared.class.Give.{Give}
use Rattle.mo_syntax.specs.declared.expr.Expr.{Expr}
use Rattle.mo_scope.specs.Rows.{Table}
use Rattle.mo_scope.specs.Frames.{Given, Listed, Argued, Source}
use Rattle.mo_scope.specs.Parts.{Saying, Modifies, Redeclares, held, said_by_argument, said_further, said, with_list, brought}

-- a source, and which of the names that were passed carry `each`
abbrev pub Marked : Type 0
Marked = List Bool × Source

abbrev pub unmarked : Source → Marked
unmarked source = ([], source)

-- what a source says, and the marks of its names
abbrev pub Marked_saying : Type 0
Marked_saying = List Bool × Saying

abbrev pub marked_as : List Bool → List Saying → List Marked_saying
marked_as marks sayings = map (λ saying. (marks, saying)) sayings

abbrev pub marked_list : Table → Marked → List ℕ → List (ArgumentOf Give) → List Marked_saying
marked_list table marked name arguments = flat_map marked_argument arguments
  where
    marked_argument : ArgumentOf Give → List Marked_saying
    marked_argument argument = marked_as (marked.0 ++ argument.each ∷ []) (said_by_argument table marked.1 name [] argument)

-- An `each` stands for the first name of its argument alone.
abbrev pub marked_sayings : Table → List ℕ → Marked → List Marked_saying
marked_sayings table name marked = marked_by marked.1.piece.given
  where
    marked_by : Given → List Marked_saying
    marked_by (Listed modifiers) = marked_list table marked name modifiers.list
    marked_by (Argued argument passed) =
        marked_as (marked.0 ++ false ∷ []) (said_further table marked.1 name [] argument passed)
        ++ marked_list table marked name (held (Argued argument passed)).list
    marked_by given = marked_as (marked.0 ++ false ∷ []) (said table name [] marked.1)

-- the sources that are said, the modifiers of redeclarations among them
abbrev pub marked_sources : Bool → List Marked_saying → List Marked
marked_sources wins [] = []
marked_sources wins ((marks, Modifies source) ∷ sayings) = (marks, source) ∷ marked_sources wins sayings
marked_sources wins ((marks, Redeclares redeclaration) ∷ sayings) =
    map (λ source. (marks, source)) (with_list redeclaration.source (brought wins redeclaration)) ++ marked_sources false sayings

abbrev pub marked_parts : Table → List Marked → List ℕ → List Marked
marked_parts table marked name = marked_sources true (flat_map (marked_sayings table name) marked)

-- the marks of the first source that gives an expression
abbrev pub marks_here : List Marked → Option (List Bool)
marks_here [] = None
marks_here ((marks, source) ∷ others) = marks_or (marks_here others) (held source.piece.given).value
  where
    marks_or : Option (List Bool) → Option Expr → Option (List Bool)
    marks_or others (Some value) = Some marks
    marks_or others None = others

abbrev pub marks_along : Table → List Marked → List (List ℕ) → Option (List Bool)
marks_along table marked [] = marks_here marked
marks_along table marked (name ∷ names) = marks_along table (marked_parts table marked name) names

-- The marks of the argument that is picked for a path, one for each of its names.
abbrev pub marks_of : Table → List Source → List (List ℕ) → Option (List Bool)
marks_of table sources path = marks_along table (map unmarked sources) path
