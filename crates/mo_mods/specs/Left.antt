-- What is left of modifiers on the way to a path (Modelica Language Specification 3.5, sections 7.2 and 7.3): of a source, what the values
-- and the redeclarations that it gives need.
use Rattle.std.specs.Prelude.{◌≡◌, ℕ, ◌+◌, Bool, true, false, List, [], ◌∷◌, ◌++◌, flat_map, Option, Some, None, if◌then◌else◌}
use Rattle.std.specs.Str.{bytes_eq}
use Rattle.mo_syntax.specs.declared.expr.Expr.{Expr}
use Rattle.mo_syntax.specs.declared.class.ArgumentOf.{ArgumentOf}
use Rattle.mo_syntax.specs.declared.class.Body.{Body}
use Rattle.mo_syntax.specs.declared.class.Element.{Element}
use Rattle.mo_syntax.specs.declared.class.Give.{Give, Give-F, out-Give}
use Rattle.mo_syntax.specs.declared.class.Item.{Item}
use Rattle.mo_syntax.specs.declared.class.What.{What}
use Rattle.mo_scope.specs.Rows.{Table, Modifiers, Declares}
use Rattle.mo_scope.specs.Frames.{Given, Listed, Argued, Replacing, Scope}
use Rattle.mo_scope.specs.Parts.{names_left, begins_with, held, is_nothing, or_own, declared_in}
use Rattle.mo_mods.specs.Marks.{Marked}
use Rattle.mo_mods.specs.Merged.{Merged, Merged_value, Redeclared, at_path, value_here, redeclared_here}

-- What is left to give; the indices at which its values are still to be taken; the scope of its texts; and for each name that was passed,
-- whether it carries `each`.
pub record Left : Type 0 where
  pub given : Given
  pub pending : List ℕ
  pub scope : Scope
  pub each : List Bool

-- What is said of an element: what is left modifies it, or it is declared anew, and what is left belongs to that declaration.
pub data Said : Type 0 where
  Goes_on : Left → Said
  Anew : Declares → Left → Said

-- ---- one more name

abbrev pub left_behind : Left → Bool → Given → Left
left_behind left each given = record {
  given = given;
  pending = if each then [] else left.pending;
  scope = left.scope;
  each = left.each ++ each ∷ [];
}

-- what an argument says of which so many names were passed
abbrev pub said_by : Table → ArgumentOf Give → ℕ → Left → Said
said_by table argument passed left = said_in (names_left argument passed) (out-Give argument.give)
  where
    said_in : List (List ℕ) → Give-F Body Give Item What Element → Said
    said_in [] (Give-F.Redeclare element) = Anew (declared_in table element) left
    said_in [] (Give-F.Replaceable element) = Anew (declared_in table element) left
    said_in names give = Goes_on left

-- An argument speaks of the element of its first name.
abbrev pub argument_says : Table → List ℕ → Left → ArgumentOf Give → List Said
argument_says table name left argument =
    if begins_with name argument.name.0 then said_by table argument 1 (left_behind left argument.each (Argued argument 1)) ∷ [] else []

abbrev pub list_says : Table → List ℕ → Left → List (ArgumentOf Give) → List Said
list_says table name left arguments = flat_map (argument_says table name left) arguments

-- an argument of which so many names were passed speaks of the element of the next one
abbrev pub rest_says : Table → List ℕ → Left → ArgumentOf Give → ℕ → List Said
rest_says table name left argument passed =
    if begins_with name (names_left argument passed) then
    said_by table argument (passed + 1) (left_behind left false (Argued argument (passed + 1))) ∷ []
    else []

abbrev pub element_says : List ℕ → Left → Declares → List Said
element_says name left declares =
    if bytes_eq declares.name name then Anew declares (left_behind left false (Listed declares.own)) ∷ [] else []

abbrev pub elements_say : Table → List ℕ → Left → List Element → List Said
elements_say table name left elements = flat_map (λ element. element_says name left (declared_in table element)) elements

abbrev pub left_says : Table → List ℕ → Left → List Said
left_says table name left = says left.given
  where
    says : Given → List Said
    says (Listed modifiers) = list_says table name left modifiers.list
    says (Argued argument passed) =
        rest_says table name left argument passed ++ list_says table name left (held (Argued argument passed)).list
    says (Replacing elements) = elements_say table name left elements

-- all that is said of an element
abbrev pub all_say : Table → List ℕ → List Left → List Said
all_say table name lefts = flat_map (left_says table name) lefts

-- ---- what is left of all

abbrev pub left_with : Left → Modifiers → List Left
left_with left modifiers =
    if is_nothing modifiers then [] else
    record { given = Listed modifiers; pending = left.pending; scope = left.scope; each = left.each } ∷ []

-- The first declaration anew brings its own modifiers, a later one those of its constraining clause if it has one.
abbrev pub lefts_said : Bool → List Said → List Left
lefts_said wins [] = []
lefts_said wins (Goes_on left ∷ said) = left ∷ lefts_said wins said
lefts_said wins (Anew declares left ∷ said) =
    left_with left (if wins then declares.own else or_own declares.limit declares) ++ lefts_said false said

abbrev pub lefts_behind : Table → List Left → List ℕ → List Left
lefts_behind table lefts name = lefts_said true (all_say table name lefts)

-- ---- what is found

-- the value of the first that has one
abbrev pub value_left : List Left → Option Merged_value
value_left [] = None
value_left (left ∷ others) = value_or (value_left others) (held left.given).value
  where
    value_or : Option Merged_value → Option Expr → Option Merged_value
    value_or others (Some value) =
        Some (record { picked = record { value = value; scope = left.scope; pending = left.pending }; each = left.each })
    value_or others None = others

abbrev pub value_along : Table → List Left → List (List ℕ) → Option Merged_value
value_along table lefts [] = value_left lefts
value_along table lefts (name ∷ names) = value_along table (lefts_behind table lefts name) names

-- the first declaration anew
abbrev pub anew_first : List Said → Option Redeclared
anew_first [] = None
anew_first (Goes_on left ∷ said) = anew_first said
anew_first (Anew declares left ∷ said) = Some (record { declares = declares; scope = left.scope })

abbrev pub anew_along : Table → List Left → List ℕ → List (List ℕ) → Option Redeclared
anew_along table lefts name [] = anew_first (all_say table name lefts)
anew_along table lefts name (next ∷ names) = anew_along table (lefts_behind table lefts name) next names

-- For every path a table has the value that is found first, and for every path below an element what declares it anew.
pub record IsMergedOf (table : Table) (merged : Merged) (lefts : List Left) : Type 0 where
  pub values : (path : List (List ℕ)) → value_here (at_path merged path) ≡ value_along table lefts path
  pub redeclarations : (name : List ℕ) (path : List (List ℕ)) → redeclared_here (at_path merged (name ∷ path)) ≡ anew_along table lefts name path

-- The table of an element of which so much is said.
pub record IsElementOf (table : Table) (merged : Merged) (said : List Said) : Type 0 where
  pub below : IsMergedOf table merged (lefts_said true said)
  pub anew : redeclared_here merged ≡ anew_first said

-- ---- sources

-- what is left of a source whose names that were passed are marked
abbrev pub left_of : Marked → Left
left_of marked = record {
  given = marked.1.piece.given;
  pending = marked.1.piece.pending;
  scope = marked.1.scope;
  each = marked.0;
}
