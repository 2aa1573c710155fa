-- Worked examples of merged modifiers, by computation.
use Rattle.std.proofs.Common.{◌≡◌, ℕ, pos, Bool, true, false, List, [], ◌∷◌, Option, Some, None, Ok, option_map, codes, refl}
use Prim.Native.String.{String}
use Rattle.mo_syntax.specs.Outcome.{Outcome, and_then, breaks}
use Rattle.mo_syntax.specs.declared.expr.Expr.{Expr, roll-Expr}
use Rattle.mo_syntax.specs.declared.expr.Node.TheVariants.{Whole}
use Rattle.mo_syntax.specs.declared.class.ArgumentOf.{ArgumentOf}
use Rattle.mo_syntax.specs.declared.class.Give.{Give}
use Rattle.mo_syntax.specs.declared.class.Give.TheVariants.{Modify, outs-Modify}
use Rattle.mo_syntax.specs.declared.class.Vary.TheVariants.{Free, Parameter}
use Rattle.mo_scope.specs.Rows.{Table, Part, no_flags}
use Rattle.mo_scope.specs.Frames.{Frame, Top, In, No_source, Scope, Source, Member}
use Rattle.mo_scope.specs.Parts.{picked}
use Rattle.mo_scope.specs.Lookup.{walked, named, own_members}
use Rattle.mo_scope.specs.Names.{child_of_member, component_frame}
use Rattle.mo_mods.specs.Marks.{marks_of}
use Rattle.mo_mods.specs.Merged.{Merged, Table_of, Nothing_below, Below_then, Merged_value, binding, marks}
use Rattle.mo_scope.proofs.rows.Notation.{byte, id, name, sets, component_by, row}
use Rattle.mo_syntax.specs.declared.rules.TheConstants.{NAME_NOT_FOUND}

-- ---- notation

-- each NAME = NUMBER
abbrev each_sets : String → ℕ → ℕ → ArgumentOf Give
each_sets name at value = record {
  each = true;
  last = false;
  name = record { 0 = codes name ∷ [] };
  place = byte at;
  give = (sets name at value).give;
}

-- NAME(ARGUMENTS)
abbrev nests : String → ℕ → List (ArgumentOf Give) → ArgumentOf Give
nests name at arguments = record {
  each = false;
  last = false;
  name = record { 0 = codes name ∷ [] };
  place = byte at;
  give = Modify (record { 0 = arguments }) None;
}

abbrev number_at : ℕ → ℕ → Expr
number_at n at = roll-Expr (record { place = byte at; node = Whole (pos n) })

abbrev parameter : String → ℕ → Part
parameter at place = component_by no_flags None Parameter (name (id "Real" 0 ∷ [])) at place []

-- ---- nested `each`

--     model Leaf parameter Real a; parameter Real b; end Leaf; model Mid Leaf l[2](each a = 1, b = {2, 3}); end Mid;
--     model M Mid m(l(a = {7, 8})); end M;
-- The number 2 stands for {2, 3} and 7 for {7, 8}: which element is taken is told by the pending indices.
pub nested_each : Table
nested_each =
    row 6 [] "Leaf" 6 [] (parameter "a" 20 ∷ parameter "b" 40 ∷ []) ∷
    row 7 [] "Mid" 60 [] (component_by no_flags None Free (name (id "Leaf" 65 ∷ [])) "l" 70 (each_sets "a" 80 1 ∷ sets "b" 90 2 ∷ []) ∷ []) ∷
    row 8 [] "M" 110 [] (component_by no_flags None Free (name (id "Mid" 115 ∷ [])) "m" 120 (nests "l" 122 (sets "a" 124 7 ∷ []) ∷ []) ∷ []) ∷ []

-- the instance of a class without sources
abbrev instance : ℕ → Frame
instance class = In class No_source Top (Some []) Top

-- the sources of a component entered at an index, by its path
abbrev sources_below : Table → Frame → List (List ℕ × List ℕ) → List Source → Outcome (List Source)
sources_below table frame [] sources = Ok sources
sources_below table frame (step ∷ steps) sources =
    and_then (entered_below (named step.0 (own_members table frame))) (λ next. sources_below table next.0 steps next.1)
  where
    entered_below : Option Member → Outcome (Frame × List Source)
    entered_below None = breaks NAME_NOT_FOUND (byte 0)
    entered_below (Some member) = and_then (child_of_member table member step.1) (λ child. Ok (component_frame member step.1 child, child.sources))

-- the value for a path, its pending indices and its marks
abbrev told : Table → List Source → List (List ℕ) → Option (Expr × List ℕ) × Option (List Bool)
told table sources path = (option_map (λ value. (value.value, value.pending)) (picked table sources path), marks_of table sources path)

abbrev told_below : Table → ℕ → List (List ℕ × List ℕ) → List (List ℕ) → Outcome (Option (Expr × List ℕ) × Option (List Bool))
told_below table class steps path = and_then (sources_below table (instance class) steps []) (λ sources. Ok (told table sources path))

-- in Mid alone, l[2].a has the value 1 whole
pub each_has_no_index : told_below nested_each 7 ((codes "l", 2 ∷ []) ∷ []) (codes "a" ∷ []) ≡ Ok (Some (number_at 1 80, []), Some (true ∷ []))
unfolding walked nested_each
each_has_no_index = simp (outs-Modify)

-- l[2].b has the second element
pub value_at_its_index : told_below nested_each 7 ((codes "l", 2 ∷ []) ∷ []) (codes "b" ∷ []) ≡ Ok (Some (number_at 2 90, 2 ∷ []), Some (false ∷ []))
unfolding walked nested_each
value_at_its_index = simp (outs-Modify)

-- in M, m.l[2].a has the second element of what M gives
pub outer_value_at_the_index :
    told_below nested_each 8 ((codes "m", []) ∷ (codes "l", 2 ∷ []) ∷ []) (codes "a" ∷ []) ≡ Ok (Some (number_at 7 124, 2 ∷ []), Some (false ∷ []))
unfolding walked nested_each
outer_value_at_the_index = simp (outs-Modify)

-- m.l[2].b that of what Mid gives
pub inner_value_at_the_index :
    told_below nested_each 8 ((codes "m", []) ∷ (codes "l", 2 ∷ []) ∷ []) (codes "b" ∷ []) ≡ Ok (Some (number_at 2 90, 2 ∷ []), Some (false ∷ []))
unfolding walked nested_each
inner_value_at_the_index = simp (outs-Modify)

-- of the sources of m, the path l.a has two marks
pub marks_of_a_path : told_below nested_each 8 ((codes "m", []) ∷ []) (codes "l" ∷ codes "a" ∷ []) ≡ Ok (Some (number_at 7 124, []), Some (false ∷ false ∷ []))
unfolding walked nested_each
marks_of_a_path = simp (outs-Modify)

-- ---- a table

abbrev scope : Scope
scope = record { frame = instance 7; iterations = [] }

abbrev value : Expr → List ℕ → List Bool → Option Merged_value
value e pending each = Some (record { picked = record { value = e; scope = scope; pending = pending }; each = each })

-- what Mid gives for l, entered at 2
abbrev table_of_l : Merged
table_of_l =
    Table_of None None (
    Below_then (codes "b") (Table_of (value (number_at 2 90) (2 ∷ []) (false ∷ [])) None Nothing_below) (
    Below_then (codes "a") (Table_of (value (number_at 1 80) [] (true ∷ [])) None Nothing_below) Nothing_below
    )
    )

-- whether a table has the value and the marks of a path
abbrev agrees : Merged → List Source → List (List ℕ) → Type 0
agrees merged sources path = (binding merged path ≡ picked nested_each sources path) × (marks merged path ≡ marks_of nested_each sources path)

abbrev sources_of_l : List Source
sources_of_l = sources_in (sources_below nested_each (instance 7) ((codes "l", 2 ∷ []) ∷ []) [])
  where
    sources_in : Outcome (List Source) → List Source
    sources_in (Ok sources) = sources
    sources_in broken = []

pub table_agrees : agrees table_of_l sources_of_l (codes "a" ∷ []) × agrees table_of_l sources_of_l (codes "b" ∷ []) × agrees table_of_l sources_of_l (codes "c" ∷ [])
unfolding walked nested_each
table_agrees = ((simp (outs-Modify), simp (outs-Modify)), (simp (outs-Modify), simp (outs-Modify)), (refl, refl))
