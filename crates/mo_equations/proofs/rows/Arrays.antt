-- A worked example of elements of an array in a loop, by computation.
use Rattle.std.proofs.Common.{◌≡◌, ℕ, pos, false, List, [], ◌∷◌, Some, None, Ok, codes, refl, ap, ◌∙◌}
use Prim.Native.String.{String}
use Rattle.mo_syntax.specs.declared.class.Causal.TheVariants.{None as NoCausality}
use Rattle.mo_syntax.specs.declared.class.ComponentOf.{ComponentOf}
use Rattle.mo_syntax.specs.declared.class.Give.{Give}
use Rattle.mo_syntax.specs.declared.class.Vary.TheVariants.{Free}
use Rattle.mo_syntax.specs.declared.equation.EquationKind.TheVariants.{Equal}
use Rattle.mo_syntax.specs.declared.expr.Expr.{Expr, roll-Expr}
use Rattle.mo_syntax.specs.declared.expr.Node.{Node-F}
use Rattle.mo_syntax.specs.declared.expr.Node.TheVariants.{EndMark, Ref}
use Rattle.mo_syntax.specs.declared.meaning.Kind.TheVariants.{Real}
use Rattle.mo_syntax.specs.declared.meaning.Role.TheVariants.{Unknown}
use Rattle.mo_flat.specs.declared.array.ArrayExpr.{ArrayExpr}
use Rattle.mo_flat.specs.declared.array.ArrayNode.TheVariants as node
use Rattle.mo_flat.specs.declared.expr.FlatExpr as flat
use Rattle.mo_scope.specs.Rows.{Declares, Element_of, A_component, no_flags, no_modifiers}
use Rattle.mo_scope.specs.Frames.{In, Member, No_source, Scope, Top}
use Rattle.mo_scope.specs.Instances.{Instance}
use Rattle.mo_scope.specs.Lookup.{walked}
use Rattle.mo_scope.specs.Sizes.{sizes_from}
use Rattle.mo_eval.specs.Virtuals.{Making, Virtual, Component_element}
use Rattle.mo_eval.specs.Components.{reading_by}
use Rattle.mo_syntax.specs.declared.rules.TheConstants.{WRONG_TYPE}
use Rattle.mo_values.specs.Asked.{for_flat, for_value, only_scalar, only_whole, scalar_or_vector, subscript_of}
use Rattle.mo_eval.specs.Resolving.{made, made_node}
use Rattle.mo_eval.specs.Values.{component_dims, reading}
use Rattle.mo_equations.specs.Leaves.{Tree}
use Rattle.mo_equations.specs.Replacing.{constant, of_variable}
use Rattle.mo_equations.specs.Variables.{replacing}
use Rattle.mo_equations.specs.Equalities.{made_side, made_sides}
use Rattle.mo_equations.specs.Equations.{Site, made_kind, with_iteration}
use Rattle.mo_scope.proofs.rows.Notation.{byte, id, name, row}
use Rattle.mo_equations.proofs.EachForm.{as_part, at_EndMark, at_expr, at_indexed, indexed, simple}
use Rattle.mo_equations.proofs.Scalars.{at_place, known_whole, layers, variable_side, whole_has}
use Rattle.mo_equations.proofs.rows.Notation.{asking, both_sides, equation, equations_alone, in_class, made_equal, made_named, made_number, number, refers, root, root_instance}

-- ---- notation

-- TYPE NAME[NUMBER]
abbrev pub array_component : String → ℕ → ℕ → ℕ → ComponentOf Give
array_component name at n at' = record {
  prefix = record { flow = false; stream = false; vary = Free; causal = NoCausality };
  base = record { top = false; parts = id "Real" 8 ∷ [] };
  base_subs = [];
  name = codes name;
  place = byte at;
  subs = Some (number n at') ∷ [];
  mods = record { 0 = [] };
  binding = None;
  condition = None;
}

abbrev pub element_of : ℕ → Instance
element_of k = record {
  frame = In 0 No_source Top (Some ((codes "x", k ∷ []) ∷ [])) (root 6);
  path = (codes "x", k ∷ []) ∷ [];
  place = byte 13;
  dims = 2 ∷ [];
  leaf = Some (record { kind = Real; role = Unknown; attributes = []; binding = None });
}

-- ---- elements in a loop

abbrev pub x_declared : Declares
x_declared = record {
  name = codes "x";
  place = byte 13;
  flags = no_flags;
  sort = A_component (array_component "x" 13 2 15);
  own = no_modifiers;
  limit = None;
}

--     model M Real x[2]; equation for i in 1:2 loop x[i] = x[end]; end for; end M;
pub with_array : Tree
with_array = record {
  classes = row 6 [] "M" 6 [] (Element_of x_declared ∷ []) ∷ [];
  instances = root_instance 6 ∷ element_of 1 ∷ element_of 2 ∷ [];
}

abbrev pub turn : ℕ → Site
turn n = with_iteration (in_class 6) (codes "i") (pos n)

-- x[SUBSCRIPT]
abbrev pub x_at : Expr → ℕ → Expr
x_at e at = roll-Expr (record { place = byte at; node = Ref (simple (indexed (codes "x") (byte at) (Some e ∷ []))) })

abbrev pub x_side : Scope → Expr → ℕ → Making ArrayExpr
x_side scope e at =
    made_node with_array.classes (asking with_array) scope
    (Node-F.Ref (simple (indexed (codes "x") (byte at) (Some (as_part with_array.classes (asking with_array) scope e) ∷ [])))) (byte at) for_flat

made_x : (scope : Scope) (e : Expr) (at : ℕ) → made_side with_array scope (x_at e at) ≡ x_side scope e at
made_x scope e at =
    ap (λ form. form for_flat) (at_expr with_array.classes (asking with_array) scope (byte at) (Ref (simple (indexed (codes "x") (byte at) (Some e ∷ [])))))
    ∙ ap (λ form. form (byte at) for_flat) (at_indexed with_array.classes (asking with_array) scope (codes "x") (byte at) e)

abbrev pub end_mark : ℕ → Expr
end_mark at = roll-Expr (record { place = byte at; node = EndMark })

made_end : (scope : Scope) (at : ℕ) → made with_array.classes (asking with_array) scope (end_mark at) (subscript_of 2)
    ≡ (λ virtuals. Ok (at_place (byte at) (node.Whole (pos 2)), virtuals))
made_end scope at =
    ap (λ form. form (subscript_of 2)) (at_expr with_array.classes (asking with_array) scope (byte at) EndMark)
    ∙ ap (λ form. form (byte at) (subscript_of 2)) (at_EndMark with_array.classes (asking with_array) scope)

abbrev pub x_element : ℕ → ℕ → Virtual
x_element k at = Component_element (record {
  member = record { name = codes "x"; home = root 6; item = 0; hidden = false; declares = x_declared };
  index = k ∷ [];
  kind = Real;
  place = byte at;
  constant = false;
})

-- what a reference at a place may ask for
read_below : (at : ℕ) → reading with_array.classes 256 (byte at) ≡ Ok (reading_by with_array.classes (reading with_array.classes 255))
unfolding reading
read_below at = refl

abbrev pub x_member : Member
x_member = record { name = codes "x"; home = root 6; item = 0; hidden = false; declares = x_declared }

x_dims : component_dims with_array.classes 255 x_member ≡ Ok (2 ∷ [])
unfolding walked sizes_from with_array
x_dims = rw (
  made_number with_array.classes (reading with_array.classes 255) (in_class 6).scope 2 15 for_value,
  layers (only_whole (byte 15)) (only_scalar WRONG_TYPE (byte 15)) _ (whole_has (byte 15) (pos 2)) refl refl,
  known_whole _ (byte 15) (pos 2),
) refl

-- the element with the number of the turn, then the last one
x_i : x_side (turn 1).scope (refers "i" 52) 50 [] ≡ Ok (at_place (byte 50) (node.Vars (1 ∷ []) Real [] []), x_element 1 50 ∷ [])
unfolding walked sizes_from with_array
x_i = rw (
  read_below 50,
  x_dims,
  made_named with_array (turn 1).scope (subscript_of 2) "i" 52,
  layers (only_whole (byte 52)) (scalar_or_vector (byte 52)) _ (whole_has (byte 52) (pos 1)) refl refl,
  known_whole _ (byte 52) (pos 1),
  x_dims,
) refl

x_end : x_side (turn 1).scope (end_mark 59) 57 (x_element 1 50 ∷ [])
    ≡ Ok (at_place (byte 57) (node.Vars (2 ∷ []) Real [] []), x_element 1 50 ∷ x_element 2 57 ∷ [])
unfolding walked sizes_from with_array
x_end = rw (
  read_below 57,
  x_dims,
  made_end (turn 1).scope 59,
  layers (only_whole (byte 59)) (scalar_or_vector (byte 59)) _ (whole_has (byte 59) (pos 2)) refl refl,
  known_whole _ (byte 59) (pos 2),
  x_dims,
) refl

made_both : (left right : Making ArrayExpr) {l r : ArrayExpr} {one two : List Virtual} → left [] ≡ Ok (l, one) → right one ≡ Ok (r, two) → made_sides left right ≡ Ok ((l, r), two)
made_both left right h k = rw (h, k) refl

pub last_element_is_found :
    made_kind with_array (Equal (x_at (refers "i" 52) 50) (x_at (end_mark 59) 57)) (byte 50) (turn 1) 1
    ≡ Ok (equations_alone (equation (flat.Var 1 0) (flat.Var 2 0) 50 ∷ []), 1)
unfolding constant with_array
last_element_is_found =
    made_equal with_array (turn 1) (byte 50) 1 (x_at (refers "i" 52) 50) (x_at (end_mark 59) 57) {virtuals = virtuals}
    (both_sides (made_x (turn 1).scope (refers "i" 52) 50) (made_x (turn 1).scope (end_mark 59) 57)
    ∙ made_both (x_side (turn 1).scope (refers "i" 52) 50) (x_side (turn 1).scope (end_mark 59) 57) x_i x_end)
    (variable_side (of_variable (replacing with_array) virtuals) (byte 50) 1 Real (flat.Var 1 0) refl)
    (variable_side (of_variable (replacing with_array) virtuals) (byte 57) 2 Real (flat.Var 2 0) refl)
    refl
  where
    virtuals : List Virtual
    virtuals = x_element 1 50 ∷ x_element 2 57 ∷ []
