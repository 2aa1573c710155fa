-- Worked examples of equations, by computation.
use Rattle.std.proofs.Common.{◌≡◌, ℕ, ℤ, pos, true, false, List, [], ◌∷◌, Some, None, Ok, codes, refl, ap, ◌∙◌}
use Prim.Native.String.{String}
use Rattle.mo_syntax.specs.Outcome.{Outcome, and_then, breaks}
use Rattle.mo_syntax.specs.declared.equation.EquationKind.{EquationKind}
use Rattle.mo_syntax.specs.declared.equation.EquationKind.TheVariants.{Equal}
use Rattle.mo_syntax.specs.declared.equation.EquationKind.TheVariants as form
use Rattle.mo_syntax.specs.declared.equation.EquationOf.{EquationOf}
use Rattle.mo_syntax.specs.declared.class.Vary.TheVariants as vary
use Rattle.mo_syntax.specs.declared.expr.Expr.{Expr, roll-Expr}
use Rattle.mo_syntax.specs.declared.expr.IndexOf.{IndexOf}
use Rattle.mo_syntax.specs.declared.expr.Node.TheVariants.{Range}
use Rattle.mo_syntax.specs.declared.meaning.Kind.TheVariants.{Real, Truth}
use Rattle.mo_syntax.specs.declared.meaning.Role.TheVariants.{Unknown, Parameter}
use Rattle.mo_syntax.specs.declared.place.Place.{Place}
use Rattle.mo_flat.specs.declared.array.ArrayExpr.{ArrayExpr}
use Rattle.mo_flat.specs.declared.array.ArrayNode.TheVariants as node
use Rattle.mo_flat.specs.declared.expr.FlatExpr.{FlatExpr}
use Rattle.mo_flat.specs.declared.expr.FlatExpr as flat
use Rattle.mo_scope.specs.Rows.{no_flags}
use Rattle.mo_scope.specs.Frames.{Scope}
use Rattle.mo_scope.specs.Lookup.{walked}
use Rattle.mo_scope.specs.Sizes.{sizes_from}
use Rattle.mo_values.specs.declared.value.Scalar.TheVariants as scalar
use Rattle.mo_syntax.specs.declared.rules.TheConstants.{WRONG_TYPE, CONDITION_NOT_BOOLEAN, BRANCH_COUNTS_DIFFER}
use Rattle.mo_values.specs.Scalars.{Known}
use Rattle.mo_eval.specs.Virtuals.{Element, Making, Virtual, resolved_by}
use Rattle.mo_eval.specs.Components.{reader}
use Rattle.mo_values.specs.declared.context.Context.{Context}
use Rattle.mo_values.specs.Asked.{for_flat, for_value, layered, only_scalar, only_truth, only_whole, read_in}
use Rattle.mo_eval.specs.Contexts.{truth_of}
use Rattle.mo_eval.specs.Resolving.{made, read_end}
use Rattle.mo_eval.specs.Values.{reading}
use Rattle.mo_equations.specs.Leaves.{Tree}
use Rattle.mo_equations.specs.Replacing.{constant, flat_element, of_variable}
use Rattle.mo_equations.specs.Variables.{replacing}
use Rattle.mo_equations.specs.Equalities.{made_sides}
use Rattle.mo_equations.specs.Equations.{Site, condition_known, flat_condition, in_branch, made_kind, range_numbers, vector_size, with_iteration}
use Rattle.mo_scope.proofs.rows.Notation.{byte, id, name, component, component_by, row}
use Rattle.mo_equations.proofs.EachForm.{at_expr, at_For, at_If, at_Range}
use Rattle.mo_equations.proofs.Scalars.{at_place, layers, known_range, known_whole, range_has, replaced_variable, undecided_variable, variable_element, variable_has, variable_side, whole_has, whole_side}
use Rattle.mo_equations.proofs.rows.Notation.{root_instance, leaf_of, refers, number, in_class, equations_alone, equation, asking, named_in, named_side, made_named, made_name, number_side, made_number, both_sides, virtuals_of, virtuals_in, made_equal}

-- ---- an equation of two names

--     model M Real x; Real y; equation x = y; end M;
pub two_unknowns : Tree
two_unknowns = record {
  classes = row 6 [] "M" 6 [] (component (name (id "Real" 8 ∷ [])) "x" 13 ∷ component (name (id "Real" 16 ∷ [])) "y" 21 ∷ []) ∷ [];
  instances = root_instance 6 ∷ leaf_of Real Unknown "x" 13 ∷ leaf_of Real Unknown "y" 21 ∷ [];
}

pub names_are_variables :
    made_kind two_unknowns (Equal (refers "y" 33) (refers "x" 37)) (byte 33) (in_class 6) 0
    ≡ Ok (equations_alone (equation (flat.Var 2 0) (flat.Var 1 0) 33 ∷ []), 0)
unfolding walked sizes_from reading constant two_unknowns
names_are_variables =
    made_equal two_unknowns (in_class 6) (byte 33) 0 (refers "y" 33) (refers "x" 37) {virtuals = virtuals}
    (both_sides (made_name two_unknowns (in_class 6).scope "y" 33) (made_name two_unknowns (in_class 6).scope "x" 37))
    (variable_side (of_variable (replacing two_unknowns) virtuals) (byte 33) 1 Real (flat.Var 2 0) refl)
    (variable_side (of_variable (replacing two_unknowns) virtuals) (byte 37) 2 Real (flat.Var 1 0) refl)
    refl
  where
    virtuals : List Virtual
    virtuals = virtuals_of (made_sides (named_side two_unknowns (in_class 6).scope "y" 33) (named_side two_unknowns (in_class 6).scope "x" 37))

-- ---- a loop

-- from one number to another
abbrev pub from_to : ℕ → ℕ → ℕ → ℕ → Expr
from_to a at b at' = roll-Expr (record { place = byte at; node = Range (number a at) None (number b at') })

end_of : (read : Element → Outcome Known) (context : Context) (e : Expr) (resolving : Context → Making ArrayExpr) (place : Place) (n : ℤ) →
    resolving (read_in context) [] ≡ Ok (at_place place (node.Whole n), []) → read_end read context (e, resolving) ≡ Ok (Some (scalar.Whole n))
end_of read context e resolving place n h =
    rw (h, layers (only_whole _) (only_scalar WRONG_TYPE _) _ (whole_has place n) refl refl, known_whole _ place n) refl

-- a range of two numbers, resolved
made_from_to : (tree : Tree) (scope : Scope) (context : Context) (a at b at' : ℕ) →
    made tree.classes (asking tree) scope (from_to a at b at') context []
    ≡ Ok (at_place (byte at) (node.Range (pos a) (pos 1) (pos b)), [])
made_from_to tree scope context a at b at' =
    ap (λ form. form context []) (at_expr tree.classes (asking tree) scope (byte at) (Range (number a at) None (number b at')))
    ∙ ap (λ form. form (byte at) context []) (at_Range tree.classes (asking tree) scope (number a at) (number b at'))
    ∙ rw (
      end_of (reader (asking tree)) context (number a at) (made tree.classes (asking tree) scope (number a at)) (byte at) (pos a) (ap (λ side. side []) (made_number tree.classes (asking tree) scope a at (read_in context))),
      end_of (reader (asking tree)) context (number b at') (made tree.classes (asking tree) scope (number b at')) (byte at') (pos b) (ap (λ side. side []) (made_number tree.classes (asking tree) scope b at' (read_in context))),
    ) refl

one_to_two : (tree : Tree) (scope : Scope) (at at' : ℕ) → range_numbers tree scope (from_to 1 at 2 at') ≡ Ok (pos 1 ∷ pos 2 ∷ [])
unfolding reading
one_to_two tree scope at at' =
    rw (
      made_from_to tree scope for_value 1 at 2 at',
      layers (only_whole _) (vector_size _) 2 (range_has (byte at) (pos 1) (pos 1) (pos 2) (2 ∷ []) refl) refl refl,
      known_range _ (byte at) (pos 1) (pos 1) (pos 2) (1 ∷ []),
      known_range _ (byte at) (pos 1) (pos 1) (pos 2) (2 ∷ []),
    ) refl

--     model M Real x; equation for i in 1:2 loop x = i; end for; end M;
pub one_unknown : Tree
one_unknown = record {
  classes = row 6 [] "M" 6 [] (component (name (id "Real" 8 ∷ [])) "x" 13 ∷ []) ∷ [];
  instances = root_instance 6 ∷ leaf_of Real Unknown "x" 13 ∷ [];
}

-- in the turn with that number
abbrev pub turn : ℕ → Site
turn n = with_iteration (in_class 6) (codes "i") (pos n)

in_turn : (n : ℕ) → made_kind one_unknown (Equal (refers "x" 43) (refers "i" 47)) (byte 43) (turn n) n
    ≡ Ok (equations_alone (equation (flat.Var 1 0) (flat.Whole (pos n)) 43 ∷ []), n)
unfolding walked sizes_from reading constant one_unknown
in_turn n =
    made_equal one_unknown (turn n) (byte 43) n (refers "x" 43) (refers "i" 47) {virtuals = virtuals}
    (both_sides (made_name one_unknown (turn n).scope "x" 43) (made_name one_unknown (turn n).scope "i" 47))
    (variable_side (of_variable (replacing one_unknown) virtuals) (byte 43) 1 Real (flat.Var 1 0) refl)
    (whole_side (of_variable (replacing one_unknown) virtuals) (byte 47) (pos n))
    refl
  where
    virtuals : List Virtual
    virtuals = virtuals_of (made_sides (named_side one_unknown (turn n).scope "x" 43) (named_side one_unknown (turn n).scope "i" 47))

abbrev pub over : String → Expr → IndexOf Expr
over name e = record { name = codes name; range = Some e }

abbrev pub written : ℕ → EquationKind → EquationOf EquationKind
written at kind = record { place = byte at; what = kind }

-- two equations, and two turns
pub loop_is_unfolded :
    made_kind one_unknown (form.For (over "i" (from_to 1 34 2 36) ∷ []) (written 43 (Equal (refers "x" 43) (refers "i" 47)) ∷ [])) (byte 25) (in_class 6) 0
    ≡ Ok (equations_alone (equation (flat.Var 1 0) (flat.Whole (pos 1)) 43 ∷ equation (flat.Var 1 0) (flat.Whole (pos 2)) 43 ∷ []), 2)
loop_is_unfolded =
    ap (λ former. former (byte 25) (in_class 6) 0) (at_For one_unknown (over "i" (from_to 1 34 2 36) ∷ []) (written 43 (Equal (refers "x" 43) (refers "i" 47)) ∷ []))
    ∙ rw (one_to_two one_unknown (in_class 6).scope 34 36, in_turn 1, in_turn 2) refl

-- ---- an if-equation that no value decides

--     model M parameter Boolean b; Real x; Real y; equation if b then x = 1; y = 2; else x = 3; end if; end M;
pub with_condition : Tree
with_condition = record {
  classes = row 6 [] "M" 6 [] (
      component_by no_flags None vary.Parameter (name (id "Boolean" 18 ∷ [])) "b" 26 [] ∷
      component (name (id "Real" 29 ∷ [])) "x" 34 ∷ component (name (id "Real" 37 ∷ [])) "y" 42 ∷ []
      ) ∷ [];
  instances = root_instance 6 ∷ leaf_of Truth Parameter "b" 26 ∷ leaf_of Real Unknown "x" 34 ∷ leaf_of Real Unknown "y" 42 ∷ [];
}

-- the parameter has no binding, so nothing is known of it
condition_is_undecided : condition_known with_condition (in_class 6).scope (refers "b" 57) ≡ Ok None
unfolding walked sizes_from reading with_condition
condition_is_undecided =
    ap (λ making. and_then (resolved_by (making [])) (truth_of (reader (asking with_condition)) CONDITION_NOT_BOOLEAN (byte 57))) (made_named with_condition (in_class 6).scope for_value "b" 57)
    ∙ rw (
      layers (only_truth CONDITION_NOT_BOOLEAN (byte 57)) (only_scalar CONDITION_NOT_BOOLEAN (byte 57)) _ (variable_has (byte 57) 1 Truth) refl refl,
      undecided_variable _ (byte 57) 1 Truth refl refl,
    ) refl

condition_is_printed : flat_condition with_condition (in_class 6).scope (refers "b" 57) ≡ Ok (flat.Var 1 0)
unfolding walked sizes_from reading constant with_condition
condition_is_printed =
    ap (λ making. and_then (resolved_by (making [])) (λ resolved.
    and_then (layered (only_truth CONDITION_NOT_BOOLEAN (byte 57)) (only_scalar CONDITION_NOT_BOOLEAN (byte 57)) resolved.expression) (λ _. flat_element (replacing with_condition) resolved [])))
    (made_named with_condition (in_class 6).scope for_flat "b" 57)
    ∙ rw (
      layers (only_truth CONDITION_NOT_BOOLEAN (byte 57)) (only_scalar CONDITION_NOT_BOOLEAN (byte 57)) _ (variable_has (byte 57) 1 Truth) refl refl,
      variable_element (byte 57) 1 Truth,
      replaced_variable (of_variable (replacing with_condition) (virtuals_in (named_in with_condition (in_class 6).scope for_flat "b" 57 []))) 1 0,
    ) refl

abbrev pub in_its_branch : Site
in_its_branch = in_branch (in_class 6)

-- `x` and `y` are the variables 2 and 3
x_is : (at n at' : ℕ) → made_kind with_condition (Equal (refers "x" at) (number n at')) (byte at) in_its_branch 0
    ≡ Ok (equations_alone (equation (flat.Var 2 0) (flat.Whole (pos n)) at ∷ []), 0)
unfolding walked sizes_from reading constant with_condition
x_is at n at' =
    made_equal with_condition in_its_branch (byte at) 0 (refers "x" at) (number n at') {virtuals = virtuals}
    (both_sides (made_name with_condition in_its_branch.scope "x" at) (made_number with_condition.classes (asking with_condition) in_its_branch.scope n at' for_flat))
    (variable_side (of_variable (replacing with_condition) virtuals) (byte at) 1 Real (flat.Var 2 0) refl)
    (whole_side (of_variable (replacing with_condition) virtuals) (byte at') (pos n))
    refl
  where
    virtuals : List Virtual
    virtuals = virtuals_of (made_sides (named_side with_condition in_its_branch.scope "x" at) (number_side n at'))

y_is : (at n at' : ℕ) → made_kind with_condition (Equal (refers "y" at) (number n at')) (byte at) in_its_branch 0
    ≡ Ok (equations_alone (equation (flat.Var 3 0) (flat.Whole (pos n)) at ∷ []), 0)
unfolding walked sizes_from reading constant with_condition
y_is at n at' =
    made_equal with_condition in_its_branch (byte at) 0 (refers "y" at) (number n at') {virtuals = virtuals}
    (both_sides (made_name with_condition in_its_branch.scope "y" at) (made_number with_condition.classes (asking with_condition) in_its_branch.scope n at' for_flat))
    (variable_side (of_variable (replacing with_condition) virtuals) (byte at) 1 Real (flat.Var 3 0) refl)
    (whole_side (of_variable (replacing with_condition) virtuals) (byte at') (pos n))
    refl
  where
    virtuals : List Virtual
    virtuals = virtuals_of (made_sides (named_side with_condition in_its_branch.scope "y" at) (number_side n at'))

abbrev pub sets_name : String → ℕ → ℕ → ℕ → EquationOf EquationKind
sets_name name at n at' = written at (Equal (refers name at) (number n at'))

-- the branches have two equations and one: rule 35 at the if-equation
pub branch_counts_differ :
    made_kind with_condition (form.If ((refers "b" 57, sets_name "x" 64 1 68 ∷ sets_name "y" 71 2 75 ∷ []) ∷ []) (sets_name "x" 83 3 87 ∷ [])) (byte 54) (in_class 6) 0
    ≡ breaks BRANCH_COUNTS_DIFFER (byte 54)
branch_counts_differ =
    ap (λ former. former (byte 54) (in_class 6) 0)
    (at_If with_condition ((refers "b" 57, sets_name "x" 64 1 68 ∷ sets_name "y" 71 2 75 ∷ []) ∷ []) (sets_name "x" 83 3 87 ∷ []))
    ∙ rw (condition_is_undecided, condition_is_printed, x_is 64 1 68, y_is 71 2 75, x_is 83 3 87) refl

abbrev pub minus : FlatExpr → FlatExpr → FlatExpr
minus left right = flat.Sum ((false, left) ∷ (true, right) ∷ [])

--     .. if b then x = 1; y = 2; else x = 3; y = 4; end if; ..
pub branches_are_joined :
    made_kind with_condition
    (form.If ((refers "b" 57, sets_name "x" 64 1 68 ∷ sets_name "y" 71 2 75 ∷ []) ∷ []) (sets_name "x" 83 3 87 ∷ sets_name "y" 90 4 94 ∷ []))
    (byte 54) (in_class 6) 0
    ≡ Ok (
      equations_alone (
          equation (flat.Whole (pos 0)) (flat.If ((flat.Var 1 0, minus (flat.Var 2 0) (flat.Whole (pos 1))) ∷ []) (minus (flat.Var 2 0) (flat.Whole (pos 3)))) 54 ∷
          equation (flat.Whole (pos 0)) (flat.If ((flat.Var 1 0, minus (flat.Var 3 0) (flat.Whole (pos 2))) ∷ []) (minus (flat.Var 3 0) (flat.Whole (pos 4)))) 54 ∷ []
          ),
      0,
    )
branches_are_joined =
    ap (λ former. former (byte 54) (in_class 6) 0)
    (at_If with_condition ((refers "b" 57, sets_name "x" 64 1 68 ∷ sets_name "y" 71 2 75 ∷ []) ∷ []) (sets_name "x" 83 3 87 ∷ sets_name "y" 90 4 94 ∷ []))
    ∙ rw (condition_is_undecided, condition_is_printed, x_is 64 1 68, y_is 71 2 75, x_is 83 3 87, y_is 90 4 94) refl
