-- A worked example of a constant that is found through a class, by computation.
use Rattle.std.proofs.Common.{◌≡◌, ℕ, pos, false, List, [], ◌∷◌, Some, None, Ok, codes, refl, ap, ◌∙◌}
use Prim.Native.String.{String}
use Rattle.mo_syntax.specs.declared.class.Causal.TheVariants.{None as NoCausality}
use Rattle.mo_syntax.specs.declared.class.Vary.TheVariants.{Constant}
use Rattle.mo_syntax.specs.declared.equation.EquationKind.TheVariants.{Equal}
use Rattle.mo_syntax.specs.declared.expr.Expr.{Expr, roll-Expr}
use Rattle.mo_syntax.specs.declared.expr.Node.{Node-F}
use Rattle.mo_syntax.specs.declared.expr.Node.TheVariants.{Ref}
use Rattle.mo_syntax.specs.declared.expr.ReferenceOf.{ReferenceOf}
use Rattle.mo_syntax.specs.declared.meaning.Kind.TheVariants.{Real}
use Rattle.mo_syntax.specs.declared.meaning.Role.TheVariants.{Unknown}
use Rattle.mo_flat.specs.declared.array.ArrayExpr.{ArrayExpr}
use Rattle.mo_flat.specs.declared.expr.FlatExpr as flat
use Rattle.mo_scope.specs.Rows.{Part, Element_of, A_component, no_flags}
use Rattle.mo_scope.specs.Frames.{Scope, Top, looked_up}
use Rattle.mo_scope.specs.Lookup.{walked}
use Rattle.mo_scope.specs.Sizes.{sizes_from}
use Rattle.mo_typing.specs.Kinds.{accepts}
use Rattle.mo_values.specs.Asked.{fitted, for_flat}
use Rattle.mo_eval.specs.Virtuals.{Making, Virtual}
use Rattle.mo_eval.specs.Resolving.{made_node}
use Rattle.mo_eval.specs.Values.{reading}
use Rattle.mo_equations.specs.Leaves.{Tree}
use Rattle.mo_equations.specs.Replacing.{constant, of_variable}
use Rattle.mo_equations.specs.Variables.{replacing}
use Rattle.mo_equations.specs.Equalities.{made_side, made_sides}
use Rattle.mo_equations.specs.Equations.{made_kind}
use Rattle.mo_scope.proofs.rows.Notation.{byte, id, name, component, row}
use Rattle.mo_equations.proofs.EachForm.{indexed, at_dotted, at_expr}
use Rattle.mo_equations.proofs.Scalars.{layers, replaced_whole, variable_side, whole_element, whole_has}
use Rattle.mo_equations.proofs.rows.Notation.{asking, both_sides, equation, equations_alone, in_class, leaf_of, made_equal, made_name, made_number, named_side, number, refers, root_instance, virtuals_of}

-- constant TYPE NAME = NUMBER
abbrev pub constant_with : ReferenceOf Expr → String → ℕ → ℕ → ℕ → Part
constant_with type name at n at' = Element_of (record {
  name = codes name;
  place = byte at;
  flags = no_flags;
  sort = A_component (record {
    prefix = record { flow = false; stream = false; vary = Constant; causal = NoCausality };
    base = type;
    base_subs = [];
    name = codes name;
    place = byte at;
    subs = [];
    mods = record { 0 = [] };
    binding = Some (number n at');
    condition = None;
  });
  own = record { list = []; value = Some (number n at') };
  limit = None;
})

--     package P constant Real c = 2; end P; model M Real x; equation x = P.c; end M;
pub with_constant : Tree
with_constant = record {
  classes =
      row 7 [] "P" 8 [] (constant_with (name (id "Real" 19 ∷ [])) "c" 24 2 28 ∷ []) ∷
      row 6 [] "M" 44 [] (component (name (id "Real" 46 ∷ [])) "x" 51 ∷ []) ∷ [];
  instances = root_instance 6 ∷ leaf_of Real Unknown "x" 51 ∷ [];
}

abbrev pub of_class : ℕ → ℕ → ReferenceOf Expr
of_class at at' = record { top = false; parts = indexed (codes "P") (byte at) [] ∷ indexed (codes "c") (byte at') [] ∷ [] }

abbrev pub constant_side : Making ArrayExpr
constant_side = made_node with_constant.classes (asking with_constant) (in_class 6).scope (Node-F.Ref (record { top = false; parts = indexed (codes "P") (byte 67) [] ∷ indexed (codes "c") (byte 69) [] ∷ [] })) (byte 67) for_flat

abbrev pub the_constant : Expr
the_constant = roll-Expr (record { place = byte 67; node = Ref (of_class 67 69) })

made_constant : made_side with_constant (in_class 6).scope the_constant ≡ constant_side
made_constant =
    ap (λ form. form for_flat) (at_expr with_constant.classes (asking with_constant) (in_class 6).scope (byte 67) (Ref (of_class 67 69)))
    ∙ ap (λ form. form (byte 67) for_flat) (at_dotted with_constant.classes (asking with_constant) (in_class 6).scope (codes "P") (codes "c") (byte 67) (byte 69))

abbrev pub in_package : Scope
in_package = record { frame = looked_up 7 [] Top; iterations = [] }

virtuals : List Virtual
virtuals = virtuals_of (made_sides (named_side with_constant (in_class 6).scope "x" 63) constant_side)

constant_is_replaced : of_variable (replacing with_constant) virtuals 2 ≡ Ok (flat.Whole (pos 2))
unfolding walked sizes_from reading constant with_constant virtuals
constant_is_replaced = rw (
  made_number with_constant.classes (reading with_constant.classes 255) in_package 2 28 for_flat,
  layers (λ got. accepts Real got (byte 28)) (fitted (byte 28) []) _ (whole_has (byte 28) (pos 2)) refl refl,
  whole_element (byte 28) (pos 2),
  replaced_whole _ (pos 2),
) refl

pub constants_have_no_variable :
    made_kind with_constant (Equal (refers "x" 63) the_constant) (byte 63) (in_class 6) 0
    ≡ Ok (equations_alone (equation (flat.Var 1 0) (flat.Whole (pos 2)) 63 ∷ []), 0)
unfolding walked sizes_from reading constant with_constant virtuals
constants_have_no_variable =
    made_equal with_constant (in_class 6) (byte 63) 0 (refers "x" 63) the_constant {virtuals = virtuals}
    (both_sides (made_name with_constant (in_class 6).scope "x" 63) made_constant)
    (variable_side (of_variable (replacing with_constant) virtuals) (byte 63) 1 Real (flat.Var 1 0) refl)
    (variable_side (of_variable (replacing with_constant) virtuals) (byte 67) 2 Real (flat.Whole (pos 2)) constant_is_replaced)
    refl
