-- Worked examples of bindings, by computation.
use Rattle.std.proofs.Common.{◌≡◌, ℕ, pos, List, [], ◌∷◌, Some, None, Ok, codes, refl}
use Prim.Native.String.{String}
use Rattle.mo_syntax.specs.Outcome.{breach, breaks}
use Rattle.mo_syntax.specs.declared.meaning.Kind.{Kind}
use Rattle.mo_syntax.specs.declared.meaning.Kind.TheVariants.{Real}
use Rattle.mo_syntax.specs.declared.meaning.Kind.TheVariants as kinds
use Rattle.mo_syntax.specs.declared.meaning.Role.{Role}
use Rattle.mo_syntax.specs.declared.meaning.Role.TheVariants.{Unknown, Parameter}
use Rattle.mo_flat.specs.declared.expr.FlatExpr as flat
use Rattle.mo_scope.specs.Frames.{Top, In, No_source}
use Rattle.mo_scope.specs.Instances.{Instance, Leaf}
use Rattle.mo_syntax.specs.declared.rules.TheConstants.{WRONG_EACH}
use Rattle.mo_typing.specs.Kinds.{accepts}
use Rattle.mo_values.specs.Asked.{for_flat, for_value}
use Rattle.mo_equations.specs.Leaves.{Tree}
use Rattle.mo_equations.specs.Replacing.{of_variable}
use Rattle.mo_equations.specs.Variables.{declared, fits_along, replacing}
use Rattle.mo_scope.proofs.rows.Notation.{byte, row}
use Rattle.mo_equations.proofs.Scalars.{known_whole, layers, replaced_whole, unfit, whole_element, whole_has}
use Rattle.mo_equations.proofs.rows.Notation.{root, root_instance, number, in_class, asking, made_number}

-- a leaf of the asked class with a number as its binding, at these pending indices
abbrev pub bound : Kind → Role → String → ℕ → ℕ → ℕ → List ℕ → Leaf
bound kind role name at n at' pending = record {
  kind = kind;
  role = role;
  attributes = [];
  binding = Some (record { value = number n at'; scope = (in_class 6).scope; pending = pending });
}

abbrev pub instance_of : String → ℕ → Leaf → Instance
instance_of name at leaf = record {
  frame = In 0 No_source Top (Some ((codes name, []) ∷ [])) (root 6);
  path = (codes name, []) ∷ [];
  place = byte at;
  dims = [];
  leaf = Some leaf;
}

abbrev pub with_leaf : String → ℕ → Leaf → Tree
with_leaf name at leaf = record { classes = row 6 [] "M" 6 [] [] ∷ []; instances = root_instance 6 ∷ instance_of name at leaf ∷ [] }

-- ---- the binding of an unknown

--     model M Real x = 1; end M;
abbrev pub unknown : Leaf
unknown = bound Real Unknown "x" 13 1 17 []

abbrev pub of_unknown : Tree
of_unknown = with_leaf "x" 13 unknown

pub binding_is_an_equation :
    declared of_unknown (record { number = 1; instance = instance_of "x" 13 unknown; leaf = unknown })
    ≡ Ok (record {
      variable = record { name = codes "x"; kind = Real; kind_text = codes "Real"; role = Unknown; attributes = []; binding = None; place = byte 13 };
      equations = record { left = flat.Var 1 0; right = flat.Whole (pos 1); place = byte 17 } ∷ [];
    })
binding_is_an_equation = rw (
  made_number of_unknown.classes (asking of_unknown) (in_class 6).scope 1 17 for_flat,
  layers (λ got. accepts Real got (byte 17)) _ _ (whole_has (byte 17) (pos 1)) refl refl,
  whole_element (byte 17) (pos 1),
  replaced_whole (of_variable (replacing of_unknown) []) (pos 1),
) refl

-- ---- the binding of a parameter

--     model M parameter Integer n = 3; end M;
abbrev pub parameter : Leaf
parameter = bound kinds.Whole Parameter "n" 26 3 30 []

abbrev pub of_parameter : Tree
of_parameter = with_leaf "n" 26 parameter

-- by its value
pub parameter_is_printed :
    declared of_parameter (record { number = 1; instance = instance_of "n" 26 parameter; leaf = parameter })
    ≡ Ok (record {
      variable = record {
        name = codes "n";
        kind = kinds.Whole;
        kind_text = codes "Integer";
        role = Parameter;
        attributes = [];
        binding = Some (flat.Whole (pos 3));
        place = byte 26;
      };
      equations = [];
    })
parameter_is_printed = rw (
  made_number of_parameter.classes (asking of_parameter) (in_class 6).scope 3 30 for_value,
  layers (λ got. accepts kinds.Whole got (byte 30)) _ _ (whole_has (byte 30) (pos 3)) refl refl,
  known_whole _ (byte 30) (pos 3),
) refl

-- ---- a scalar for an array

--     model A parameter Real k; end A; model M A a[2](k = 1); end M;
abbrev pub element : Leaf
element = bound Real Parameter "k" 23 1 55 (1 ∷ [])

abbrev pub of_element : Instance
of_element = record {
  frame = In 0 No_source Top (Some ((codes "a", 1 ∷ []) ∷ (codes "k", []) ∷ [])) (root 7);
  path = (codes "a", 1 ∷ []) ∷ (codes "k", []) ∷ [];
  place = byte 23;
  dims = [];
  leaf = Some element;
}

abbrev pub with_element : Tree
with_element = record {
  classes = row 6 [] "A" 6 [] [] ∷ row 7 [] "M" 39 [] [] ∷ [];
  instances =
      root_instance 7 ∷
      record { frame = In 6 No_source Top (Some ((codes "a", 1 ∷ []) ∷ [])) (root 7); path = (codes "a", 1 ∷ []) ∷ []; place = byte 43; dims = 2 ∷ []; leaf = None } ∷
      of_element ∷ [];
}

-- without `each` rule 23 at the binding
pub scalar_is_refused : declared with_element (record { number = 1; instance = of_element; leaf = element }) ≡ breaks WRONG_EACH (byte 55)
scalar_is_refused = rw (
  made_number with_element.classes (asking with_element) (in_class 6).scope 1 55 for_flat,
  unfit (λ got. accepts Real got (byte 55)) (fits_along (byte 55) (1 ∷ []) (1 ∷ []) (2 ∷ [])) (breach WRONG_EACH (byte 55)) (whole_has (byte 55) (pos 1)) refl refl,
) refl
