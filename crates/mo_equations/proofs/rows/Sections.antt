-- Worked examples of whole classes with their sections, by computation.
use Rattle.std.proofs.Common.{◌≡◌, ℕ, pos, true, false, List, [], ◌∷◌, None, Ok, codes, refl}
use Prim.Native.String.{String}
use Rattle.mo_syntax.specs.Outcome.{breaks}
use Rattle.mo_syntax.specs.declared.class.Body.TheVariants.{Long, outs-Long}
use Rattle.mo_syntax.specs.declared.class.ClassKind.TheVariants.{Model}
use Rattle.mo_syntax.specs.declared.class.Item.{Item}
use Rattle.mo_syntax.specs.declared.class.Item.TheVariants.{Algorithm, Equations, outs-Algorithm, outs-Equations}
use Rattle.mo_syntax.specs.declared.equation.EquationKind.TheVariants.{Equal}
use Rattle.mo_syntax.specs.declared.meaning.Kind.TheVariants.{Real}
use Rattle.mo_syntax.specs.declared.meaning.Role.TheVariants.{Unknown}
use Rattle.mo_syntax.specs.Classes.{Under}
use Rattle.mo_flat.specs.declared.expr.FlatExpr as flat
use Rattle.mo_scope.specs.Rows.{Part, Row, Long_class}
use Rattle.mo_scope.specs.Lookup.{walked}
use Rattle.mo_scope.specs.Sizes.{sizes_from}
use Rattle.mo_eval.specs.Virtuals.{Virtual}
use Rattle.mo_syntax.specs.declared.rules.TheConstants.{OUTSIDE_PROFILE}
use Rattle.mo_values.specs.Asked.{for_flat}
use Rattle.mo_eval.specs.Values.{reading}
use Rattle.mo_equations.specs.Leaves.{Tree}
use Rattle.mo_equations.specs.Replacing.{constant, of_variable}
use Rattle.mo_equations.specs.Variables.{replacing}
use Rattle.mo_equations.specs.Equalities.{made_sides}
use Rattle.mo_equations.specs.Equations.{made_kind}
use Rattle.mo_equations.specs.Expansion.{expansion_of}
use Rattle.mo_scope.proofs.rows.Notation.{byte, id, name, component}
use Rattle.mo_equations.proofs.Scalars.{variable_side, whole_side}
use Rattle.mo_equations.proofs.rows.Notation.{asking, both_sides, equation, equations_alone, in_class, leaf_of, made_equal, made_name, made_number, named_side, number, number_side, refers, root_instance, virtuals_of}
use Rattle.mo_equations.proofs.rows.Equations.{sets_name}

-- a model with these items
abbrev pub model : ℕ → String → ℕ → List Item → List Part → Row
model number name at items parts = record {
  number = number;
  home = Under [];
  outermost = true;
  class = record {
    kind = Model;
    flags = record { encapsulated = false; partial = false; operator = false; expandable = false; purity = None };
    name = codes name;
    place = byte at;
    body = Long None items false;
  };
  form = Long_class;
  parts = parts;
  replacing = [];
  imports = [];
}

-- ---- initial equations

--     model M Real x; equation x = 2; initial equation x = 1; end M;
abbrev pub sections : List Item
sections = Equations false (sets_name "x" 25 2 29 ∷ []) ∷ Equations true (sets_name "x" 49 1 53 ∷ []) ∷ []

pub with_sections : Tree
with_sections = record {
  classes = model 6 "M" 6 sections (component (name (id "Real" 8 ∷ [])) "x" 13 ∷ []) ∷ [];
  instances = root_instance 6 ∷ leaf_of Real Unknown "x" 13 ∷ [];
}

x_is : (at n at' : ℕ) → made_kind with_sections (Equal (refers "x" at) (number n at')) (byte at) (in_class 6) 0
    ≡ Ok (equations_alone (equation (flat.Var 1 0) (flat.Whole (pos n)) at ∷ []), 0)
unfolding walked sizes_from reading constant with_sections
x_is at n at' =
    made_equal with_sections (in_class 6) (byte at) 0 (refers "x" at) (number n at') {virtuals = virtuals}
    (both_sides (made_name with_sections (in_class 6).scope "x" at) (made_number with_sections.classes (asking with_sections) (in_class 6).scope n at' for_flat))
    (variable_side (of_variable (replacing with_sections) virtuals) (byte at) 1 Real (flat.Var 1 0) refl)
    (whole_side (of_variable (replacing with_sections) virtuals) (byte at') (pos n))
    refl
  where
    virtuals : List Virtual
    virtuals = virtuals_of (made_sides (named_side with_sections (in_class 6).scope "x" at) (number_side n at'))

-- they stand apart
pub initial_equations_stand_apart :
    expansion_of with_sections
    ≡ Ok (record {
      name = codes "M";
      place = byte 6;
      vars = record { name = codes "x"; kind = Real; kind_text = codes "Real"; role = Unknown; attributes = []; binding = None; place = byte 13 } ∷ [];
      first = equation (flat.Var 1 0) (flat.Whole (pos 1)) 49 ∷ [];
      first_asserts = [];
      equations = equation (flat.Var 1 0) (flat.Whole (pos 2)) 25 ∷ [];
      asserts = [];
      connects = record { list = []; flows = [] };
    })
unfolding walked with_sections
initial_equations_stand_apart = rw (
  outs-Long None sections false,
  outs-Equations false (sets_name "x" 25 2 29 ∷ []),
  outs-Equations true (sets_name "x" 49 1 53 ∷ []),
  x_is 25 2 29,
  x_is 49 1 53,
) refl

-- ---- parts that are left out

--     model M algorithm end M;
abbrev pub algorithm : List Item
algorithm = Algorithm false [] ∷ []

pub with_algorithm : Tree
with_algorithm = record { classes = model 6 "M" 6 algorithm [] ∷ []; instances = root_instance 6 ∷ [] }

-- rule 34 at the name of the class
pub algorithm_is_refused : expansion_of with_algorithm ≡ breaks OUTSIDE_PROFILE (byte 6)
unfolding walked with_algorithm
algorithm_is_refused = rw (outs-Long None algorithm false, outs-Algorithm false []) refl
