-- Notation for worked examples, and what resolving makes of names and numbers.
use Rattle.std.proofs.Common.{◌≡◌, ℕ, pos, false, List, [], ◌∷◌, Some, None, Ok, Err, codes, refl, ap, ◌∙◌}
use Prim.Native.String.{String}
use Rattle.mo_syntax.specs.Outcome.{Outcome}
use Rattle.mo_syntax.specs.declared.equation.EquationKind.TheVariants.{Equal}
use Rattle.mo_syntax.specs.declared.expr.Expr.{Expr, roll-Expr}
use Rattle.mo_syntax.specs.declared.expr.Node.{Node-F}
use Rattle.mo_syntax.specs.declared.expr.Node.TheVariants.{Ref, Truth, Whole}
use Rattle.mo_syntax.specs.declared.meaning.Kind.{Kind}
use Rattle.mo_syntax.specs.declared.meaning.Role.{Role}
use Rattle.mo_syntax.specs.declared.place.Place.{Place}
use Rattle.mo_flat.specs.declared.array.ArrayExpr.{ArrayExpr}
use Rattle.mo_flat.specs.declared.array.ArrayNode.TheVariants as node
use Rattle.mo_flat.specs.declared.expr.FlatExpr.{FlatExpr}
use Rattle.mo_flat.specs.declared.model.FlatEquation.{FlatEquation}
use Rattle.mo_scope.specs.Rows.{Table}
use Rattle.mo_scope.specs.Frames.{Frame, Top, In, No_source, Scope}
use Rattle.mo_scope.specs.Instances.{Instance}
use Rattle.mo_typing.specs.Subscripts.{fine}
use Rattle.mo_arrays.specs.Equations.{sides}
use Rattle.mo_eval.specs.Virtuals.{Ask, Making, Virtual}
use Rattle.mo_values.specs.declared.context.Context.{Context}
use Rattle.mo_values.specs.Asked.{for_flat}
use Rattle.mo_eval.specs.Resolving.{made, made_node}
use Rattle.mo_eval.specs.Values.{most_references, reading}
use Rattle.mo_equations.specs.Leaves.{Tree}
use Rattle.mo_equations.specs.Replacing.{of_variable}
use Rattle.mo_equations.specs.Variables.{replacing}
use Rattle.mo_equations.specs.Gathering.{Made}
use Rattle.mo_equations.specs.Equalities.{Sides, made_side, made_sides}
use Rattle.mo_equations.specs.Equations.{Site, made_kind}
use Rattle.mo_scope.proofs.rows.Notation.{byte, name}
use Rattle.mo_equations.proofs.EachForm.{simple, indexed, at_Equal, at_expr, at_name, at_Truth, at_Whole}
use Rattle.mo_equations.proofs.Scalars.{IsSide, at_place, scalar_equation}

-- ---- notation

abbrev pub root : ℕ → Frame
root class = In class No_source Top (Some []) Top

abbrev pub root_instance : ℕ → Instance
root_instance class = record { frame = root class; path = []; place = byte 6; dims = []; leaf = None }

-- a component of the asked class, which is a leaf
abbrev pub leaf_of : Kind → Role → String → ℕ → Instance
leaf_of kind role name at = record {
  frame = In 0 No_source Top (Some ((codes name, []) ∷ [])) (root 6);
  path = (codes name, []) ∷ [];
  place = byte at;
  dims = [];
  leaf = Some (record { kind = kind; role = role; attributes = []; binding = None });
}

abbrev pub refers : String → ℕ → Expr
refers name at = roll-Expr (record { place = byte at; node = Ref (simple (indexed (codes name) (byte at) [])) })

abbrev pub number : ℕ → ℕ → Expr
number n at = roll-Expr (record { place = byte at; node = Whole (pos n) })

abbrev pub in_class : ℕ → Site
in_class class = record { scope = record { frame = root class; iterations = [] }; undecided = false }

abbrev pub equations_alone : List FlatEquation → Made
equations_alone equations = record { equations = equations; asserts = []; connects = [] }

abbrev pub equation : FlatExpr → FlatExpr → ℕ → FlatEquation
equation left right at = record { left = left; right = right; place = byte at }

-- ---- steps

abbrev pub asking : Tree → Ask
asking tree = reading tree.classes most_references

-- a name, resolved
abbrev pub named_in : Tree → Scope → Context → String → ℕ → Making ArrayExpr
named_in tree scope context name at =
    made_node tree.classes (asking tree) scope (Node-F.Ref (simple (indexed (codes name) (byte at) []))) (byte at) context

abbrev pub named_side : Tree → Scope → String → ℕ → Making ArrayExpr
named_side tree scope name at = named_in tree scope for_flat name at

pub made_named : (tree : Tree) (scope : Scope) (context : Context) (name : String) (at : ℕ) →
    made tree.classes (asking tree) scope (refers name at) context ≡ named_in tree scope context name at
made_named tree scope context name at =
    ap (λ form. form context) (at_expr tree.classes (asking tree) scope (byte at) (Ref (simple (indexed (codes name) (byte at) []))))
    ∙ ap (λ form. form (byte at) context) (at_name tree.classes (asking tree) scope (codes name) (byte at))

pub made_name : (tree : Tree) (scope : Scope) (name : String) (at : ℕ) → made_side tree scope (refers name at) ≡ named_side tree scope name at
made_name tree scope name at = made_named tree scope for_flat name at

-- a number, resolved
abbrev pub number_side : ℕ → ℕ → Making ArrayExpr
number_side n at virtuals = Ok (at_place (byte at) (node.Whole (pos n)), virtuals)

pub made_number : (table : Table) (ask : Ask) (scope : Scope) (n at : ℕ) (context : Context) → made table ask scope (number n at) context ≡ number_side n at
made_number table ask scope n at context =
    ap (λ form. form context) (at_expr table ask scope (byte at) (Whole (pos n))) ∙ ap (λ form. form (byte at) context) (at_Whole table ask scope (pos n))

-- `false`, resolved
abbrev pub never : ℕ → Expr
never at = roll-Expr (record { place = byte at; node = Truth false })

pub made_never : (table : Table) (ask : Ask) (scope : Scope) (at : ℕ) (context : Context) →
    made table ask scope (never at) context ≡ (λ virtuals. Ok (at_place (byte at) (node.Truth false), virtuals))
made_never table ask scope at context =
    ap (λ form. form context) (at_expr table ask scope (byte at) (Truth false)) ∙ ap (λ form. form (byte at) context) (at_Truth table ask scope false)

pub both_sides : {a b c d : Making ArrayExpr} → a ≡ c → b ≡ d → made_sides a b ≡ made_sides c d
both_sides p q = rw (p, q) refl

abbrev pub virtuals_of : Outcome Sides → List Virtual
virtuals_of (Ok sides) = sides.1
virtuals_of (Err broken) = []

abbrev pub virtuals_in : Outcome (ArrayExpr × List Virtual) → List Virtual
virtuals_in (Ok made) = made.1
virtuals_in (Err broken) = []

-- an equation of two scalar sides
pub made_equal : (tree : Tree) (site : Site) (place : Place) (turns : ℕ) (left right : Expr) {l r : ArrayExpr} {virtuals : List Virtual} {a b : Kind} {x y : FlatExpr} →
    made_sides (made_side tree site.scope left) (made_side tree site.scope right) ≡ Ok ((l, r), virtuals) →
    IsSide (of_variable (replacing tree) virtuals) l a x → IsSide (of_variable (replacing tree) virtuals) r b y → sides place a b ≡ fine →
    made_kind tree (Equal left right) place site turns ≡ Ok (equations_alone (record { left = x; right = y; place = place } ∷ []), turns)
made_equal tree site place turns left right {virtuals = virtuals} made h k s =
    ap (λ form. form place site turns) (at_Equal tree left right) ∙ rw (made, scalar_equation tree place virtuals h k s) refl
