-- Parts of forms, each with how it is resolved: words of the contracts inside this crate alone.
use Rattle.std.specs.Prelude.{Bool, List, map, Option}
use Rattle.std.specs.Option.{option_map}
use Rattle.mo_syntax.specs.declared.expr.Arg.{Arg, para-Arg}
use Rattle.mo_syntax.specs.declared.expr.Args.{Args, para-Args}
use Rattle.mo_syntax.specs.declared.expr.BranchOf.{BranchOf}
use Rattle.mo_syntax.specs.declared.expr.CalleeOf.{CalleeOf}
use Rattle.mo_syntax.specs.declared.expr.CalleeOf.TheVariants.{Named, Der, Initial, Pure}
use Rattle.mo_syntax.specs.declared.expr.Expr.{Expr}
use Rattle.mo_syntax.specs.declared.expr.FactorOf.{FactorOf}
use Rattle.mo_syntax.specs.declared.expr.Node.{Node, para-Node}
use Rattle.mo_syntax.specs.declared.expr.PartOf.{PartOf}
use Rattle.mo_syntax.specs.declared.expr.ReferenceOf.{ReferenceOf}
use Rattle.mo_syntax.specs.declared.expr.TermOf.{TermOf}
use Rattle.mo_syntax.specs.declared.place.Place.{Place}
use Rattle.mo_flat.specs.declared.array.ArrayExpr.{ArrayExpr}
use Rattle.mo_scope.specs.Rows.{Table}
use Rattle.mo_scope.specs.Frames.{Scope}
use Rattle.mo_eval.specs.Virtuals.{Ask, Making, make, make_then}
use Rattle.mo_values.specs.declared.context.Context.{Context}
use Rattle.mo_eval.specs.Contexts.{Part}
use Rattle.mo_eval.specs.Resolving.{made, made_node, made_expr, argument_of, arguments_of, make_part}

-- a form, resolved at a place
abbrev pub Former : Type 0
Former = Place → Context → Making ArrayExpr

abbrev pub made_below : Table → Ask → Scope → Node → Former
made_below table ask scope =
    para-Node (Option Part) Former (Option (List Part)) (Context → Making ArrayExpr) argument_of (made_node table ask scope) arguments_of made_expr

abbrev pub made_arguments : Table → Ask → Scope → Args → Option (List Part)
made_arguments table ask scope =
    para-Args (Option Part) Former (Option (List Part)) (Context → Making ArrayExpr) argument_of (made_node table ask scope) arguments_of made_expr

-- parts of a form, each with how it is resolved
abbrev pub as_part : Table → Ask → Scope → Expr → Part
as_part table ask scope e = (e, made table ask scope e)

abbrev pub as_term : (Expr → Part) → TermOf Expr → TermOf Part
as_term part term = record { minus = term.minus; dotted = term.dotted; value = part term.value }

abbrev pub as_factor : (Expr → Part) → FactorOf Expr → FactorOf Part
as_factor part factor = record { divide = factor.divide; dotted = factor.dotted; value = part factor.value }

abbrev pub as_branch : (Expr → Part) → BranchOf Expr → BranchOf Part
as_branch part branch = record { condition = part branch.condition; value = part branch.value }

abbrev pub as_identifier : (Expr → Part) → PartOf Expr → PartOf Part
as_identifier part identifier = record { name = identifier.name; place = identifier.place; subs = map (option_map part) identifier.subs }

abbrev pub as_reference : (Expr → Part) → ReferenceOf Expr → ReferenceOf Part
as_reference part reference = record { top = reference.top; parts = map (as_identifier part) reference.parts }

abbrev pub as_callee : (Expr → Part) → CalleeOf Expr → CalleeOf Part
as_callee part (Named reference) = Named (as_reference part reference)
as_callee part Der = Der
as_callee part Initial = Initial
as_callee part Pure = Pure

abbrev pub made_argument : Table → Ask → Scope → Arg → Option Part
made_argument table ask scope =
    para-Arg (Option Part) Former (Option (List Part)) (Context → Making ArrayExpr) argument_of (made_node table ask scope) arguments_of made_expr

-- two operands
abbrev pub made_two : Context → Part → Part → Making (ArrayExpr × ArrayExpr)
made_two context a b = make_then (make_part context a) (λ x. make_then (make_part context b) (λ y. make (x, y)))

-- the terms of a sum and the factors of a product
abbrev pub made_term : Context → TermOf Part → Making (Bool × Bool × ArrayExpr)
made_term context term = make_then (make_part context term.value) (λ e. make (term.minus, term.dotted, e))

abbrev pub made_factor : Context → FactorOf Part → Making (Bool × Bool × ArrayExpr)
made_factor context factor = make_then (make_part context factor.value) (λ e. make (factor.divide, factor.dotted, e))
