-- Asserts (Modelica Language Specification 3.5, section 8.3.7). They are kept as they are, and take part in nothing else.
use Rattle.std.specs.Prelude.{Bool, false, ◌&&◌, not, List, [], ◌∷◌, Option, Some, None, Ok, if◌then◌else◌, codes}
use Rattle.std.specs.Str.{bytes_eq}
use Rattle.mo_syntax.specs.Outcome.{Outcome, and_then, breaks}
use Rattle.mo_syntax.specs.declared.expr.Arg.{Arg, Arg-F, out-Arg}
use Rattle.mo_syntax.specs.declared.expr.Args.{Args, out-Args}
use Rattle.mo_syntax.specs.declared.expr.Expr.{Expr}
use Rattle.mo_syntax.specs.declared.expr.Node.{Node}
use Rattle.mo_syntax.specs.declared.expr.PartOf.{PartOf}
use Rattle.mo_syntax.specs.declared.expr.ReferenceOf.{ReferenceOf}
use Rattle.mo_syntax.specs.declared.meaning.Kind.{Kind}
use Rattle.mo_syntax.specs.declared.meaning.Kind.TheVariants.{Truth as truth_kind, Str, Enumeration}
use Rattle.mo_syntax.specs.declared.place.Place.{Place}
use Rattle.mo_flat.specs.declared.expr.FlatExpr.{FlatExpr}
use Rattle.mo_flat.specs.declared.model.FlatAssert.{FlatAssert}
use Rattle.mo_scope.specs.Frames.{Scope}
use Rattle.mo_scope.specs.Sizes.{is_nothing}
use Rattle.mo_syntax.specs.declared.rules.TheConstants.{WRONG_TYPE, OUTSIDE_PROFILE}
use Rattle.mo_typing.specs.Kinds.{accepts}
use Rattle.mo_values.specs.Asked.{only_scalar}
use Rattle.mo_eval.specs.Components.{place_of}
use Rattle.mo_eval.specs.Resolving.{is_empty}
use Rattle.mo_eval.specs.Values.{most_references}
use Rattle.mo_equations.specs.Leaves.{Tree}
use Rattle.mo_equations.specs.Replacing.{flat_at}
use Rattle.mo_equations.specs.Variables.{replacing}

-- the one call that is an equation: `assert`, by its name alone
abbrev pub is_assert : ReferenceOf Expr → Bool
is_assert reference = not reference.top && is_named reference.parts
  where
    is_named : List (PartOf Expr) → Bool
    is_named (part ∷ []) = bytes_eq part.name (codes "assert") && is_nothing part.subs
    is_named parts = false

abbrev pub value_of_argument : Arg → Option Expr
value_of_argument argument = value_in (out-Arg argument)
  where
    value_in : Arg-F Arg Node Args Expr → Option Expr
    value_in (Arg-F.Value e) = Some e
    value_in (Arg-F.Partial function named) = None

abbrev pub with_value : Option Expr → Option (List Expr) → Option (List Expr)
with_value (Some e) (Some es) = Some (e ∷ es)
with_value e es = None

abbrev pub values_of : List Arg → Option (List Expr)
values_of [] = Some []
values_of (argument ∷ arguments) = with_value (value_of_argument argument) (values_of arguments)

-- the arguments of a call, where none has a name, is a function, or is iterated
abbrev pub plain_values : Args → Option (List Expr)
plain_values arguments =
    if is_empty (out-Args arguments).named && is_empty (out-Args arguments).iters then values_of (out-Args arguments).plain else None

-- an argument of an assert: a scalar of a kind
abbrev pub flat_argument : Tree → Scope → Kind → Expr → Outcome FlatExpr
flat_argument tree scope kind e =
    flat_at tree.classes most_references (replacing tree) (λ got. accepts kind got (place_of e)) (only_scalar WRONG_TYPE (place_of e)) scope e []

-- the predefined type `AssertionLevel`
abbrev pub assertion_level : Kind
assertion_level = Enumeration (record { 0 = 5 })

abbrev pub assert_with : Tree → Scope → Expr → Expr → Outcome (Option FlatExpr) → Outcome FlatAssert
assert_with tree scope condition message level =
    and_then (flat_argument tree scope truth_kind condition) (λ condition.
    and_then (flat_argument tree scope Str message) (λ message.
    and_then level (λ level. Ok (record { condition = condition; message = message; level = level }))))

-- `assert(condition, message)` and `assert(condition, message, level)`; with other arguments it breaks rule 34
abbrev pub assert_of : Tree → Scope → Place → Option (List Expr) → Outcome FlatAssert
assert_of tree scope place (Some (condition ∷ message ∷ [])) = assert_with tree scope condition message (Ok None)
assert_of tree scope place (Some (condition ∷ message ∷ level ∷ [])) =
    assert_with tree scope condition message (and_then (flat_argument tree scope assertion_level level) (λ e. Ok (Some e)))
assert_of tree scope place arguments = breaks OUTSIDE_PROFILE place
