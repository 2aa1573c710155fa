-- What the count of a node is, form by form, where the fold passes through options, pairs and parts.
use Rattle.std.proofs.Common.{◌≡◌, ℕ, ◌+◌, List, [], ◌∷◌, sum_by, map, Option, Some, None, refl, ap, sym, ◌∙◌}
use Rattle.std.proofs.lemmas.List.Sums.{sum_by-cons}
use Rattle.mo_syntax.specs.declared.text.Text.{Text}
use Rattle.mo_syntax.specs.declared.expr.Arg.TheShapes as shapes
use Rattle.mo_syntax.specs.declared.expr.BranchOf.{BranchOf}
use Rattle.mo_syntax.specs.declared.expr.IndexOf.{IndexOf}
use Rattle.mo_syntax.specs.declared.expr.PartOf.{PartOf}
use Rattle.mo_syntax.specs.declared.expr.ReferenceOf.{ReferenceOf}
use Rattle.mo_syntax.specs.declared.expr.CalleeOf.{CalleeOf}
use Rattle.mo_syntax.specs.declared.expr.CalleeOf.TheVariants.{Named, Der, Initial, Pure}
use Rattle.mo_syntax.specs.declared.expr.Expr.{Expr}
use Rattle.mo_syntax.specs.declared.expr.Args.{Args, out-Args, fold_out-Args}
use Rattle.mo_syntax.specs.declared.expr.Arg.{Arg, fold_out-Arg}
use Rattle.mo_syntax.specs.declared.expr.Arg.TheVariants.{Partial, outs-Partial}
use Rattle.mo_syntax.specs.declared.expr.Node.{fold_out-Node}
use Rattle.mo_syntax.specs.declared.expr.Node.TheVariants.{If, Call, Tuple, ArrayFor, Matrix, outs-Tuple, outs-Matrix, outs-If, outs-ArrayFor, outs-Call}
use Rattle.mo_syntax.specs.Count.{count_of, count_in_node, count_in_argument, count_in_arguments, count_in_option, count_in_part, count_in_reference, count_in_callee, count_in_index, in_option, in_part, in_index, in_argument, in_node, in_arguments, in_expr}

-- a sum over mapped elements is the sum of what they give
pub sum_by_map : {A B : Type 0} (h : A → B) (f : B → ℕ) (g : A → ℕ) → ((a : A) → f (h a) ≡ g a) → (xs : List A) → sum_by f (map h xs) ≡ sum_by g xs
sum_by_map h f g same [] = refl
sum_by_map h f g same (x ∷ xs) = sum_by-cons f (h x) (map h xs) ∙ (ap (λ n. n + sum_by f (map h xs)) (same x) ∙ (ap (λ n. g x + n) (sum_by_map h f g same xs) ∙ sym (sum_by-cons g x xs)))

option_same : (e : Option Expr) → in_option (shapes.former-Node-Tuple-0-at-1.map Expr ℕ count_of e) ≡ count_in_option e
option_same None = refl
option_same (Some e) = refl

pub at_Tuple : (es : List (Option Expr)) → count_in_node (Tuple es) ≡ sum_by count_in_option es
at_Tuple es = rw (fold_out-Node ℕ ℕ ℕ ℕ in_argument in_node in_arguments in_expr (Tuple es), outs-Tuple es) (sum_by_map _ _ _ option_same es)

pub at_Matrix : (es : List (List Expr)) → count_in_node (Matrix es) ≡ sum_by (λ row. sum_by count_of row) es
at_Matrix es = rw (fold_out-Node ℕ ℕ ℕ ℕ in_argument in_node in_arguments in_expr (Matrix es), outs-Matrix es) (sum_by_map _ _ _ (λ row. sum_by_map _ _ _ (λ e. refl) row) es)

pub at_If : (bs : List (BranchOf Expr)) (e : Expr) → count_in_node (If bs e) ≡ sum_by (λ b. count_of b.condition + count_of b.value) bs + count_of e
at_If bs e = rw (fold_out-Node ℕ ℕ ℕ ℕ in_argument in_node in_arguments in_expr (If bs e), outs-If bs e) (ap (λ n. n + count_of e) (sum_by_map _ _ _ (λ b. refl) bs))

index_at : (name : Text) (range : Option Expr) → in_index (shapes.former-Node-ArrayFor-1-at-3.map Expr ℕ count_of (record { name = name; range = range })) ≡ count_in_option range
index_at name None = refl
index_at name (Some e) = refl

index_same : (i : IndexOf Expr) → in_index (shapes.former-Node-ArrayFor-1-at-3.map Expr ℕ count_of i) ≡ count_in_index i
index_same i = index_at i.name i.range

pub at_ArrayFor : (e : Expr) (is : List (IndexOf Expr)) → count_in_node (ArrayFor e is) ≡ count_of e + sum_by count_in_index is
at_ArrayFor e is = rw (fold_out-Node ℕ ℕ ℕ ℕ in_argument in_node in_arguments in_expr (ArrayFor e is), outs-ArrayFor e is) (ap (λ n. count_of e + n) (sum_by_map _ _ _ index_same is))

part_same : (p : PartOf Expr) → in_part (shapes.former-Node-Call-0-at-6.map Expr ℕ count_of p) ≡ count_in_part p
part_same p = sum_by_map _ _ _ option_same p.subs

pub at_Call : (callee : CalleeOf Expr) (arguments : Args) → count_in_node (Call callee arguments) ≡ count_in_callee callee + count_in_arguments arguments
at_Call (Named reference) arguments = rw (fold_out-Node ℕ ℕ ℕ ℕ in_argument in_node in_arguments in_expr (Call (Named reference) arguments), outs-Call (Named reference) arguments) (ap (λ n. n + count_in_arguments arguments) (sum_by_map _ _ _ part_same reference.parts))
at_Call Der arguments = rw (fold_out-Node ℕ ℕ ℕ ℕ in_argument in_node in_arguments in_expr (Call Der arguments), outs-Call Der arguments) refl
at_Call Initial arguments = rw (fold_out-Node ℕ ℕ ℕ ℕ in_argument in_node in_arguments in_expr (Call Initial arguments), outs-Call Initial arguments) refl
at_Call Pure arguments = rw (fold_out-Node ℕ ℕ ℕ ℕ in_argument in_node in_arguments in_expr (Call Pure arguments), outs-Call Pure arguments) refl

two : (a b c d : ℕ) → a ≡ b → c ≡ d → a + c ≡ b + d
two a b c d p q = cc

pub at_Partial : (function : ReferenceOf Expr) (named : List (Text × Arg)) → count_in_argument (Partial function named) ≡ count_in_reference function + sum_by (λ n. count_in_argument n.1) named
at_Partial function named = rw (fold_out-Arg ℕ ℕ ℕ ℕ in_argument in_node in_arguments in_expr (Partial function named), outs-Partial function named) (two _ _ _ _ (sum_by_map _ _ _ part_same function.parts) (sum_by_map _ _ _ (λ n. refl) named))

pub at_Args : (arguments : Args) → count_in_arguments arguments ≡ sum_by count_in_argument (out-Args arguments).plain + sum_by (λ n. count_in_argument n.1) (out-Args arguments).named + sum_by count_in_index (out-Args arguments).iters
at_Args arguments = rw (fold_out-Args ℕ ℕ ℕ ℕ in_argument in_node in_arguments in_expr arguments) (two _ _ _ _ (two _ _ _ _ (sum_by_map _ _ _ (λ n. refl) (out-Args arguments).plain) (sum_by_map _ _ _ (λ n. refl) (out-Args arguments).named)) (sum_by_map _ _ _ index_same (out-Args arguments).iters))

pub ruleset levels = (at_Tuple, at_Matrix, at_If, at_ArrayFor, at_Call, at_Partial, at_Args)
