-- Lists that have the same elements are the same, and so are arguments.
use Rattle.std.proofs.Common.{◌≡◌, ℕ, ◌+◌, ◌<◌, List, length, take, get_or, ap, sym, subst, ◌∙◌}
use Rattle.std.proofs.lemmas.List.{take_more_same}
use Rattle.mo_syntax.specs.declared.expr.Arg.{Arg}
use Rattle.mo_syntax.specs.declared.expr.Args.{Args, out-Args, roll-Args, roll-out-Args}
use Rattle.mo_syntax.specs.declared.expr.Expr.{Expr}
use Rattle.mo_syntax.specs.declared.expr.IndexOf.{IndexOf}

-- one element more
pub one_more : {A : Type 0} (a b : List A) (k : ℕ) (x y : A) → k < length a → k < length b → take k a ≡ take k b → x ≡ get_or a k x → y ≡ get_or b k y → x ≡ y → take (k + 1) a ≡ take (k + 1) b
one_more {A} a b k x y in_a in_b before is_x is_y same = take_more_same a b k x in_a in_b before (sym is_x ∙ subst (λ (z : A). z ≡ get_or b k z) (sym same) is_y)

pub same_arguments : (a b : Args) → (out-Args a).plain ≡ (out-Args b).plain → (out-Args a).named ≡ (out-Args b).named → (out-Args a).iters ≡ (out-Args b).iters → a ≡ b
same_arguments a b plain named iters =
    sym (roll-out-Args a)
    ∙ (ap (λ (x : List Arg). roll-Args (record { plain = x; named = (out-Args a).named; iters = (out-Args a).iters })) plain
    ∙ (ap (λ (x : List (List ℕ × Arg)). roll-Args (record { plain = (out-Args b).plain; named = x; iters = (out-Args a).iters })) named
    ∙ (ap (λ (x : List (IndexOf Expr)). roll-Args (record { plain = (out-Args b).plain; named = (out-Args b).named; iters = x })) iters
    ∙ roll-out-Args b)))
