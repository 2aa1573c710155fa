use Rattle.std.proofs.Common.{◌≡◌, ◌++◌, map, string_bytes, take, eqb, ◌+◌, ◌*◌, max}
use Rattle.mo_flat.specs.declared.expr.FlatExpr.{size-FlatExpr}
use Rattle.mo_flat.specs.Text.{branches_text, chain_text, factors_text, printed, terms_text}
use Rattle.mo_flat.proofs.expr_text.+text.Given as goal

abbrev pub invariant-write_branches-loop-branch : goal.invariant-write_branches-loop-branch
invariant-write_branches-loop-branch l =
    (string_bytes l.out ≡ string_bytes l.initial.out ++ branches_text (map (λ branch. (printed l.vars branch.0, printed l.vars branch.1)) (take l.branch-index l.branches)))
    × (l.first ≡ eqb l.branch-index 0)

abbrev pub invariant-write_chain-loop-part : goal.invariant-write_chain-loop-part
invariant-write_chain-loop-part l =
    (string_bytes l.out ≡ string_bytes l.initial.out ++ chain_text l.mark l.wanted (map (printed l.vars) (take l.part-index l.parts)))
    × (l.first ≡ eqb l.part-index 0)

abbrev pub invariant-write_factors-loop-factor : goal.invariant-write_factors-loop-factor
invariant-write_factors-loop-factor l =
    (string_bytes l.out ≡ string_bytes l.initial.out ++ factors_text (map (λ factor. (factor.0, printed l.vars factor.1)) (take l.factor-index l.factors)))
    × (l.first ≡ eqb l.factor-index 0)

abbrev pub invariant-write_terms-loop-term : goal.invariant-write_terms-loop-term
invariant-write_terms-loop-term l =
    (string_bytes l.out ≡ string_bytes l.initial.out ++ terms_text (map (λ term. (term.0, printed l.vars term.1)) (take l.term-index l.terms)))
    × (l.first ≡ eqb l.term-index 0)

abbrev pub decreases-write_expr : goal.decreases-write_expr
decreases-write_expr l = 4 * goal.size-write_expr l + 0

abbrev pub decreases-write_operand : goal.decreases-write_operand
decreases-write_operand l = 4 * goal.size-write_operand l + 1

abbrev pub decreases-write_terms : goal.decreases-write_terms
decreases-write_terms l = 4 * goal.size-write_terms l + 2

abbrev pub decreases-write_factors : goal.decreases-write_factors
decreases-write_factors l = 4 * goal.size-write_factors l + 2

abbrev pub decreases-write_chain : goal.decreases-write_chain
decreases-write_chain l = 4 * goal.size-write_chain l + 2

abbrev pub decreases-write_branches : goal.decreases-write_branches
decreases-write_branches l = 4 * goal.size-write_branches l + 2

abbrev pub decreases-write_not : goal.decreases-write_not
decreases-write_not l = 4 * goal.size-write_not l + 2

abbrev pub decreases-write_call : goal.decreases-write_call
decreases-write_call l = 4 * goal.size-write_call l + 3

abbrev pub decreases-write_pair : goal.decreases-write_pair
decreases-write_pair l = 4 * max (size-FlatExpr l.left.now) (size-FlatExpr l.right.now) + 2

abbrev pub decreases-write_if : goal.decreases-write_if
decreases-write_if l = 4 * max (goal.size-write_if l) (size-FlatExpr l.other.now) + 3
