-- The rows of those before.
use Rattle.std.proofs.Common.{◌≡◌, ◌+◌, ◌*◌, map, take, eqb, max}
use Rattle.mo_flat.specs.declared.expr.FlatExpr.{size-FlatExpr}
use Rattle.mo_flat.specs.Text.{branches_text, chain_text, factors_text, printed, terms_text}
use Rattle.mo_text_size.specs.Bytes.{bytes}
use Rattle.mo_text_size.proofs.expr.+bytes.Given as goal

abbrev pub invariant-of_terms-loop-term : goal.invariant-of_terms-loop-term
invariant-of_terms-loop-term l =
    (l.all ≡ bytes (terms_text (map (λ term. (term.0, printed l.vars term.1)) (take l.term-index l.terms)))) × (l.first ≡ eqb l.term-index 0)

abbrev pub invariant-of_factors-loop-factor : goal.invariant-of_factors-loop-factor
invariant-of_factors-loop-factor l =
    (l.all ≡ bytes (factors_text (map (λ factor. (factor.0, printed l.vars factor.1)) (take l.factor-index l.factors)))) × (l.first ≡ eqb l.factor-index 0)

abbrev pub invariant-of_chain-loop-part : goal.invariant-of_chain-loop-part
invariant-of_chain-loop-part l =
    (l.all ≡ bytes (chain_text l.mark l.wanted (map (printed l.vars) (take l.part-index l.parts)))) × (l.first ≡ eqb l.part-index 0)

abbrev pub invariant-of_branches-loop-branch : goal.invariant-of_branches-loop-branch
invariant-of_branches-loop-branch l =
    (l.all ≡ bytes (branches_text (map (λ branch. (printed l.vars branch.0, printed l.vars branch.1)) (take l.branch-index l.branches)))) × (l.first ≡ eqb l.branch-index 0)

abbrev pub decreases-of_expr : goal.decreases-of_expr
decreases-of_expr l = 4 * goal.size-of_expr l + 0

abbrev pub decreases-of_operand : goal.decreases-of_operand
decreases-of_operand l = 4 * goal.size-of_operand l + 1

abbrev pub decreases-of_terms : goal.decreases-of_terms
decreases-of_terms l = 4 * goal.size-of_terms l + 2

abbrev pub decreases-of_factors : goal.decreases-of_factors
decreases-of_factors l = 4 * goal.size-of_factors l + 2

abbrev pub decreases-of_chain : goal.decreases-of_chain
decreases-of_chain l = 4 * goal.size-of_chain l + 2

abbrev pub decreases-of_branches : goal.decreases-of_branches
decreases-of_branches l = 4 * goal.size-of_branches l + 2

abbrev pub decreases-of_call : goal.decreases-of_call
decreases-of_call l = 4 * goal.size-of_call l + 3

abbrev pub decreases-of_pair : goal.decreases-of_pair
decreases-of_pair l = 4 * max (size-FlatExpr l.left.now) (size-FlatExpr l.right.now) + 2

abbrev pub decreases-of_choice : goal.decreases-of_choice
decreases-of_choice l = 4 * max (goal.size-of_choice l) (size-FlatExpr l.other.now) + 3
