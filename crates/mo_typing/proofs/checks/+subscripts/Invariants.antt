use Rattle.std.proofs.Common.{◌≡◌, ◌+◌, ◌*◌, max, drop}
use Rattle.mo_flat.specs.declared.array.ArrayExpr.{size-ArrayExpr}
use Rattle.mo_typing.proofs.Gathering.{gathered}
use Rattle.mo_typing.specs.Subscripts.{subscripts_of, both, fine}
use Rattle.mo_typing.proofs.checks.+subscripts.Given as goal

abbrev pub invariant-in_terms-loop-term : goal.invariant-in_terms-loop-term
invariant-in_terms-loop-term l = gathered (λ t. subscripts_of t.2) (λ c. c) (λ s u. s) (λ s. fine) (tt {0}) (drop l.term-index l.terms) ≡ gathered (λ t. subscripts_of t.2) (λ c. c) (λ s u. s) (λ s. fine) (tt {0}) l.terms

abbrev pub invariant-in_parts-loop-part : goal.invariant-in_parts-loop-part
invariant-in_parts-loop-part l = gathered subscripts_of (λ c. c) (λ s u. s) (λ s. fine) (tt {0}) (drop l.part-index l.parts) ≡ gathered subscripts_of (λ c. c) (λ s u. s) (λ s. fine) (tt {0}) l.parts

abbrev pub invariant-in_branches-loop-branch : goal.invariant-in_branches-loop-branch
invariant-in_branches-loop-branch l = gathered (λ b. both (subscripts_of b.0) (subscripts_of b.1)) (λ c. c) (λ s u. s) (λ s. fine) (tt {0}) (drop l.branch-index l.branches) ≡ gathered (λ b. both (subscripts_of b.0) (subscripts_of b.1)) (λ c. c) (λ s u. s) (λ s. fine) (tt {0}) l.branches

abbrev pub decreases-in_expression : goal.decreases-in_expression
decreases-in_expression l = 4 * goal.size-in_expression l + 0

abbrev pub decreases-subscripts_of_node : goal.decreases-subscripts_of_node
decreases-subscripts_of_node l = 4 * goal.size-subscripts_of_node l + 0

abbrev pub decreases-in_terms : goal.decreases-in_terms
decreases-in_terms l = 4 * goal.size-in_terms l + 1

abbrev pub decreases-in_parts : goal.decreases-in_parts
decreases-in_parts l = 4 * goal.size-in_parts l + 1

abbrev pub decreases-in_branches : goal.decreases-in_branches
decreases-in_branches l = 4 * goal.size-in_branches l + 2

abbrev pub decreases-in_size : goal.decreases-in_size
decreases-in_size l = 4 * goal.size-in_size l + 1

abbrev pub decreases-in_option : goal.decreases-in_option
decreases-in_option l = 4 * goal.size-in_option l + 1

abbrev pub decreases-in_both : goal.decreases-in_both
decreases-in_both l = 4 * max (size-ArrayExpr l.left.now) (size-ArrayExpr l.right.now) + 1

abbrev pub decreases-in_choice : goal.decreases-in_choice
decreases-in_choice l = 4 * max (goal.size-in_choice l) (size-ArrayExpr l.other.now) + 3
