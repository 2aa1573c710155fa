use Rattle.std.proofs.Common.{◌≡◌, ◌+◌, ◌*◌, max, drop, Ok}
use Rattle.mo_syntax.specs.declared.meaning.Kind.TheVariants.{Whole, Truth}
use Rattle.mo_flat.specs.declared.array.ArrayExpr.{size-ArrayExpr}
use Rattle.mo_typing.specs.Kinds.{part_of, with_number, with_truth, joined, settled, branch_kind}
use Rattle.mo_typing.specs.declared.agree.Shared.TheVariants.{Unseen}
use Rattle.mo_typing.proofs.Gathering.{gathered}
use Rattle.mo_typing.proofs.Nodes.{kind_in}
use Rattle.mo_typing.proofs.kinds.+kinds.Given as goal

abbrev pub invariant-have_kinds-loop-part : goal.invariant-have_kinds-loop-part
invariant-have_kinds-loop-part l = gathered part_of kind_in (λ s kind. s) (λ s. Ok (tt {0})) (tt {0}) (drop l.part-index l.parts) ≡ gathered part_of kind_in (λ s kind. s) (λ s. Ok (tt {0})) (tt {0}) l.parts

abbrev pub invariant-of_array-loop-part : goal.invariant-of_array-loop-part
invariant-of_array-loop-part l = gathered part_of kind_in joined (settled l.place) l.all (drop l.part-index l.parts) ≡ gathered part_of kind_in joined (settled l.place) Unseen l.parts

abbrev pub invariant-of_branches-loop-branch : goal.invariant-of_branches-loop-branch
invariant-of_branches-loop-branch l = gathered (λ b. (part_of b.0, part_of b.1)) branch_kind joined (λ s. Ok s) l.all (drop l.branch-index l.branches) ≡ gathered (λ b. (part_of b.0, part_of b.1)) branch_kind joined (λ s. Ok s) Unseen l.branches

abbrev pub invariant-of_logical-loop-part : goal.invariant-of_logical-loop-part
invariant-of_logical-loop-part l = gathered part_of kind_in (with_truth l.place) (λ a. a) l.all (drop l.part-index l.parts) ≡ gathered part_of kind_in (with_truth l.place) (λ a. a) (Ok Truth) l.parts

abbrev pub invariant-of_terms-loop-term : goal.invariant-of_terms-loop-term
invariant-of_terms-loop-term l = gathered (λ t. part_of t.2) kind_in (with_number l.place) (λ a. a) l.all (drop l.term-index l.terms) ≡ gathered (λ t. part_of t.2) kind_in (with_number l.place) (λ a. a) (Ok Whole) l.terms

abbrev pub decreases-kind_of : goal.decreases-kind_of
decreases-kind_of l = 4 * goal.size-kind_of l + 0

abbrev pub decreases-kind_of_node : goal.decreases-kind_of_node
decreases-kind_of_node l = 4 * goal.size-kind_of_node l + 0

abbrev pub decreases-of_terms : goal.decreases-of_terms
decreases-of_terms l = 4 * goal.size-of_terms l + 1

abbrev pub decreases-of_product : goal.decreases-of_product
decreases-of_product l = 4 * goal.size-of_product l + 2

abbrev pub decreases-of_power : goal.decreases-of_power
decreases-of_power l = 4 * max (size-ArrayExpr l.base.now) (size-ArrayExpr l.exponent.now) + 1

abbrev pub decreases-of_relation : goal.decreases-of_relation
decreases-of_relation l = 4 * max (size-ArrayExpr l.left.now) (size-ArrayExpr l.right.now) + 1

abbrev pub decreases-of_negation : goal.decreases-of_negation
decreases-of_negation l = 4 * goal.size-of_negation l + 1

abbrev pub decreases-of_logical : goal.decreases-of_logical
decreases-of_logical l = 4 * goal.size-of_logical l + 1

abbrev pub decreases-of_condition : goal.decreases-of_condition
decreases-of_condition l = 4 * goal.size-of_condition l + 1

abbrev pub decreases-of_branches : goal.decreases-of_branches
decreases-of_branches l = 4 * goal.size-of_branches l + 2

abbrev pub decreases-of_choice : goal.decreases-of_choice
decreases-of_choice l = 4 * max (goal.size-of_choice l) (size-ArrayExpr l.other.now) + 3

abbrev pub decreases-of_array : goal.decreases-of_array
decreases-of_array l = 4 * goal.size-of_array l + 1

abbrev pub decreases-have_kinds : goal.decreases-have_kinds
decreases-have_kinds l = 4 * goal.size-have_kinds l + 1

abbrev pub decreases-of_call : goal.decreases-of_call
decreases-of_call l = 4 * goal.size-of_call l + 2

abbrev pub decreases-of_derivative : goal.decreases-of_derivative
decreases-of_derivative l = 4 * goal.size-of_derivative l + 1

abbrev pub decreases-of_size : goal.decreases-of_size
decreases-of_size l = 4 * goal.size-of_size l + 1

abbrev pub decreases-of_filling : goal.decreases-of_filling
decreases-of_filling l = 4 * goal.size-of_filling l + 1

abbrev pub decreases-of_sized : goal.decreases-of_sized
decreases-of_sized l = 4 * goal.size-of_sized l + 2
