-- What was written so far, and how deep each function goes.
use Rattle.std.proofs.Common.{◌≡◌, [], ◌∷◌, ◌++◌, codes, ◌+◌, ◌*◌, max, take, eqb}
use Rattle.mo_syntax.specs.declared.expr.Expr.{size-Expr}
use Rattle.mo_syntax.specs.declared.expr.Args.{size-Args}
use Rattle.mo_pieces.specs.Pieces.{a_mark}
use Rattle.mo_pieces.specs.Gathered.{gathered}
use Rattle.mo_pieces.specs.ShownExpressions.{a_semicolon, branch_pieces, chain_pieces, commas, factors_pieces, in_row, joined_by, named_pieces, part_pieces, pieces_of_arg, pieces_of_indices, pieces_of_outputs, row_pieces, shown_expr, subscript_pieces, terms_pieces}
use Rattle.mo_unparse.proofs.expression.+expression.Given as goal

abbrev pub invariant-write_branches-loop-branch : goal.invariant-write_branches-loop-branch
invariant-write_branches-loop-branch l =
    (gathered l.out ≡ gathered l.initial.out ++ in_row (branch_pieces shown_expr) (take l.branch-index l.branches))
    × (l.first ≡ eqb l.branch-index 0)

abbrev pub invariant-write_chain-loop-e : goal.invariant-write_chain-loop-e
invariant-write_chain-loop-e l =
    (gathered l.out ≡ gathered l.initial.out ++ chain_pieces l.word l.wanted shown_expr (take l.e-index l.operands))
    × (l.first ≡ eqb l.e-index 0)

abbrev pub invariant-write_factors-loop-factor : goal.invariant-write_factors-loop-factor
invariant-write_factors-loop-factor l =
    (gathered l.out ≡ gathered l.initial.out ++ factors_pieces shown_expr (take l.factor-index l.factors))
    × (l.first ≡ eqb l.factor-index 0)

abbrev pub invariant-write_indices-loop-index : goal.invariant-write_indices-loop-index
invariant-write_indices-loop-index l =
    (gathered l.out ≡ gathered l.initial.out ++ pieces_of_indices (take l.index-index l.indices))
    × (l.first ≡ eqb l.index-index 0)

abbrev pub invariant-write_named-loop-arg : goal.invariant-write_named-loop-arg
invariant-write_named-loop-arg l =
    (gathered l.out ≡ gathered l.initial.out ++ commas (named_pieces pieces_of_arg) (take l.arg-index l.named))
    × (l.first ≡ eqb l.arg-index 0)

abbrev pub invariant-write_outputs-loop-output : goal.invariant-write_outputs-loop-output
invariant-write_outputs-loop-output l =
    (gathered l.out ≡ gathered l.initial.out ++ pieces_of_outputs (take l.output-index l.outputs))
    × (l.first ≡ eqb l.output-index 0)

abbrev pub invariant-write_parts-loop-part : goal.invariant-write_parts-loop-part
invariant-write_parts-loop-part l =
    (gathered l.out ≡ gathered l.initial.out ++ joined_by (a_mark (codes ".") ∷ []) (part_pieces shown_expr) (take l.part-index l.parts))
    × (l.first ≡ eqb l.part-index 0)

abbrev pub invariant-write_plain-loop-arg : goal.invariant-write_plain-loop-arg
invariant-write_plain-loop-arg l =
    (gathered l.out ≡ gathered l.initial.out ++ commas pieces_of_arg (take l.arg-index l.plain))
    × (l.first ≡ eqb l.arg-index 0)

abbrev pub invariant-write_row-loop-e : goal.invariant-write_row-loop-e
invariant-write_row-loop-e l =
    (gathered l.out ≡ gathered l.initial.out ++ row_pieces shown_expr (take l.e-index l.row))
    × (l.first ≡ eqb l.e-index 0)

abbrev pub invariant-write_rows-loop-row : goal.invariant-write_rows-loop-row
invariant-write_rows-loop-row l =
    (gathered l.out ≡ gathered l.initial.out ++ joined_by a_semicolon (row_pieces shown_expr) (take l.row-index l.rows))
    × (l.first ≡ eqb l.row-index 0)

abbrev pub invariant-write_subscript_list-loop-subscript : goal.invariant-write_subscript_list-loop-subscript
invariant-write_subscript_list-loop-subscript l =
    (gathered l.out ≡ gathered l.initial.out ++ commas (subscript_pieces shown_expr) (take l.subscript-index l.subscripts))
    × (l.first ≡ eqb l.subscript-index 0)

abbrev pub invariant-write_terms-loop-term : goal.invariant-write_terms-loop-term
invariant-write_terms-loop-term l =
    (gathered l.out ≡ gathered l.initial.out ++ terms_pieces shown_expr (take l.term-index l.terms))
    × (l.first ≡ eqb l.term-index 0)

abbrev pub decreases-write_expr : goal.decreases-write_expr
decreases-write_expr l = 12 * goal.size-write_expr l + 1

abbrev pub decreases-write_node : goal.decreases-write_node
decreases-write_node l = 12 * goal.size-write_node l + 1

abbrev pub decreases-write_args : goal.decreases-write_args
decreases-write_args l = 12 * goal.size-write_args l + 1

abbrev pub decreases-write_arg : goal.decreases-write_arg
decreases-write_arg l = 12 * goal.size-write_arg l + 1

abbrev pub decreases-write_operand : goal.decreases-write_operand
decreases-write_operand l = 12 * goal.size-write_operand l + 2

abbrev pub decreases-write_output : goal.decreases-write_output
decreases-write_output l = 12 * goal.size-write_output l + 2

abbrev pub decreases-write_subscript : goal.decreases-write_subscript
decreases-write_subscript l = 12 * goal.size-write_subscript l + 2

abbrev pub decreases-write_index_range : goal.decreases-write_index_range
decreases-write_index_range l = 12 * goal.size-write_index_range l + 2

abbrev pub decreases-write_step : goal.decreases-write_step
decreases-write_step l = 12 * goal.size-write_step l + 3

abbrev pub decreases-write_chain : goal.decreases-write_chain
decreases-write_chain l = 12 * goal.size-write_chain l + 3

abbrev pub decreases-write_terms : goal.decreases-write_terms
decreases-write_terms l = 12 * goal.size-write_terms l + 3

abbrev pub decreases-write_factors : goal.decreases-write_factors
decreases-write_factors l = 12 * goal.size-write_factors l + 3

abbrev pub decreases-write_row : goal.decreases-write_row
decreases-write_row l = 12 * goal.size-write_row l + 3

abbrev pub decreases-write_branches : goal.decreases-write_branches
decreases-write_branches l = 12 * goal.size-write_branches l + 3

abbrev pub decreases-write_outputs : goal.decreases-write_outputs
decreases-write_outputs l = 12 * goal.size-write_outputs l + 3

abbrev pub decreases-write_subscript_list : goal.decreases-write_subscript_list
decreases-write_subscript_list l = 12 * goal.size-write_subscript_list l + 3

abbrev pub decreases-write_subscripts : goal.decreases-write_subscripts
decreases-write_subscripts l = 12 * goal.size-write_subscripts l + 4

abbrev pub decreases-write_parts : goal.decreases-write_parts
decreases-write_parts l = 12 * goal.size-write_parts l + 5

abbrev pub decreases-write_reference : goal.decreases-write_reference
decreases-write_reference l = 12 * goal.size-write_reference l + 6

abbrev pub decreases-write_callee : goal.decreases-write_callee
decreases-write_callee l = 12 * goal.size-write_callee l + 7

abbrev pub decreases-write_indices : goal.decreases-write_indices
decreases-write_indices l = 12 * goal.size-write_indices l + 3

abbrev pub decreases-write_iterators : goal.decreases-write_iterators
decreases-write_iterators l = 12 * goal.size-write_iterators l + 4

abbrev pub decreases-write_rows : goal.decreases-write_rows
decreases-write_rows l = 12 * goal.size-write_rows l + 4

abbrev pub decreases-write_plain : goal.decreases-write_plain
decreases-write_plain l = 12 * goal.size-write_plain l + 3

abbrev pub decreases-write_named : goal.decreases-write_named
decreases-write_named l = 12 * goal.size-write_named l + 3

abbrev pub decreases-write_tuple : goal.decreases-write_tuple
decreases-write_tuple l = 12 * goal.size-write_tuple l + 4

abbrev pub decreases-write_array : goal.decreases-write_array
decreases-write_array l = 12 * goal.size-write_array l + 4

abbrev pub decreases-write_matrix : goal.decreases-write_matrix
decreases-write_matrix l = 12 * goal.size-write_matrix l + 5

abbrev pub decreases-write_not : goal.decreases-write_not
decreases-write_not l = 12 * goal.size-write_not l + 3

abbrev pub decreases-write_power : goal.decreases-write_power
decreases-write_power l = 12 * (max (size-Expr l.base.now) (size-Expr l.exponent.now)) + 3

abbrev pub decreases-write_relation : goal.decreases-write_relation
decreases-write_relation l = 12 * (max (size-Expr l.left.now) (size-Expr l.right.now)) + 3

abbrev pub decreases-write_if : goal.decreases-write_if
decreases-write_if l = 12 * (max (goal.size-write_if l) (size-Expr l.last.now)) + 4

abbrev pub decreases-write_call : goal.decreases-write_call
decreases-write_call l = 12 * (max (goal.size-write_call l) (size-Args l.args.now)) + 8
