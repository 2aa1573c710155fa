-- What each loop has read, and how deep each reader goes: what is left of the nesting, and then a reader leads only to lower ones.
use Rattle.std.proofs.Common.{◌≡◌, ◌≤◌, ◌+◌, ◌*◌, length}
use Rattle.mo_grammar.specs.Lexeme.{lexemes}
use Rattle.mo_grammar.specs.Codes.{comma, semicolon, dot, or_word, and_word}
use Rattle.mo_grammar.specs.Grammar.{many, symbol}
use Rattle.mo_grammar.specs.Forms.{behind, optional}
use Rattle.mo_grammar.specs.Symbols.{Expressions, Conjunctions, Negations, MoreArguments}
use Rattle.mo_grammar.specs.Expressions.{further_branch, further_term, further_factor, exprs, part, subscript, named, index}
use Rattle.mo_grammar.specs.Language.{limits_inside, reads, reads_form}
use Rattle.mo_grammar.proofs.Loops.{with_front}
use Rattle.mo_read_expr.proofs.ArgumentLoops.{with_plain}
use Rattle.mo_read_expr.proofs.+readers.Given as goal

abbrev pub invariant-expressions::further_branches-each : goal.invariant-expressions::further_branches-each
invariant-expressions::further_branches-each l = record {
  so_far : with_front l.all (reads_form (many further_branch) (limits_inside l.left) (lexemes l.rest)) ≡ reads_form (many further_branch) (limits_inside l.left) (lexemes l.tokens);
  no_longer : length l.rest ≤ length l.tokens;
}

abbrev pub decreases-expressions::further_branches-each : goal.decreases-expressions::further_branches-each
decreases-expressions::further_branches-each l = length l.rest

abbrev pub invariant-expressions::further_conjunctions-each : goal.invariant-expressions::further_conjunctions-each
invariant-expressions::further_conjunctions-each l = record {
  so_far : with_front l.all (reads_form (many (behind or_word (symbol Conjunctions))) (limits_inside l.left) (lexemes l.rest)) ≡ reads_form (many (behind or_word (symbol Conjunctions))) (limits_inside l.left) (lexemes l.tokens);
  no_longer : length l.rest ≤ length l.tokens;
}

abbrev pub decreases-expressions::further_conjunctions-each : goal.decreases-expressions::further_conjunctions-each
decreases-expressions::further_conjunctions-each l = length l.rest

abbrev pub invariant-expressions::further_negations-each : goal.invariant-expressions::further_negations-each
invariant-expressions::further_negations-each l = record {
  so_far : with_front l.all (reads_form (many (behind and_word (symbol Negations))) (limits_inside l.left) (lexemes l.rest)) ≡ reads_form (many (behind and_word (symbol Negations))) (limits_inside l.left) (lexemes l.tokens);
  no_longer : length l.rest ≤ length l.tokens;
}

abbrev pub decreases-expressions::further_negations-each : goal.decreases-expressions::further_negations-each
decreases-expressions::further_negations-each l = length l.rest

abbrev pub invariant-expressions::further_terms-each : goal.invariant-expressions::further_terms-each
invariant-expressions::further_terms-each l = record {
  so_far : with_front l.all (reads_form (many further_term) (limits_inside l.left) (lexemes l.rest)) ≡ reads_form (many further_term) (limits_inside l.left) (lexemes l.tokens);
  no_longer : length l.rest ≤ length l.tokens;
}

abbrev pub decreases-expressions::further_terms-each : goal.decreases-expressions::further_terms-each
decreases-expressions::further_terms-each l = length l.rest

abbrev pub invariant-expressions::further_factors-each : goal.invariant-expressions::further_factors-each
invariant-expressions::further_factors-each l = record {
  so_far : with_front l.all (reads_form (many further_factor) (limits_inside l.left) (lexemes l.rest)) ≡ reads_form (many further_factor) (limits_inside l.left) (lexemes l.tokens);
  no_longer : length l.rest ≤ length l.tokens;
}

abbrev pub decreases-expressions::further_factors-each : goal.decreases-expressions::further_factors-each
decreases-expressions::further_factors-each l = length l.rest

abbrev pub invariant-primaries::further_outputs-each : goal.invariant-primaries::further_outputs-each
invariant-primaries::further_outputs-each l = record {
  so_far : with_front l.all (reads_form (many (behind comma (optional (symbol Expressions)))) (limits_inside l.left) (lexemes l.rest)) ≡ reads_form (many (behind comma (optional (symbol Expressions)))) (limits_inside l.left) (lexemes l.tokens);
  no_longer : length l.rest ≤ length l.tokens;
}

abbrev pub decreases-primaries::further_outputs-each : goal.decreases-primaries::further_outputs-each
decreases-primaries::further_outputs-each l = length l.rest

abbrev pub invariant-primaries::further_rows-each : goal.invariant-primaries::further_rows-each
invariant-primaries::further_rows-each l = record {
  so_far : with_front l.all (reads_form (many (behind semicolon exprs)) (limits_inside l.left) (lexemes l.rest)) ≡ reads_form (many (behind semicolon exprs)) (limits_inside l.left) (lexemes l.tokens);
  no_longer : length l.rest ≤ length l.tokens;
}

abbrev pub decreases-primaries::further_rows-each : goal.decreases-primaries::further_rows-each
decreases-primaries::further_rows-each l = length l.rest

abbrev pub invariant-primaries::further_expressions-each : goal.invariant-primaries::further_expressions-each
invariant-primaries::further_expressions-each l = record {
  so_far : with_front l.all (reads_form (many (behind comma (symbol Expressions))) (limits_inside l.left) (lexemes l.rest)) ≡ reads_form (many (behind comma (symbol Expressions))) (limits_inside l.left) (lexemes l.tokens);
  no_longer : length l.rest ≤ length l.tokens;
}

abbrev pub decreases-primaries::further_expressions-each : goal.decreases-primaries::further_expressions-each
decreases-primaries::further_expressions-each l = length l.rest

abbrev pub invariant-references::further_parts-each : goal.invariant-references::further_parts-each
invariant-references::further_parts-each l = record {
  so_far : with_front l.all (reads_form (many (behind dot part)) (limits_inside l.left) (lexemes l.rest)) ≡ reads_form (many (behind dot part)) (limits_inside l.left) (lexemes l.tokens);
  no_longer : length l.rest ≤ length l.tokens;
}

abbrev pub decreases-references::further_parts-each : goal.decreases-references::further_parts-each
decreases-references::further_parts-each l = length l.rest

abbrev pub invariant-references::further_subscripts-each : goal.invariant-references::further_subscripts-each
invariant-references::further_subscripts-each l = record {
  so_far : with_front l.all (reads_form (many (behind comma subscript)) (limits_inside l.left) (lexemes l.rest)) ≡ reads_form (many (behind comma subscript)) (limits_inside l.left) (lexemes l.tokens);
  no_longer : length l.rest ≤ length l.tokens;
}

abbrev pub decreases-references::further_subscripts-each : goal.decreases-references::further_subscripts-each
decreases-references::further_subscripts-each l = length l.rest

abbrev pub invariant-arguments::further_named-each : goal.invariant-arguments::further_named-each
invariant-arguments::further_named-each l = record {
  so_far : with_front l.all (reads_form (many (behind comma named)) (limits_inside l.left) (lexemes l.rest)) ≡ reads_form (many (behind comma named)) (limits_inside l.left) (lexemes l.tokens);
  no_longer : length l.rest ≤ length l.tokens;
}

abbrev pub decreases-arguments::further_named-each : goal.decreases-arguments::further_named-each
decreases-arguments::further_named-each l = length l.rest

abbrev pub invariant-arguments::further_indices-each : goal.invariant-arguments::further_indices-each
invariant-arguments::further_indices-each l = record {
  so_far : with_front l.all (reads_form (many (behind comma index)) (limits_inside l.left) (lexemes l.rest)) ≡ reads_form (many (behind comma index)) (limits_inside l.left) (lexemes l.tokens);
  no_longer : length l.rest ≤ length l.tokens;
}

abbrev pub decreases-arguments::further_indices-each : goal.decreases-arguments::further_indices-each
decreases-arguments::further_indices-each l = length l.rest

abbrev pub invariant-arguments::more_arguments-each : goal.invariant-arguments::more_arguments-each
invariant-arguments::more_arguments-each l = record {
  so_far : with_plain l.plain (reads MoreArguments (limits_inside l.left) (lexemes l.rest)) ≡ reads MoreArguments (limits_inside l.left) (lexemes l.tokens);
  no_longer : length l.rest ≤ length l.tokens;
}

abbrev pub decreases-arguments::more_arguments-each : goal.decreases-arguments::more_arguments-each
decreases-arguments::more_arguments-each l = length l.rest

abbrev pub decreases-references::subscripts : goal.decreases-references::subscripts
decreases-references::subscripts l = l.left * 64 + 1

abbrev pub decreases-references::part : goal.decreases-references::part
decreases-references::part l = l.left * 64 + 2

abbrev pub decreases-references::part_behind_dot : goal.decreases-references::part_behind_dot
decreases-references::part_behind_dot l = l.left * 64 + 3

abbrev pub decreases-references::further_parts : goal.decreases-references::further_parts
decreases-references::further_parts l = l.left * 64 + 4

abbrev pub decreases-references::reference : goal.decreases-references::reference
decreases-references::reference l = l.left * 64 + 6

abbrev pub decreases-arguments::call_arguments : goal.decreases-arguments::call_arguments
decreases-arguments::call_arguments l = l.left * 64 + 1

abbrev pub decreases-primaries::word_call : goal.decreases-primaries::word_call
decreases-primaries::word_call l = l.left * 64 + 2

abbrev pub decreases-primaries::reference_or_call : goal.decreases-primaries::reference_or_call
decreases-primaries::reference_or_call l = l.left * 64 + 7

abbrev pub decreases-primaries::output_list : goal.decreases-primaries::output_list
decreases-primaries::output_list l = l.left * 64 + 1

abbrev pub decreases-primaries::matrix : goal.decreases-primaries::matrix
decreases-primaries::matrix l = l.left * 64 + 1

abbrev pub decreases-primaries::array : goal.decreases-primaries::array
decreases-primaries::array l = l.left * 64 + 1

abbrev pub decreases-primaries::primary : goal.decreases-primaries::primary
decreases-primaries::primary l = l.left * 64 + 8

abbrev pub decreases-expressions::power : goal.decreases-expressions::power
decreases-expressions::power l = l.left * 64 + 9

abbrev pub decreases-expressions::further_factor : goal.decreases-expressions::further_factor
decreases-expressions::further_factor l = l.left * 64 + 10

abbrev pub decreases-expressions::further_factors : goal.decreases-expressions::further_factors
decreases-expressions::further_factors l = l.left * 64 + 11

abbrev pub decreases-expressions::product : goal.decreases-expressions::product
decreases-expressions::product l = l.left * 64 + 12

abbrev pub decreases-expressions::further_term : goal.decreases-expressions::further_term
decreases-expressions::further_term l = l.left * 64 + 13

abbrev pub decreases-expressions::further_terms : goal.decreases-expressions::further_terms
decreases-expressions::further_terms l = l.left * 64 + 14

abbrev pub decreases-expressions::terms : goal.decreases-expressions::terms
decreases-expressions::terms l = l.left * 64 + 15

abbrev pub decreases-expressions::sum : goal.decreases-expressions::sum
decreases-expressions::sum l = l.left * 64 + 16

abbrev pub decreases-expressions::relation : goal.decreases-expressions::relation
decreases-expressions::relation l = l.left * 64 + 17

abbrev pub decreases-expressions::negation : goal.decreases-expressions::negation
decreases-expressions::negation l = l.left * 64 + 18

abbrev pub decreases-expressions::negation_behind_and : goal.decreases-expressions::negation_behind_and
decreases-expressions::negation_behind_and l = l.left * 64 + 19

abbrev pub decreases-expressions::further_negations : goal.decreases-expressions::further_negations
decreases-expressions::further_negations l = l.left * 64 + 20

abbrev pub decreases-expressions::conjunction : goal.decreases-expressions::conjunction
decreases-expressions::conjunction l = l.left * 64 + 21

abbrev pub decreases-expressions::conjunction_behind_or : goal.decreases-expressions::conjunction_behind_or
decreases-expressions::conjunction_behind_or l = l.left * 64 + 22

abbrev pub decreases-expressions::further_conjunctions : goal.decreases-expressions::further_conjunctions
decreases-expressions::further_conjunctions l = l.left * 64 + 23

abbrev pub decreases-expressions::logical : goal.decreases-expressions::logical
decreases-expressions::logical l = l.left * 64 + 24

abbrev pub decreases-expressions::logical_behind : goal.decreases-expressions::logical_behind
decreases-expressions::logical_behind l = l.left * 64 + 25

abbrev pub decreases-expressions::range_behind : goal.decreases-expressions::range_behind
decreases-expressions::range_behind l = l.left * 64 + 26

abbrev pub decreases-expressions::simple_expression : goal.decreases-expressions::simple_expression
decreases-expressions::simple_expression l = l.left * 64 + 27

abbrev pub decreases-expressions::if_expression : goal.decreases-expressions::if_expression
decreases-expressions::if_expression l = l.left * 64 + 1

abbrev pub decreases-expressions::expression : goal.decreases-expressions::expression
decreases-expressions::expression l = l.left * 64 + 28

abbrev pub decreases-expressions::expression_behind : goal.decreases-expressions::expression_behind
decreases-expressions::expression_behind l = l.left * 64 + 29

abbrev pub decreases-expressions::further_branch : goal.decreases-expressions::further_branch
decreases-expressions::further_branch l = l.left * 64 + 30

abbrev pub decreases-expressions::further_branches : goal.decreases-expressions::further_branches
decreases-expressions::further_branches l = l.left * 64 + 31

abbrev pub decreases-expressions::choices : goal.decreases-expressions::choices
decreases-expressions::choices l = l.left * 64 + 32

abbrev pub decreases-expressions::optional_expression : goal.decreases-expressions::optional_expression
decreases-expressions::optional_expression l = l.left * 64 + 29

abbrev pub decreases-references::subscript : goal.decreases-references::subscript
decreases-references::subscript l = l.left * 64 + 29

abbrev pub decreases-references::subscript_behind_comma : goal.decreases-references::subscript_behind_comma
decreases-references::subscript_behind_comma l = l.left * 64 + 30

abbrev pub decreases-references::further_subscripts : goal.decreases-references::further_subscripts
decreases-references::further_subscripts l = l.left * 64 + 31

abbrev pub decreases-arguments::index : goal.decreases-arguments::index
decreases-arguments::index l = l.left * 64 + 30

abbrev pub decreases-arguments::index_behind_comma : goal.decreases-arguments::index_behind_comma
decreases-arguments::index_behind_comma l = l.left * 64 + 31

abbrev pub decreases-arguments::further_indices : goal.decreases-arguments::further_indices
decreases-arguments::further_indices l = l.left * 64 + 32

abbrev pub decreases-arguments::indices : goal.decreases-arguments::indices
decreases-arguments::indices l = l.left * 64 + 33

abbrev pub decreases-arguments::indices_behind_for : goal.decreases-arguments::indices_behind_for
decreases-arguments::indices_behind_for l = l.left * 64 + 34

abbrev pub decreases-primaries::output_behind_comma : goal.decreases-primaries::output_behind_comma
decreases-primaries::output_behind_comma l = l.left * 64 + 30

abbrev pub decreases-primaries::further_outputs : goal.decreases-primaries::further_outputs
decreases-primaries::further_outputs l = l.left * 64 + 31

abbrev pub decreases-primaries::outputs : goal.decreases-primaries::outputs
decreases-primaries::outputs l = l.left * 64 + 32

abbrev pub decreases-primaries::further_expressions : goal.decreases-primaries::further_expressions
decreases-primaries::further_expressions l = l.left * 64 + 30

abbrev pub decreases-primaries::expressions : goal.decreases-primaries::expressions
decreases-primaries::expressions l = l.left * 64 + 31

abbrev pub decreases-primaries::row_behind_semicolon : goal.decreases-primaries::row_behind_semicolon
decreases-primaries::row_behind_semicolon l = l.left * 64 + 32

abbrev pub decreases-primaries::further_rows : goal.decreases-primaries::further_rows
decreases-primaries::further_rows l = l.left * 64 + 33

abbrev pub decreases-primaries::rows : goal.decreases-primaries::rows
decreases-primaries::rows l = l.left * 64 + 34

abbrev pub decreases-primaries::array_arguments : goal.decreases-primaries::array_arguments
decreases-primaries::array_arguments l = l.left * 64 + 35

abbrev pub decreases-arguments::enclosed_named : goal.decreases-arguments::enclosed_named
decreases-arguments::enclosed_named l = l.left * 64 + 1

abbrev pub decreases-arguments::function_argument : goal.decreases-arguments::function_argument
decreases-arguments::function_argument l = l.left * 64 + 2

abbrev pub decreases-arguments::argument : goal.decreases-arguments::argument
decreases-arguments::argument l = l.left * 64 + 29

abbrev pub decreases-arguments::argument_behind_equals : goal.decreases-arguments::argument_behind_equals
decreases-arguments::argument_behind_equals l = l.left * 64 + 30

abbrev pub decreases-arguments::named_behind_comma : goal.decreases-arguments::named_behind_comma
decreases-arguments::named_behind_comma l = l.left * 64 + 31

abbrev pub decreases-arguments::further_named : goal.decreases-arguments::further_named
decreases-arguments::further_named l = l.left * 64 + 32

abbrev pub decreases-arguments::named_list : goal.decreases-arguments::named_list
decreases-arguments::named_list l = l.left * 64 + 33

abbrev pub decreases-arguments::more_arguments : goal.decreases-arguments::more_arguments
decreases-arguments::more_arguments l = l.left * 64 + 34

abbrev pub decreases-arguments::optional_arguments : goal.decreases-arguments::optional_arguments
decreases-arguments::optional_arguments l = l.left * 64 + 35

abbrev pub decreases-arguments::function_first : goal.decreases-arguments::function_first
decreases-arguments::function_first l = l.left * 64 + 36

abbrev pub decreases-arguments::expression_first : goal.decreases-arguments::expression_first
decreases-arguments::expression_first l = l.left * 64 + 36

abbrev pub decreases-arguments::arguments : goal.decreases-arguments::arguments
decreases-arguments::arguments l = l.left * 64 + 37
