use Rattle.std.proofs.Common.{◌≡◌, ◌≤◌, ◌+◌, ◌*◌, length}
use Rattle.mo_grammar.specs.Lexeme.{lexemes}
use Rattle.mo_grammar.specs.Grammar.{many}
use Rattle.mo_grammar.specs.Language.{limits_inside, reads_form}
use Rattle.mo_grammar.proofs.Loops.{with_front}
use Rattle.mo_read_body.specs.steps.StatementParts.{statement_line, elseif_branch, elsewhen_branch}
use Rattle.mo_read_body.proofs.+statement.Given as goal

abbrev pub invariant-algorithms::statements-each : goal.invariant-algorithms::statements-each
invariant-algorithms::statements-each l = record {
  so_far : with_front l.all (reads_form (many statement_line) (limits_inside l.left) (lexemes l.rest)) ≡ reads_form (many statement_line) (limits_inside l.left) (lexemes l.tokens);
  no_longer : length l.rest ≤ length l.tokens;
}

abbrev pub decreases-algorithms::statements-each : goal.decreases-algorithms::statements-each
decreases-algorithms::statements-each l = length l.rest

abbrev pub invariant-nested_statements::elseif_branches-each : goal.invariant-nested_statements::elseif_branches-each
invariant-nested_statements::elseif_branches-each l = record {
  so_far : with_front l.all (reads_form (many elseif_branch) (limits_inside l.left) (lexemes l.rest)) ≡ reads_form (many elseif_branch) (limits_inside l.left) (lexemes l.tokens);
  no_longer : length l.rest ≤ length l.tokens;
}

abbrev pub decreases-nested_statements::elseif_branches-each : goal.decreases-nested_statements::elseif_branches-each
decreases-nested_statements::elseif_branches-each l = length l.rest

abbrev pub invariant-nested_statements::elsewhen_branches-each : goal.invariant-nested_statements::elsewhen_branches-each
invariant-nested_statements::elsewhen_branches-each l = record {
  so_far : with_front l.all (reads_form (many elsewhen_branch) (limits_inside l.left) (lexemes l.rest)) ≡ reads_form (many elsewhen_branch) (limits_inside l.left) (lexemes l.tokens);
  no_longer : length l.rest ≤ length l.tokens;
}

abbrev pub decreases-nested_statements::elsewhen_branches-each : goal.decreases-nested_statements::elsewhen_branches-each
decreases-nested_statements::elsewhen_branches-each l = length l.rest

abbrev pub decreases-algorithms::statement : goal.decreases-algorithms::statement
decreases-algorithms::statement l = l.left * 10 + 3

abbrev pub decreases-algorithms::statement_kind : goal.decreases-algorithms::statement_kind
decreases-algorithms::statement_kind l = l.left * 10 + 2

abbrev pub decreases-algorithms::statement_line : goal.decreases-algorithms::statement_line
decreases-algorithms::statement_line l = l.left * 10 + 4

abbrev pub decreases-algorithms::statements : goal.decreases-algorithms::statements
decreases-algorithms::statements l = l.left * 10 + 5

abbrev pub decreases-nested_statements::branch : goal.decreases-nested_statements::branch
decreases-nested_statements::branch l = l.left * 10 + 6

abbrev pub decreases-nested_statements::elseif_branch : goal.decreases-nested_statements::elseif_branch
decreases-nested_statements::elseif_branch l = l.left * 10 + 7

abbrev pub decreases-nested_statements::elseif_branches : goal.decreases-nested_statements::elseif_branches
decreases-nested_statements::elseif_branches l = l.left * 10 + 8

abbrev pub decreases-nested_statements::otherwise : goal.decreases-nested_statements::otherwise
decreases-nested_statements::otherwise l = l.left * 10 + 6

abbrev pub decreases-nested_statements::elsewhen_branch : goal.decreases-nested_statements::elsewhen_branch
decreases-nested_statements::elsewhen_branch l = l.left * 10 + 7

abbrev pub decreases-nested_statements::elsewhen_branches : goal.decreases-nested_statements::elsewhen_branches
decreases-nested_statements::elsewhen_branches l = l.left * 10 + 8

abbrev pub decreases-nested_statements::if_statement : goal.decreases-nested_statements::if_statement
decreases-nested_statements::if_statement l = l.left * 10 + 1

abbrev pub decreases-nested_statements::for_statement : goal.decreases-nested_statements::for_statement
decreases-nested_statements::for_statement l = l.left * 10 + 1

abbrev pub decreases-nested_statements::while_statement : goal.decreases-nested_statements::while_statement
decreases-nested_statements::while_statement l = l.left * 10 + 1

abbrev pub decreases-nested_statements::when_statement : goal.decreases-nested_statements::when_statement
decreases-nested_statements::when_statement l = l.left * 10 + 1

abbrev pub decreases-nested_statements::if_end : goal.decreases-nested_statements::if_end
decreases-nested_statements::if_end l = l.left * 10 + 7

abbrev pub decreases-nested_statements::if_rest : goal.decreases-nested_statements::if_rest
decreases-nested_statements::if_rest l = l.left * 10 + 9

abbrev pub decreases-nested_statements::looped : goal.decreases-nested_statements::looped
decreases-nested_statements::looped l = l.left * 10 + 6

abbrev pub decreases-nested_statements::when_rest : goal.decreases-nested_statements::when_rest
decreases-nested_statements::when_rest l = l.left * 10 + 9
