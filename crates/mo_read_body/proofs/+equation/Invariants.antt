use Rattle.std.proofs.Common.{◌≡◌, ◌<◌, ◌≤◌, ◌+◌, ◌*◌, length}
use Rattle.mo_grammar.specs.Lexeme.{lexemes}
use Rattle.mo_grammar.specs.Symbols.{ForEquations, WhenEquations, IfEquations, ElseEquations}
use Rattle.mo_grammar.specs.Language.{limits_inside, reads, reads_form}
use Rattle.mo_grammar.proofs.Loops.{with_front}
use Rattle.mo_read_body.specs.steps.EquationParts.{in_when, in_if, reads_when_tail, reads_if_tail}
use Rattle.mo_read_body.proofs.Listing.{with_first, with_when, with_if}
use Rattle.mo_read_body.proofs.+equation.Given as goal

abbrev pub invariant-equations::for_equations-each : goal.invariant-equations::for_equations-each
invariant-equations::for_equations-each l = record {
  so_far : with_front l.all (reads ForEquations (limits_inside l.left) (lexemes l.rest)) ≡ reads ForEquations (limits_inside l.left) (lexemes l.tokens);
  no_longer : length l.rest ≤ length l.tokens;
}

abbrev pub decreases-equations::for_equations-each : goal.decreases-equations::for_equations-each
decreases-equations::for_equations-each l = length l.rest

abbrev pub invariant-if_equations::else_equations-each : goal.invariant-if_equations::else_equations-each
invariant-if_equations::else_equations-each l = record {
  so_far : with_front l.all (reads ElseEquations (limits_inside l.left) (lexemes l.rest)) ≡ reads ElseEquations (limits_inside l.left) (lexemes l.tokens);
  no_longer : length l.rest ≤ length l.tokens;
}

abbrev pub decreases-if_equations::else_equations-each : goal.decreases-if_equations::else_equations-each
decreases-if_equations::else_equations-each l = length l.rest

abbrev pub invariant-when_equations::when_equations-each : goal.invariant-when_equations::when_equations-each
invariant-when_equations::when_equations-each l = record {
  so_far : with_first l.all (reads WhenEquations (limits_inside l.left) (lexemes l.rest)) ≡ reads WhenEquations (limits_inside l.left) (lexemes l.tokens);
  no_longer : length l.rest ≤ length l.tokens;
}

abbrev pub decreases-when_equations::when_equations-each : goal.decreases-when_equations::when_equations-each
decreases-when_equations::when_equations-each l = length l.rest

abbrev pub invariant-if_equations::if_equations-each : goal.invariant-if_equations::if_equations-each
invariant-if_equations::if_equations-each l = record {
  so_far : with_first l.all (reads IfEquations (limits_inside l.left) (lexemes l.rest)) ≡ reads IfEquations (limits_inside l.left) (lexemes l.tokens);
  no_longer : length l.rest ≤ length l.tokens;
}

abbrev pub decreases-if_equations::if_equations-each : goal.decreases-if_equations::if_equations-each
decreases-if_equations::if_equations-each l = length l.rest

abbrev pub invariant-when_equations::when_branches-each : goal.invariant-when_equations::when_branches-each
invariant-when_equations::when_branches-each l = record {
  so_far : with_when l.all (reads_when_tail (limits_inside l.left) (lexemes l.rest)) ≡ reads_form in_when (limits_inside l.left) (lexemes l.tokens);
  shorter : length l.rest < length l.tokens;
}

abbrev pub decreases-when_equations::when_branches-each : goal.decreases-when_equations::when_branches-each
decreases-when_equations::when_branches-each l = length l.rest

abbrev pub invariant-if_equations::if_branches-each : goal.invariant-if_equations::if_branches-each
invariant-if_equations::if_branches-each l = record {
  so_far : with_if l.all (reads_if_tail (limits_inside l.left) (lexemes l.rest)) ≡ reads_form in_if (limits_inside l.left) (lexemes l.tokens);
  shorter : length l.rest < length l.tokens;
}

abbrev pub decreases-if_equations::if_branches-each : goal.decreases-if_equations::if_branches-each
decreases-if_equations::if_branches-each l = length l.rest

abbrev pub decreases-equations::equation : goal.decreases-equations::equation
decreases-equations::equation l = l.left * 10 + 4

abbrev pub decreases-equations::equation_line : goal.decreases-equations::equation_line
decreases-equations::equation_line l = l.left * 10 + 5

abbrev pub decreases-equations::equation_kind : goal.decreases-equations::equation_kind
decreases-equations::equation_kind l = l.left * 10 + 3

abbrev pub decreases-equations::for_equation : goal.decreases-equations::for_equation
decreases-equations::for_equation l = l.left * 10 + 2

abbrev pub decreases-equations::for_equations : goal.decreases-equations::for_equations
decreases-equations::for_equations l = l.left * 10 + 6

abbrev pub decreases-when_equations::when_equation : goal.decreases-when_equations::when_equation
decreases-when_equations::when_equation l = l.left * 10 + 2

abbrev pub decreases-when_equations::when_branches : goal.decreases-when_equations::when_branches
decreases-when_equations::when_branches l = l.left * 10 + 9

abbrev pub decreases-when_equations::elsewhen_branch : goal.decreases-when_equations::elsewhen_branch
decreases-when_equations::elsewhen_branch l = l.left * 10 + 8

abbrev pub decreases-when_equations::when_branch : goal.decreases-when_equations::when_branch
decreases-when_equations::when_branch l = l.left * 10 + 7

abbrev pub decreases-when_equations::when_equations : goal.decreases-when_equations::when_equations
decreases-when_equations::when_equations l = l.left * 10 + 6

abbrev pub decreases-if_equations::if_equation : goal.decreases-if_equations::if_equation
decreases-if_equations::if_equation l = l.left * 10 + 2

abbrev pub decreases-if_equations::if_branches : goal.decreases-if_equations::if_branches
decreases-if_equations::if_branches l = l.left * 10 + 9

abbrev pub decreases-if_equations::elseif_branch : goal.decreases-if_equations::elseif_branch
decreases-if_equations::elseif_branch l = l.left * 10 + 8

abbrev pub decreases-if_equations::if_branch : goal.decreases-if_equations::if_branch
decreases-if_equations::if_branch l = l.left * 10 + 7

abbrev pub decreases-if_equations::if_equations : goal.decreases-if_equations::if_equations
decreases-if_equations::if_equations l = l.left * 10 + 6

abbrev pub decreases-if_equations::if_end : goal.decreases-if_equations::if_end
decreases-if_equations::if_end l = l.left * 10 + 7

abbrev pub decreases-if_equations::else_equations : goal.decreases-if_equations::else_equations
decreases-if_equations::else_equations l = l.left * 10 + 6
