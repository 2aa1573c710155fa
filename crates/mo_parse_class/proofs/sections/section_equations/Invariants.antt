use Rattle.std.proofs.Common.{◌≡◌, ◌≤◌, length}
use Rattle.mo_grammar.specs.Lexeme.{lexemes}
use Rattle.mo_grammar.specs.Language.{reads}
use Rattle.mo_grammar.specs.Symbols.{SectionEquations}
use Rattle.mo_class_heads.specs.Left.{limits}
use Rattle.mo_parse_class.specs.steps.Parts.{with_equations}
use Rattle.mo_parse_class.proofs.sections.section_equations.Given as goal

abbrev pub invariant-each : goal.invariant-each
invariant-each l = record {
  so_far : with_equations l.all (reads SectionEquations (limits l.left) (lexemes l.rest)) ≡ reads SectionEquations (limits l.left) (lexemes l.tokens);
  no_longer : length l.rest ≤ length l.tokens;
}

abbrev pub decreases-each : goal.decreases-each
decreases-each l = length l.rest
