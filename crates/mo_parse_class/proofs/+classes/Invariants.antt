-- What was read so far, and how deep each reader goes.
use Rattle.std.proofs.Common.{◌≡◌, ◌≤◌, ◌+◌, ◌*◌, length}
use Rattle.mo_grammar.specs.Lexeme.{lexemes}
use Rattle.mo_grammar.specs.Language.{reads, reads_form}
use Rattle.mo_grammar.specs.Symbols.{Compositions, Sections}
use Rattle.mo_class_heads.specs.Left.{limits}
use Rattle.mo_parse_class.specs.steps.Parts.{element_list, with_items}
use Rattle.mo_grammar.proofs.Loops.{with_front}
use Rattle.mo_parse_class.proofs.+classes.Given as goal

abbrev pub invariant-elements::elements-each : goal.invariant-elements::elements-each
invariant-elements::elements-each l = record {
  so_far : with_front l.all (reads_form (element_list l.hidden) (limits l.left) (lexemes l.rest)) ≡ reads_form (element_list l.hidden) (limits l.left) (lexemes l.tokens);
  no_longer : length l.rest ≤ length l.tokens;
}

abbrev pub decreases-elements::elements-each : goal.decreases-elements::elements-each
decreases-elements::elements-each l = length l.rest

abbrev pub invariant-sections::composition-each : goal.invariant-sections::composition-each
invariant-sections::composition-each l = record {
  so_far : with_items l.items (reads Sections (limits l.left) (lexemes l.rest)) ≡ reads Compositions (limits l.left) (lexemes l.tokens);
  no_longer : length l.rest ≤ length l.tokens;
}

abbrev pub decreases-sections::composition-each : goal.decreases-sections::composition-each
decreases-sections::composition-each l = length l.rest

abbrev pub decreases-classes::class_definition : goal.decreases-classes::class_definition
decreases-classes::class_definition l = l.left.constructs * 20

abbrev pub decreases-classes::class_specifier : goal.decreases-classes::class_specifier
decreases-classes::class_specifier l = l.left.constructs * 20 + 12

abbrev pub decreases-classes::extending_class : goal.decreases-classes::extending_class
decreases-classes::extending_class l = l.left.constructs * 20 + 11

abbrev pub decreases-classes::long_class : goal.decreases-classes::long_class
decreases-classes::long_class l = l.left.constructs * 20 + 11

abbrev pub decreases-sections::composition : goal.decreases-sections::composition
decreases-sections::composition l = l.left.constructs * 20 + 10

abbrev pub decreases-sections::section : goal.decreases-sections::section
decreases-sections::section l = l.left.constructs * 20 + 9

abbrev pub decreases-elements::elements : goal.decreases-elements::elements
decreases-elements::elements l = l.left.constructs * 20 + 5

abbrev pub decreases-elements::element_before_semicolon : goal.decreases-elements::element_before_semicolon
decreases-elements::element_before_semicolon l = l.left.constructs * 20 + 4

abbrev pub decreases-elements::element : goal.decreases-elements::element
decreases-elements::element l = l.left.constructs * 20 + 3

abbrev pub decreases-elements::members : goal.decreases-elements::members
decreases-elements::members l = l.left.constructs * 20 + 2

abbrev pub decreases-elements::declares : goal.decreases-elements::declares
decreases-elements::declares l = l.left.constructs * 20 + 1

abbrev pub decreases-sections::public_elements : goal.decreases-sections::public_elements
decreases-sections::public_elements l = l.left.constructs * 20 + 8

abbrev pub decreases-sections::protected_elements : goal.decreases-sections::protected_elements
decreases-sections::protected_elements l = l.left.constructs * 20 + 8
