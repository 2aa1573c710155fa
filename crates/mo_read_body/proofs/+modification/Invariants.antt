use Rattle.std.proofs.Common.{◌≡◌, ◌<◌, ◌+◌, ◌*◌, length}
use Rattle.mo_grammar.specs.Lexeme.{lexemes}
use Rattle.mo_grammar.specs.Codes.{comma}
use Rattle.mo_grammar.specs.Grammar.{many, symbol}
use Rattle.mo_grammar.specs.Forms.{behind, separated}
use Rattle.mo_grammar.specs.Symbols.{ModArguments}
use Rattle.mo_grammar.specs.Classes.{literals}
use Rattle.mo_grammar.specs.Language.{limits_inside, reads_form}
use Rattle.mo_grammar.proofs.Loops.{with_front}
use Rattle.mo_read_body.specs.steps.Parts.{literal}
use Rattle.mo_read_body.proofs.+modification.Given as goal

abbrev pub invariant-modifications::listed_arguments-each : goal.invariant-modifications::listed_arguments-each
invariant-modifications::listed_arguments-each l = record {
  so_far : with_front l.all (reads_form (many (behind comma (symbol ModArguments))) (limits_inside l.left) (lexemes l.rest)) ≡ reads_form (separated comma (symbol ModArguments)) (limits_inside l.left) (lexemes l.tokens);
  shorter : length l.rest < length l.tokens;
}

abbrev pub decreases-modifications::listed_arguments-each : goal.decreases-modifications::listed_arguments-each
decreases-modifications::listed_arguments-each l = length l.rest

abbrev pub invariant-short_classes::literals-each : goal.invariant-short_classes::literals-each
invariant-short_classes::literals-each l = record {
  so_far : with_front l.all (reads_form (many (behind comma literal)) (limits_inside l.left) (lexemes l.rest)) ≡ reads_form literals (limits_inside l.left) (lexemes l.tokens);
  shorter : length l.rest < length l.tokens;
}

abbrev pub decreases-short_classes::literals-each : goal.decreases-short_classes::literals-each
decreases-short_classes::literals-each l = length l.rest

abbrev pub decreases-modifications::class_modification : goal.decreases-modifications::class_modification
decreases-modifications::class_modification l = l.left * 16 + 0

abbrev pub decreases-modifications::optional_modifiers : goal.decreases-modifications::optional_modifiers
decreases-modifications::optional_modifiers l = l.left * 16 + 1

abbrev pub decreases-declarations::annotation : goal.decreases-declarations::annotation
decreases-declarations::annotation l = l.left * 16 + 1

abbrev pub decreases-declarations::comment : goal.decreases-declarations::comment
decreases-declarations::comment l = l.left * 16 + 2

abbrev pub decreases-modifications::modification : goal.decreases-modifications::modification
decreases-modifications::modification l = l.left * 16 + 1

abbrev pub decreases-modifications::optional_modification : goal.decreases-modifications::optional_modification
decreases-modifications::optional_modification l = l.left * 16 + 2

abbrev pub decreases-declarations::declaration : goal.decreases-declarations::declaration
decreases-declarations::declaration l = l.left * 16 + 3

abbrev pub decreases-declarations::argument_component : goal.decreases-declarations::argument_component
decreases-declarations::argument_component l = l.left * 16 + 4

abbrev pub decreases-short_classes::enclosed_literals : goal.decreases-short_classes::enclosed_literals
decreases-short_classes::enclosed_literals l = l.left * 16 + 0

abbrev pub decreases-short_classes::enumeration : goal.decreases-short_classes::enumeration
decreases-short_classes::enumeration l = l.left * 16 + 3

abbrev pub decreases-short_classes::short_class : goal.decreases-short_classes::short_class
decreases-short_classes::short_class l = l.left * 16 + 3

abbrev pub decreases-short_classes::short_body : goal.decreases-short_classes::short_body
decreases-short_classes::short_body l = l.left * 16 + 4

abbrev pub decreases-short_classes::short_class_definition : goal.decreases-short_classes::short_class_definition
decreases-short_classes::short_class_definition l = l.left * 16 + 5

abbrev pub decreases-declarations::declares : goal.decreases-declarations::declares
decreases-declarations::declares l = l.left * 16 + 6

abbrev pub decreases-declarations::constraint : goal.decreases-declarations::constraint
decreases-declarations::constraint l = l.left * 16 + 2

abbrev pub decreases-modifications::replaceable_argument : goal.decreases-modifications::replaceable_argument
decreases-modifications::replaceable_argument l = l.left * 16 + 7

abbrev pub decreases-modifications::modifying : goal.decreases-modifications::modifying
decreases-modifications::modifying l = l.left * 16 + 3

abbrev pub decreases-modifications::redeclared : goal.decreases-modifications::redeclared
decreases-modifications::redeclared l = l.left * 16 + 8

abbrev pub decreases-modifications::given : goal.decreases-modifications::given
decreases-modifications::given l = l.left * 16 + 8

abbrev pub decreases-modifications::argument : goal.decreases-modifications::argument
decreases-modifications::argument l = l.left * 16 + 9

abbrev pub decreases-modifications::next_argument : goal.decreases-modifications::next_argument
decreases-modifications::next_argument l = l.left * 16 + 10

abbrev pub decreases-modifications::listed_arguments : goal.decreases-modifications::listed_arguments
decreases-modifications::listed_arguments l = l.left * 16 + 11

abbrev pub decreases-modifications::arguments : goal.decreases-modifications::arguments
decreases-modifications::arguments l = l.left * 16 + 12

abbrev pub decreases-short_classes::literal : goal.decreases-short_classes::literal
decreases-short_classes::literal l = l.left * 16 + 3

abbrev pub decreases-short_classes::next_literal : goal.decreases-short_classes::next_literal
decreases-short_classes::next_literal l = l.left * 16 + 4

abbrev pub decreases-short_classes::literals : goal.decreases-short_classes::literals
decreases-short_classes::literals l = l.left * 16 + 5

abbrev pub decreases-short_classes::literals_or_open : goal.decreases-short_classes::literals_or_open
decreases-short_classes::literals_or_open l = l.left * 16 + 6
