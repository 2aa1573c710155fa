use Rattle.std.proofs.Common.{◌≡◌, length}
use Rattle.mo_syntax.specs.Lexeme.{lexemes}
use Rattle.mo_front.specs.Words.{dotted_names}
use Rattle.mo_front.proofs.Dotting.{behind}
use Rattle.mo_front.proofs.words.dotted.Given as goal

abbrev pub invariant-each : goal.invariant-each
invariant-each l = dotted_names (lexemes l.tokens) ≡ behind l.names (dotted_names (lexemes l.rest))

abbrev pub decreases-each : goal.decreases-each
decreases-each l = length l.rest
