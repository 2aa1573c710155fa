use Rattle.std.proofs.Common.{length}
use denote.Text.{Utf8}
use denote.Shadow.{shadow}
use Rattle.mo_lexer.proofs.Reached.{Reached}
use Rattle.mo_lexer.proofs.text.tokens.Given as goal

abbrev pub invariant-each : goal.invariant-each
invariant-each l = shadow (Utf8 l.rest) × Reached l.file l.text l.found l.rest

abbrev pub decreases-each : goal.decreases-each
decreases-each l = length l.rest
