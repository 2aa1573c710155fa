-- Those before are digits.
use Rattle.std.proofs.Common.{◌≡◌, drop}
use Rattle.mo_lexer.specs.Spelling.{are_digits}
use Rattle.mo_front.proofs.rungs.are_digits.Given as goal

abbrev pub invariant-loop-byte : goal.invariant-loop-byte
invariant-loop-byte l = are_digits (drop l.byte-index l.bytes) ≡ are_digits l.bytes
