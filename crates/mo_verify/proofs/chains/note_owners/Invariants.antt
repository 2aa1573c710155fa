use Rattle.mo_verify.specs.Finding.{printed_in}
use Rattle.mo_verify.proofs.Faulty.{AreTaken}
use Rattle.mo_verify.proofs.chains.note_owners.Given as goal

abbrev pub invariant-loop-i : goal.invariant-loop-i
invariant-loop-i l = AreTaken l.inc (printed_in l.claims) l.owner l.i
