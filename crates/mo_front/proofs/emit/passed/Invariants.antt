-- Whatever the phases that are left break is what all of them break.
use Rattle.std.proofs.Common.{◌≡◌, drop, IfSome}
use Rattle.mo_front.specs.Emitted.{reduced_part}
use Rattle.mo_front.proofs.Emitting.{Passed}
use Rattle.mo_front.proofs.emit.passed.Given as goal

abbrev pub invariant-loop-phase : goal.invariant-loop-phase
invariant-loop-phase l = Passed l.m l.least l.phases (drop l.phase-index l.phases) × IfSome l.made (λ part. part ≡ reduced_part l.m l.least)
