-- The frame that is looked at stands.
use Rattle.mo_scope.specs.Worlds.{Grows, IsFrame}
use Rattle.mo_lookup.proofs.ahead.keep_outwards.Given as goal

abbrev pub invariant-loop-around : goal.invariant-loop-around
invariant-loop-around l = record {
  grows : Grows l.initial.s l.s;
  stand : IsFrame l.s l.frame.0;
}
