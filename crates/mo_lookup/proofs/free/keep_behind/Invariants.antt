-- The class that was found last stands.
use Rattle.mo_scope.specs.Worlds.{Grows, IsFrame}
use Rattle.mo_lookup.proofs.free.keep_behind.Given as goal

abbrev pub invariant-loop-part : goal.invariant-loop-part
invariant-loop-part l = record {
  grows : Grows l.initial.s l.s;
  stand : IsFrame l.s l.frame.0;
}
