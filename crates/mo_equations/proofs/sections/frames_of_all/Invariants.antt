-- Those of the instances so far.
use Rattle.std.proofs.Common.{◌≡◌, Ok, take}
use Rattle.mo_scope.specs.Trees.{instances_in}
use Rattle.mo_scope.specs.Worlds.{Grows, frames_of, table_in}
use Rattle.mo_equations.specs.steps.Placing.{AreFrames, frames_of_instances, frames_seen}
use Rattle.mo_equations.proofs.sections.frames_of_all.Given as goal

abbrev pub invariant-loop-instance : goal.invariant-loop-instance
invariant-loop-instance l = record {
  grows : Grows l.initial.s l.s;
  exist : AreFrames l.s l.frames;
  are : frames_of_instances (table_in l.initial.s) (instances_in l.initial.s (take l.instance-index l.instances)) ≡ Ok (frames_seen (frames_of l.s) l.frames);
}
