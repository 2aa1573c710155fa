use Rattle.std.proofs.Common.{arith}
use Rattle.mo_graph.proofs.Gathers.{root_room, root_gathered}
use Rattle.mo_graph.proofs.gather.gather_from.Goals as goal

pub bounds-queue-base : goal.bounds-queue-base
bounds-queue-base c = omega (arith, c.requires.gathered.queue_all, root_room _ _ _ _ _ _ _ _ _ c.requires.finished c.requires.gathered c.requires.place.0 c.requires.place.1)

pub loop-head-init : goal.loop-head-init
loop-head-init c = record {
  gathered = root_gathered _ _ _ _ _ _ _ _ _ c.requires.finished c.requires.gathered c.requires.place.0 c.requires.place.1;
  some = omega arith;
}
