use Rattle.std.proofs.Common.{arith}
use Rattle.std.proofs.lemmas.Grind.{common_steps}
use Rattle.mo_ports.proofs.Writing.{put_more}
use Rattle.mo_ports.proofs.put.put_all.Goals as goal

pub loop-done-preserved : goal.loop-done-preserved
loop-done-preserved g c = record {
  within = grind (arith, common_steps);
  written = put_more _ _ _ _ _ _ c.loop-done.invariant.written c.in-Ok.ensures.appends;
  later = grind (arith, common_steps);
}
