use Rattle.std.proofs.Common.{arith}
use Rattle.std.proofs.lemmas.Grind.{common_steps}
use Rattle.mo_ports.proofs.Reading.{starts, grows}
use Rattle.mo_ports.proofs.read.read_all.Goals as goal

pub loop-count-init : goal.loop-count-init
loop-count-init g c = record {
  same = grind (arith, common_steps);
  within = grind (arith, common_steps);
  count = grind (arith, common_steps);
  front = starts (g.S.Shelf.told c.args.shelf.now) c.args.name.now _ c.new-bytes.ensures.items;
  taken = grind (arith, common_steps);
  taken_later = grind (arith, common_steps);
  faults = grind (arith, common_steps);
  failed = grind (arith, common_steps);
}

pub loop-count-preserved : goal.loop-count-preserved
loop-count-preserved g c = record {
  same = grind (arith, common_steps);
  within = grind (arith, common_steps);
  count = grind (arith, common_steps);
  front = grows _ _ _ _ _ _ _ _ c.loop-count.invariant.same c.loop-count.invariant.front c.in-Ok.ensures.bytes (grind (arith, common_steps));
  taken = grind (arith, common_steps);
  taken_later = grind (arith, common_steps);
  faults = grind (arith, common_steps);
  failed = grind (arith, common_steps);
}
