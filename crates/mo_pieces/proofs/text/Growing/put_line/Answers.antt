use Rattle.std.proofs.Common.{arith}
use Rattle.std.specs.Prelude.{codes}
use Rattle.std.proofs.lemmas.Grind.{common_steps}
use Rattle.mo_pieces.proofs.Growth.{repeat_more}
use Rattle.mo_pieces.proofs.text.Growing.put_line.Goals as goal

pub loop-preserved : goal.loop-preserved
loop-preserved c = let e = repeat_more c.loop.counter (codes "  ") in grind (arith, common_steps)
