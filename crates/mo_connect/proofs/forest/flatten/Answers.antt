use Rattle.std.proofs.Common.{arith}
use Rattle.mo_connect.proofs.ForestLemmas.{shortens_none, shortens_twice, shortens_at, flat_more}
use Rattle.mo_connect.proofs.forest.flatten.Goals as goal

pub loop-i-init : goal.loop-i-init
loop-i-init c = record { shortens = shortens_none _ c.requires; flat = λ i none. absurd (omega arith) }

pub loop-i-preserved : goal.loop-i-preserved
loop-i-preserved c =
    let before = c.loop-i.invariant in
    record {
      shortens = shortens_twice _ _ _ before.shortens (shortens_at _ _ before.shortens.forest (omega arith));
      flat = flat_more _ _ before.shortens.forest (omega arith) before.flat;
    }
