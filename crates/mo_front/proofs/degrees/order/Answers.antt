-- The entry at the pair is tight.
use Rattle.std.proofs.Common.{arith}
use Rattle.mo_front.proofs.Structuring.{pair_known, order_low, order_is}
use Rattle.mo_front.proofs.degrees.order.Goals as goal

pub index-requires-2 : goal.index-requires-2
index-requires-2 c =
    let known = pair_known _ _ _ _ c.equations-equations.ensures.sound c.requires.least c.requires.place c.index.ensures in
    omega (arith, known.0, known.1)

pub overflow_sub-result : goal.overflow_sub-result
overflow_sub-result c =
    order_low _ _ _ _ c.equations-equations.ensures.sound c.requires.least c.requires.place c.index.ensures _ _ c.index-3.ensures c.index-2.ensures

pub returns : goal.returns
returns c =
    order_is _ _ _ _ c.equations-equations.ensures.sound c.requires.least c.requires.place c.index.ensures _ _ c.index-3.ensures c.index-2.ensures
