use Rattle.std.proofs.Common.{◌≡◌, length, arith}
use Rattle.mo_graph.proofs.Lists.{written_whole}
use Rattle.mo_graph.proofs.order.place.Goals as goal

pub returns-clause-ordered : goal.returns-clause-ordered
returns-clause-ordered c =
    let size : length c.deref_mut-4.result.now ≡ length c.args.leader.now = omega (arith, c.deref_mut-4.ensures.len, c.in_ok-placed.ensures.len) in
    let there = rw size at c.in_ok-count.ensures in
    let full : c.in_ok-placed.placed.len ≡ length c.place_all.new.placed = omega (arith, c.deref_mut-4.ensures.len, c.place_all.auto.placed) in
    (c.place_all.new.order, rw (written_whole _ _ _ full) there)
