use Rattle.std.proofs.Common.{◌+◌, length, ap, arith, slice_index}
use Rattle.mo_match.proofs.ListLemmas.{numbers_few}
use Rattle.mo_match.proofs.lists.list_unknowns.Goals as goal

pub put-requires : goal.put-requires
put-requires c =
    let few = numbers_few (λ u. slice_index c.args.mark.now (u + 1)) c.loop-u.u in
    let same = ap length c.loop-u.invariant.items in
    omega arith
