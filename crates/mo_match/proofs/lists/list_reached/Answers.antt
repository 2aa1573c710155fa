use Rattle.std.proofs.Common.{◌+◌, length, ap, arith}
use Rattle.mo_match.specs.steps.Lists.{reached}
use Rattle.mo_match.proofs.ListLemmas.{numbers_few}
use Rattle.mo_match.proofs.lists.list_reached.Goals as goal

pub put-requires : goal.put-requires
put-requires c =
    let few = numbers_few (λ u. reached c.args.owner.now c.args.mark.now (u + 1)) c.loop-u.u in
    let same = ap length c.loop-u.invariant.items in
    omega arith
