use Rattle.std.proofs.Common.{length, ap, arith}
use Rattle.mo_incidence.specs.Offsets.{by_place}
use Rattle.mo_match.proofs.ListLemmas.{numbers_few}
use Rattle.mo_match.proofs.lists.list_marked.Goals as goal

pub put-requires : goal.put-requires
put-requires c =
    let few = numbers_few (by_place c.args.mark.now) c.loop-i.i in
    let same = ap length c.loop-i.invariant.items in
    omega arith
