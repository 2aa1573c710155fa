use Rattle.std.proofs.Common.{length, ap, arith, ◌-◌, slice_index}
use Rattle.mo_incidence.specs.Offsets.{by_place}
use Rattle.mo_pantelides.proofs.Choosing.{length_listed}
use Rattle.mo_pantelides.proofs.choose.list_reasons.Goals as goal

pub put_reason-requires : goal.put_reason-requires
put_reason-requires c =
    let few = length_listed (by_place c.args.c.now) (λ i. slice_index c.args.best.now i - 1) c.loop-i.i in
    let same = ap length c.loop-i.invariant.items in
    omega arith
