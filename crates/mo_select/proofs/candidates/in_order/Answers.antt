use Rattle.std.proofs.Common.{◌≡◌, length, ap, ◌∙◌, arith}
use Rattle.std.proofs.lemmas.List.{length_push}
use Rattle.mo_incidence.specs.Offsets.{by_number}
use Rattle.mo_select.proofs.Ranks.{order_next, ends_next}
use Rattle.mo_select.proofs.candidates.in_order.Goals as goal

pub loop-wanted-preserved : goal.loop-wanted-preserved
loop-wanted-preserved c =
    let made = order_next (by_number c.args.level.now) c.args.candidates.now c.loop-wanted.order.items c.put_level.new.order.items c.loop-wanted.wanted c.loop-wanted.invariant.order c.in_ok-put_level.ensures in
    let counted : c.len.result ≡ length c.put_level.new.order.items = omega (arith, c.len.ensures) in
    let size = ap length c.in_ok-push.ensures.items ∙ length_push c.loop-wanted.ends.items c.len.result in
    record {
      order = made;
      count = omega (arith, c.loop-wanted.invariant.count);
      ends = rw c.in_ok-push.ensures.items (ends_next (by_number c.args.level.now) c.args.candidates.now c.loop-wanted.ends.items c.put_level.new.order.items c.loop-wanted.wanted c.len.result
          c.loop-wanted.invariant.count c.loop-wanted.invariant.ends made counted);
    }
