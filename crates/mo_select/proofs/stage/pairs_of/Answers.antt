use Rattle.mo_incidence.specs.Offsets.{by_place, by_number}
use Rattle.mo_select.proofs.Tying.{greedy_choice}
use Rattle.mo_select.proofs.stage.pairs_of.Goals as goal

pub returns : goal.returns
returns c =
    let of = c.in-Ok.ensures.ok in
    greedy_choice c.args.inc.now (by_place c.args.remaining.now.c.now) (by_number c.args.remaining.now.d.now) c.args.remaining.now.active.now c.args.order.now _ c.deref.result.now
    (rw c.deref.ensures.value c.in_ok-rows.ensures) c.in-Ok.ensures.sound _ (rw of at c.in_ok-pairs.ensures.length) (rw of at c.in_ok-pairs.ensures.greedy)
