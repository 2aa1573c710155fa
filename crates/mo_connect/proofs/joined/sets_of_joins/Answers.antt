use Rattle.std.proofs.Common.{arith}
use Rattle.mo_connect.proofs.joined.sets_of_joins.Goals as goal

pub gather-requires : goal.gather-requires
gather-requires c =
    let labels = c.in_ok-numbered.ensures in
    let table = c.in_ok-told.ensures in
    let size = labels.length_is in
    let same = table.length_is in
    let small = c.bound-size.ensures.small in
    rw (c.deref.ensures.value, c.deref-2.ensures.value) (record { forest = labels.low; small = omega arith; table = omega arith })

pub returns : goal.returns
returns c = record {
  bound = c.bound-size.result;
  labels = c.in_ok-numbered.numbered.items;
  table = c.in_ok-told.told.items;
  below = c.bound-size.ensures.joins;
  flows_below = c.bound-size.ensures.flows;
  labels_are = c.in_ok-numbered.ensures;
  table_is = c.in_ok-told.ensures;
  is = rw (c.deref.ensures.value, c.deref-2.ensures.value) at c.in_ok-sets.ensures;
}
