use Rattle.mo_alias.proofs.Counting.{count_more, number_more}
use Rattle.mo_alias.proofs.numbers.numbers_among.Goals as goal

pub loop-v-preserved : goal.loop-v-preserved
loop-v-preserved c = (
  number_more c.args.vars.now c.loop-v.v-index c.v-item.result c.loop-v-test.true c.v-item.is c.loop-v.count c.in_ok-count.count c.loop-v.numbers.items c.put_number.new.numbers.items _
      c.in_ok-count.ensures.put c.in_ok-count.ensures.count c.loop-v.invariant.0,
  count_more c.args.vars.now c.loop-v.v-index c.v-item.result c.loop-v-test.true c.v-item.is c.loop-v.count c.in_ok-count.count _ c.in_ok-count.ensures.count c.loop-v.invariant.1,
)
