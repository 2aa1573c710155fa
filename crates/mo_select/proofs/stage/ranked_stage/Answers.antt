use Rattle.std.proofs.Common.{◌∙◌, ap, length, arith}
use Rattle.mo_select.proofs.Ranks.{ranks_low}
use Rattle.mo_select.proofs.stage.ranked_stage.Goals as goal

pub chosen_among-requires-clause-ranks : goal.chosen_among-requires-clause-ranks
chosen_among-requires-clause-ranks c = λ j.
    let low = ranks_low c.args.order.now c.args.rank.now c.requires.ranks j in
    omega (arith, c.in_ok-pairs.ensures.size, ap length c.deref.ensures.value)

pub chosen_among-requires-clause-numbers : goal.chosen_among-requires-clause-numbers
chosen_among-requires-clause-numbers c = rw c.deref.ensures.value c.in_ok-pairs.ensures.low

pub chosen_among-requires-clause-places : goal.chosen_among-requires-clause-places
chosen_among-requires-clause-places c = λ e l. omega (arith, c.requires.active e l)

pub returns : goal.returns
returns c =
    let chosen = rw c.in_ok-chosen.ensures.values.0 at c.chosen_among.ensures in
    let evidence = rw c.in_ok-chosen.ensures.values.1 at c.evidence.ensures in
    record {
      pairs = c.in_ok-pairs.pairs.items;
      greedy = c.in_ok-pairs.ensures;
      chosen = rw c.deref.ensures.value at chosen;
      evidence = rw c.deref-2.ensures.value at evidence;
    }

pub evidence-requires-clause-pairs : goal.evidence-requires-clause-pairs
evidence-requires-clause-pairs c = (
  ap length c.deref-2.ensures.value ∙ c.in_ok-pairs.ensures.size,
  omega (arith, ap length c.deref-2.ensures.value, c.in_ok-pairs.ensures.size, c.in_ok-pairs.ensures.few),
)
