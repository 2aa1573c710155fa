use Rattle.std.proofs.Common.{ℕ, slice_index, ◌∙◌, arith}
use Rattle.mo_graph.proofs.Lists.{members_next}
use Rattle.mo_graph.proofs.list.list_blocks.Goals as goal

pub loop-i-preserved : goal.loop-i-preserved
loop-i-preserved c = record {
  count = c.in_ok-put.ensures.count ∙ c.loop-i.invariant.count;
  members = members_next _ _ (λ (i : ℕ). slice_index c.args.placed.now (slice_index c.args.leader.now i)) c.loop-i.i c.args.count c.loop-i.invariant.members c.in_ok-put.ensures.more c.in_ok-put.ensures.others (c.requires.placed c.loop-i.i (omega arith)).0;
}
