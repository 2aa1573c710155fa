use Rattle.mo_verify.proofs.Comparing.{cut_at}
use Rattle.mo_verify.proofs.compare.without_feed.Goals as goal

pub returns : goal.returns
returns c = cut_at c.args.line.now c.feed_at-len.result c.feed_at-len.ensures.value
