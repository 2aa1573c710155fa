-- One source after another.
use Rattle.mo_mods.specs.Sights.{left_in, left_of_source}
use Rattle.mo_mods.proofs.Grouping.{mapped_more}
use Rattle.mo_mods.proofs.left.lefts_of.Goals as goal

pub loop-source-preserved : goal.loop-source-preserved
loop-source-preserved c = λ frames.
    mapped_more (left_in frames) (left_of_source frames) c.loop-source.made c.push.new.self c.left_of.result c.args.sources.now c.loop-source.source-index c.source-item.result
    c.loop-source-test.true c.source-item.is c.in_ok-push.ensures.ok (c.left_of.ensures frames) (c.loop-source.invariant frames)
