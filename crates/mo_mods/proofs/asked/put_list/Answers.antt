-- One argument after another.
use Rattle.std.proofs.Common.{◌++◌, map, ap, ◌∙◌, take_all}
use Rattle.std.proofs.lemmas.Result.{IfOk-weaker}
use Rattle.mo_scope.specs.Arguments.{asked_argument}
use Rattle.mo_scope.specs.Sights.{source_seen}
use Rattle.mo_scope.specs.Worlds.{source_in}
use Rattle.mo_mods.specs.PathSights.{asked_seen}
use Rattle.mo_scope.proofs.Sayings.{pushed_more}
use Rattle.mo_mods.proofs.Claims.{gathered_one}
use Rattle.mo_mods.proofs.asked.put_list.Goals as goal

pub loop-argument-preserved : goal.loop-argument-preserved
loop-argument-preserved c = λ frames.
    gathered_one (asked_argument (source_in frames (source_seen c.args.source.now))) (map asked_seen c.args.made.now) (map asked_seen c.loop-argument.made) (map asked_seen c.pushed.new.list)
    c.args.list.now c.loop-argument.argument-index c.argument-item.result c.loop-argument-test.true c.argument-item.is (c.loop-argument.invariant frames)
    (pushed_more asked_seen c.asked_argument.result _ c.loop-argument.made c.pushed.new.list
    (IfOk-weaker c.asked_argument.result _ _ (λ _ is. is frames) c.asked_argument.ensures) c.in_ok-pushed.ensures.value)

pub returns : goal.returns
returns c = λ frames.
    c.loop-argument.invariant frames
    ∙ ap (λ list. map asked_seen c.args.made.now ++ map (asked_argument (source_in frames (source_seen c.args.source.now))) list)
    (take_all c.loop-argument.argument-index c.args.list.now c.loop-argument-test.false)
