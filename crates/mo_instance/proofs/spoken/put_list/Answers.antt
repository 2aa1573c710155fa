-- One argument after another.
use Rattle.std.proofs.Common.{map}
use Rattle.mo_syntax.specs.declared.class.ArgumentOf.{ArgumentOf}
use Rattle.mo_syntax.specs.declared.class.Give.{Give}
use Rattle.mo_scope.specs.Sights.{source_seen}
use Rattle.mo_scope.specs.Spoken.{spoken_argument}
use Rattle.mo_scope.specs.Worlds.{source_in, table_in}
use Rattle.mo_scope.proofs.Sayings.{gathered_all, gathered_more}
use Rattle.mo_instance.specs.steps.Speeches.{speech_of, speech_seen}
use Rattle.mo_instance.proofs.spoken.put_list.Goals as goal

pub loop-argument-preserved : goal.loop-argument-preserved
loop-argument-preserved c = λ frames.
    gathered_more (λ (argument : ArgumentOf Give). map speech_of (spoken_argument (table_in c.args.scopes.now) (source_in frames (source_seen c.args.source.now)) argument))
    (map speech_seen c.args.made.now) (map speech_seen c.loop-argument.made) (map speech_seen c.put_argument.new.made)
    c.args.list.now c.loop-argument.argument-index c.argument-item.result c.loop-argument-test.true c.argument-item.is (c.loop-argument.invariant frames) (c.in_ok-put_argument.ensures frames)

pub returns : goal.returns
returns c = λ frames.
    gathered_all (λ (argument : ArgumentOf Give). map speech_of (spoken_argument (table_in c.args.scopes.now) (source_in frames (source_seen c.args.source.now)) argument))
    (map speech_seen c.args.made.now) (map speech_seen c.loop-argument.made) c.args.list.now c.loop-argument.argument-index c.loop-argument-test.false (c.loop-argument.invariant frames)
