-- One argument after another.
use Rattle.mo_syntax.specs.declared.class.ArgumentOf.{ArgumentOf}
use Rattle.mo_syntax.specs.declared.class.Give.{Give}
use Rattle.mo_scope.specs.Mentions.{By_argument, if_of, mention_by, mentions_held}
use Rattle.mo_scope.proofs.Sayings.{gathered_more, gathered_all}
use Rattle.mo_scope.proofs.mentions.Mentions.add_list.Goals as goal

pub loop-argument-preserved : goal.loop-argument-preserved
loop-argument-preserved c = λ other.
    gathered_more (λ (argument : ArgumentOf Give). if_of other (mention_by c.args.source (By_argument argument)))
    (mentions_held c.args.self.now other) (mentions_held c.loop-argument.self other) (mentions_held c.add.new.self other)
    c.args.list.now c.loop-argument.argument-index c.argument-item.result c.loop-argument-test.true c.argument-item.is
    (c.loop-argument.invariant other) (c.in_ok-add.ensures other)

pub returns : goal.returns
returns c = λ other.
    gathered_all (λ (argument : ArgumentOf Give). if_of other (mention_by c.args.source (By_argument argument)))
    (mentions_held c.args.self.now other) (mentions_held c.loop-argument.self other)
    c.args.list.now c.loop-argument.argument-index c.loop-argument-test.false (c.loop-argument.invariant other)
