-- One argument after another.
use Rattle.mo_scope.specs.Worlds.{table_in}
use Rattle.mo_mods.specs.Left.{argument_says}
use Rattle.mo_mods.specs.Sights.{left_in, said_held}
use Rattle.mo_scope.proofs.Sayings.{gathered_more, gathered_all}
use Rattle.mo_mods.proofs.groups.put_list.Goals as goal

pub loop-argument-preserved : goal.loop-argument-preserved
loop-argument-preserved c = λ frames other.
    gathered_more (argument_says (table_in c.args.scopes.now) other (left_in frames c.args.left.now))
    (said_held frames c.args.groups.now other) (said_held frames c.loop-argument.groups other) (said_held frames c.put_argument.new.groups other)
    c.args.list.now c.loop-argument.argument-index c.argument-item.result c.loop-argument-test.true c.argument-item.is
    (c.loop-argument.invariant frames other) (c.in_ok-put_argument.ensures frames other)

pub returns : goal.returns
returns c = λ frames other.
    gathered_all (argument_says (table_in c.args.scopes.now) other (left_in frames c.args.left.now))
    (said_held frames c.args.groups.now other) (said_held frames c.loop-argument.groups other)
    c.args.list.now c.loop-argument.argument-index c.loop-argument-test.false (c.loop-argument.invariant frames other)
