-- One more class.
use Rattle.std.proofs.Common.{map, ap, ◌∙◌, ◌++◌, take_all, arith}
use Rattle.mo_scope.specs.Held.{placed_by, placed_among}
use Rattle.mo_scope.specs.steps.Listed.{class_seen}
use Rattle.mo_scope.specs.Rows.{placed_part}
use Rattle.mo_scope.proofs.Keys.{placed_more}
use Rattle.mo_scope.proofs.groups.groups_of.Goals as goal

pub loop-class-preserved : goal.loop-class-preserved
loop-class-preserved c = λ path.
    c.in_ok-add.ensures path ∙ ap (λ l. l ++ map placed_part (placed_by path (class_seen c.class-item.result))) (c.loop-class.invariant path)
    ∙ placed_more class_seen path c.args.classes.now c.loop-class.class-index c.class-item.result c.loop-class-test.true c.class-item.is

pub returns : goal.returns
returns c = λ path. c.loop-class.invariant path
    ∙ ap (λ l. map placed_part (placed_among path (map class_seen l))) (take_all c.loop-class.class-index c.args.classes.now (omega arith))
