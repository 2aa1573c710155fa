-- One more row.
use Rattle.mo_scope.specs.Held.{number_held, group_held, row_with}
use Rattle.mo_scope.specs.steps.Listed.{class_seen}
use Rattle.mo_scope.specs.Sights.{row_seen}
use Rattle.mo_scope.proofs.Keys.{mapped_more}
use Rattle.mo_scope.proofs.making.rows_of.Goals as goal

pub loop-class-preserved : goal.loop-class-preserved
loop-class-preserved c =
    mapped_more class_seen (row_with (number_held c.args.places.now) (group_held c.args.groups.now)) row_seen c.args.classes.now c.loop-class.class-index c.class-item.result c.loop-class.rows c.push.new.self c.in_ok-row_of.field-0
    c.loop-class-test.true c.class-item.is c.loop-class.invariant c.in_ok-row_of.ensures c.in_ok-push.ensures.ok
