-- The names of one row more.
use Rattle.mo_scope.proofs.OwnNaming.{owns_taken}
use Rattle.mo_scope.proofs.own_names.own_names_of.Goals as goal

pub loop-row-preserved : goal.loop-row-preserved
loop-row-preserved c =
    owns_taken c.args.rows.now c.loop-row.row-index c.row-item.result c.loop-row.owns c.push.new.self c.in_ok-named.field-0 c.as_slice.result.now
    c.loop-row-test.true c.row-item.is c.loop-row.invariant c.as_slice.ensures c.in_ok-named.ensures c.in_ok-push.ensures.ok
