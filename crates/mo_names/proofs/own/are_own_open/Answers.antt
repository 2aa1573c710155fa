-- Elements may stand in a package by what declares them.
use Rattle.mo_scope.specs.Worlds.{frame_at, table_in}
use Rattle.mo_names.proofs.OwnNamed.{open_row}
use Rattle.mo_names.proofs.own.are_own_open.Goals as goal

pub returns-in-Some : goal.returns-in-Some
returns-in-Some c = open_row (table_in c.args.s.now) (frame_at c.args.s.now c.args.frame.0) c.class_of.result.0 c.in-Some.row.now c.as_slice.result.now c.are_open.result c.class_of.ensures.is c.in-Some.ensures.is c.as_slice.ensures c.are_open.ensures
