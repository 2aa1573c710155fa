-- The row with so many others before it.
use Rattle.std.proofs.Common.{refl, arith}
use Rattle.mo_scope.specs.Rows.{number_of_classes}
use Rattle.mo_scope.specs.Sights.{row_seen}
use Rattle.mo_scope.specs.Worlds.{table_in}
use Rattle.mo_instance.specs.Instances.{is_placed}
use Rattle.mo_instance.specs.steps.Roots.{names_seen}
use Rattle.mo_instance.proofs.Rooting.{absent_is, class_below, placed_is, rows_numbered}
use Rattle.mo_instance.proofs.root.placed_at.Goals as goal

pub returns-in-Some-clause-is : goal.returns-in-Some-clause-is
returns-in-Some-clause-is c =
    placed_is (is_placed (names_seen c.args.before.now) c.args.name.now) (table_in c.args.s.now) c.args.at c.in_ok-number.number (rows_numbered c.args.s.now.files) (omega (arith, c.in_ok-number.ensures))
    (row_seen c.in-Some.row.now) _ _ refl c.in-Some.ensures.is c.class_if_placed.ensures

pub returns-in-Some-clause-exists : goal.returns-in-Some-clause-exists
returns-in-Some-clause-exists c = class_below _ _ (is_placed (names_seen c.args.before.now) c.args.name.now (row_seen c.in-Some.row.now)) (number_of_classes (table_in c.args.s.now)) (omega (arith, c.in_ok-number.ensures, c.requires)) c.class_if_placed.ensures

pub returns-in-None-clause-is : goal.returns-in-None-clause-is
returns-in-None-clause-is c =
    absent_is (is_placed (names_seen c.args.before.now) c.args.name.now) (table_in c.args.s.now) c.args.at c.in_ok-number.number (rows_numbered c.args.s.now.files) (omega (arith, c.in_ok-number.ensures)) c.in-None.ensures.is
