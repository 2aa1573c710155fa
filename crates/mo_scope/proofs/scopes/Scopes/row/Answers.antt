-- The rows stand in the order of their numbers.
use Rattle.std.proofs.Common.{◌-◌, ap, sym, ◌∙◌}
use Rattle.mo_scope.specs.Rows.{table_of}
use Rattle.mo_scope.specs.Sights.{row_seen}
use Rattle.mo_scope.proofs.RowsFound.{predefined, row_held, parts_held}
use Rattle.mo_scope.proofs.scopes.Scopes.row.Goals as goal

pub returns-then-class-lt6-clause-is : goal.returns-then-class-lt6-clause-is
returns-then-class-lt6-clause-is c = sym (predefined c.args.self.now.files c.args.class.0 c.if-class-lt6.true)

pub returns-clause-is : goal.returns-clause-is
returns-clause-is c =
    row_held row_seen c.args.self.now.files c.self.inside.classes.rows c.get.result c.args.class.0
    (c.self.invariant.classes.rows ∙ ap (λ w. table_of w.files) c.self.view_is) c.if-class-lt6.false
    c.get.ensures

pub returns-clause-exist : goal.returns-clause-exist
returns-clause-exist c =
    parts_held row_seen c.args.self.now.files c.self.inside.classes.rows c.get.result (c.args.class.0 - 6)
    (c.self.invariant.classes.rows ∙ ap (λ w. table_of w.files) c.self.view_is)
    c.get.ensures
