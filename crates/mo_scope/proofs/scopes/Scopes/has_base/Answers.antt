-- What stands beside the row of a class tells whether it has a clause.
use Rattle.std.proofs.Common.{ap, sym, ◌∙◌}
use Rattle.std.specs.Prelude.{option_copied}
use Rattle.mo_scope.specs.Extending.{is_extending}
use Rattle.mo_scope.specs.Rows.{row_at, table_of}
use Rattle.mo_scope.specs.Worlds.{table_in}
use Rattle.mo_scope.proofs.OwnNaming.{extending_beside}
use Rattle.mo_scope.proofs.RowsFound.{predefined}
use Rattle.mo_scope.proofs.scopes.Scopes.has_base.Goals as goal

pub returns-then-class-lt6 : goal.returns-then-class-lt6
returns-then-class-lt6 c = ap is_extending (sym (predefined c.args.self.now.files c.class_of-class.result.0 c.if-class-lt6.true)) ∙ ap (λ n. is_extending (row_at (table_in c.args.self.now) n)) c.class_of-class.ensures.is

pub returns-in-Some : goal.returns-in-Some
returns-in-Some c = extending_beside c.args.self.now.files c.self.inside.classes.rows c.self.inside.classes.extending c.class_of-class.result.0 _ (sym (ap option_copied c.in-Some.is) ∙ c.get.ensures)
    c.self.invariant.classes.extending (c.self.invariant.classes.rows ∙ ap (λ w. table_of w.files) c.self.view_is) c.if-class-lt6.false
    ∙ ap (λ n. is_extending (row_at (table_in c.args.self.now) n)) c.class_of-class.ensures.is

pub returns-in-None : goal.returns-in-None
returns-in-None c = extending_beside c.args.self.now.files c.self.inside.classes.rows c.self.inside.classes.extending c.class_of-class.result.0 _ (sym (ap option_copied c.in-None.is) ∙ c.get.ensures)
    c.self.invariant.classes.extending (c.self.invariant.classes.rows ∙ ap (λ w. table_of w.files) c.self.view_is) c.if-class-lt6.false
    ∙ ap (λ n. is_extending (row_at (table_in c.args.self.now) n)) c.class_of-class.ensures.is
