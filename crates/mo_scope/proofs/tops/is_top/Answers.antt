-- A path is empty where it has no names.
use Rattle.std.proofs.Common.{[], ap, sym, ◌∙◌, ◌&&◌, map}
use Rattle.mo_syntax.specs.ClassTable.{path_eq}
use Rattle.mo_scope.specs.Rows.{is_top_class}
use Rattle.mo_scope.specs.Sights.{row_seen, home_seen}
use Rattle.mo_scope.proofs.RowsFound.{is_first}
use Rattle.mo_scope.proofs.tops.is_top.Goals as goal

pub returns-in-Under : goal.returns-in-Under
returns-in-Under c =
    sym (ap (λ home. is_top_class (record (row_seen c.args.row.now) { home = home_seen home })) c.in-Under.is
    ∙ ap (λ b. b && path_eq (map (λ name. name.now) c.in-Under.path) []) c.if-not-row.false
    ∙ is_first c.in-Under.path (λ name. name.now) c.is_empty.result c.is_empty.ensures)
