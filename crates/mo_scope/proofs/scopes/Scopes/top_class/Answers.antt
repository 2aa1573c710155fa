-- A class at the top is found by its name, and exists.
use Rattle.std.proofs.Common.{◌≡◌, find, ap, ◌∙◌}
use Rattle.std.specs.Prelude.{option_map}
use Rattle.std.specs.Str.{bytes_eq}
use Rattle.mo_scope.specs.Rows.{table_of, top_classes}
use Rattle.mo_scope.specs.Worlds.{table_in}
use Rattle.mo_scope.proofs.RowsFound.{top_exists}
use Rattle.mo_scope.proofs.scopes.Scopes.top_class.Goals as goal

found : (c : goal.After-class) → option_map (λ class. class.0) c.class.result ≡ option_map (λ row. row.number) (find (λ row. bytes_eq row.class.name c.args.name.now) (top_classes (table_in c.args.self.now)))
found c = c.class.ensures ∙ c.self.invariant.classes.tops c.args.name.now
    ∙ ap (λ w. option_map (λ row. row.number) (find (λ row. bytes_eq row.class.name c.args.name.now) (top_classes (table_of w.files)))) c.self.view_is

pub returns-clause-is : goal.returns-clause-is
returns-clause-is c = found c

pub returns-clause-exists : goal.returns-clause-exists
returns-clause-exists c = top_exists (λ class. class.0) c.args.self.now.files (λ row. bytes_eq row.class.name c.args.name.now) c.class.result (found c)
