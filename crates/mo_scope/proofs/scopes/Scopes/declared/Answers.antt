-- A class that is declared exists.
use Rattle.std.proofs.Common.{◌<◌, ap, sym, subst, ◌∙◌}
use Rattle.mo_scope.specs.Rows.{number_of_classes, class_number, declared_by}
use Rattle.mo_scope.specs.Worlds.{table_in}
use Rattle.mo_scope.proofs.RowsFound.{declared_exists}
use Rattle.mo_scope.proofs.scopes.Scopes.declared.Goals as goal

pub returns-clause-exists : goal.returns-clause-exists
returns-clause-exists c = subst (λ d. class_number d < number_of_classes (table_in c.args.self.now))
    (sym (c.declared_by.ensures ∙ ap (declared_by c.args.element.now) c.number_of_element.ensures))
    (declared_exists c.args.self.now.files c.args.element.now)
