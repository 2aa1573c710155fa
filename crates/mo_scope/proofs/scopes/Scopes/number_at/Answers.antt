-- A class is found where its name stands, and exists.
use Rattle.std.proofs.Common.{◌≡◌, ◌<◌, ap, sym, subst, ◌∙◌}
use Rattle.mo_scope.specs.Rows.{number_at, number_of_classes, table_of}
use Rattle.mo_scope.specs.Worlds.{table_in}
use Rattle.mo_scope.proofs.RowsFound.{number_at_exists}
use Rattle.mo_scope.proofs.scopes.Scopes.number_at.Goals as goal

found : (c : goal.After-number_at) → c.number_at.result ≡ number_at (table_in c.args.self.now) c.args.place
found c = c.number_at.ensures ∙ c.self.invariant.classes.places c.args.place ∙ ap (λ w. number_at (table_of w.files) c.args.place) c.self.view_is

pub returns-clause-is : goal.returns-clause-is
returns-clause-is c = found c

pub returns-clause-exists : goal.returns-clause-exists
returns-clause-exists c = subst (λ n. n < number_of_classes (table_in c.args.self.now)) (sym (found c)) (number_at_exists c.args.self.now.files c.args.place)
