-- The first of those that exist exists.
use Rattle.mo_scope.proofs.Scoped.{first_real}
use Rattle.mo_scope.proofs.scopes.Scopes.redeclared.Goals as goal

pub returns-clause-exists : goal.returns-clause-exists
returns-clause-exists c = first_real c.args.self.now c.in_ok-found.found c.first.result c.first.ensures c.in_ok-found.ensures.exist
