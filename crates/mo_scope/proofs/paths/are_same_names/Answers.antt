-- Paths of other lengths are not one.
use Rattle.mo_scope.proofs.AlikePaths.{other_names}
use Rattle.mo_scope.proofs.paths.are_same_names.Goals as goal

pub returns-then-a-b : goal.returns-then-a-b
returns-then-a-b c = other_names c.args.a.now c.args.b.now c.if-a-b.true
