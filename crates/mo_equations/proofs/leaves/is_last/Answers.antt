use Rattle.mo_equations.proofs.Around.{ends_at}
use Rattle.mo_equations.proofs.leaves.is_last.Goals as goal

pub returns-in-len1-up : goal.returns-in-len1-up
returns-in-len1-up c = ends_at c.args.numbers.now c.args.number c.in-len1-up.len_at_least
