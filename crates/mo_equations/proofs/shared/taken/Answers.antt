-- One of those that are held, and the others.
use Rattle.mo_equations.specs.steps.Sharing.{IsShared}
use Rattle.mo_equations.proofs.Lists.{every_at}
use Rattle.mo_equations.proofs.SharedExpressions.{without}
use Rattle.mo_equations.proofs.Staying.{with_shared}
use Rattle.mo_equations.proofs.shared.taken.Goals as goal

pub returns-clause-stays : goal.returns-clause-stays
returns-clause-stays c =
    with_shared c.args.s.now c.args.desk.now c.remove.new.self c.requires
    (without c.args.s.now c.args.desk.now.leaves c.args.desk.now.shared.items c.remove.new.self.items c.in-Some.place c.remove.ensures.by_index.2 c.requires.shared)

pub returns-clause-shared : goal.returns-clause-shared
returns-clause-shared c =
    every_at (IsShared c.args.s.now c.args.desk.now.leaves) c.args.desk.now.shared.items c.in-Some.place c.remove.result c.requires.shared c.in-Some.ensures.inside c.remove.ensures.value

pub returns-clause-by : goal.returns-clause-by
returns-clause-by c = c.in-Some.ensures.is c.remove.result c.remove.ensures.value
