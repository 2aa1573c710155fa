-- What is held, if it is of that array.
use Rattle.std.proofs.Common.{Option, sym, subst}
use Rattle.mo_equations.specs.declared.desk.ValueBinding.{ValueBinding}
use Rattle.mo_equations.specs.steps.Desks.{Stays}
use Rattle.mo_equations.proofs.Staying.{without_read}
use Rattle.mo_equations.proofs.array_values.taken.Goals as goal

pub returns-clause-stays : goal.returns-clause-stays
returns-clause-stays c =
    subst (λ (read : Option ValueBinding). Stays c.args.s.now c.args.s.now c.args.desk.now (record c.args.desk.now { read = read })) (sym c.take.ensures.after)
    (without_read c.args.s.now c.args.desk.now c.requires)
