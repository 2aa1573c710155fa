-- What is kept, if it is of that array.
use Rattle.std.proofs.Common.{Option, sym, subst}
use Rattle.mo_equations.specs.declared.desk.ArrayBinding.{ArrayBinding}
use Rattle.mo_equations.specs.steps.Desks.{Stays}
use Rattle.mo_equations.proofs.Staying.{without_binding}
use Rattle.mo_equations.proofs.arrays.taken.Goals as goal

pub returns-clause-stays : goal.returns-clause-stays
returns-clause-stays c =
    subst (λ (binding : Option ArrayBinding). Stays c.args.s.now c.args.s.now c.args.desk.now (record c.args.desk.now { binding = binding })) (sym c.take.ensures.after)
    (without_binding c.args.s.now c.args.desk.now c.requires)
