use Rattle.mo_values.proofs.answers.gather.Goals as goal

pub returns-else-before : goal.returns-else-before
returns-else-before c = rw c.if-before.false c.sum.ensures
