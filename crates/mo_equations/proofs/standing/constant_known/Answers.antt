-- The reader reads more.
use Rattle.mo_equations.proofs.Staying.{reads}
use Rattle.mo_equations.proofs.standing.constant_known.Goals as goal

pub returns-then-has_values-clause-stays : goal.returns-then-has_values-clause-stays
returns-then-has_values-clause-stays c =
    reads c.args.s.now c.value_of_element.new.s c.args.desk.now c.value_of_element.new.self c.value_of_element.ensures.grows c.value_of_element.ensures.kept c.requires.desk
