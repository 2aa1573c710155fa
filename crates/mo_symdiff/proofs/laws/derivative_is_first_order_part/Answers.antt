use Rattle.mo_symdiff.proofs.DualLaw.{slope_is_part, still_is_constant, value_is_value}
use Rattle.mo_symdiff.proofs.laws.derivative_is_first_order_part.Goals as goal

pub returns-clause-part : goal.returns-clause-part
returns-clause-part c = λ I vars e. slope_is_part I vars e

pub returns-clause-value : goal.returns-clause-value
returns-clause-value c = λ I vars e. value_is_value I vars e

pub returns-clause-constant : goal.returns-clause-constant
returns-clause-constant c = λ I vars e. still_is_constant I vars e
