-- One connect alone.
use Rattle.mo_equations.specs.Gathering.{nothing}
use Rattle.mo_equations.proofs.forms.one_connect.Goals as goal

pub returns : goal.returns
returns c = c.in_ok-push_connect.ensures nothing c.new-made.ensures
