-- No variable was asked of.
use Rattle.std.proofs.Common.{refl}
use Rattle.mo_equations.proofs.InTurn.{none_replaced}
use Rattle.mo_equations.proofs.resolutions.with_layers.Goals as goal

pub returns-in-Some : goal.returns-in-Some
returns-in-Some c = record {
  resolved = refl;
  layers = rw c.in-Some.is at c.in_ok-layers.ensures.layers;
  unasked = λ replace. rw c.in_ok-replaced.ensures (none_replaced replace _);
}
