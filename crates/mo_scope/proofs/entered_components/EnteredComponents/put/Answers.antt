-- One component more is held.
use Rattle.mo_scope.proofs.KeptComponents.{one_component_more}
use Rattle.mo_scope.proofs.entered_components.EnteredComponents.put.Goals as goal

pub returns : goal.returns
returns c = one_component_more _ _ c.in_ok-made.made _ _ _ c.in_ok-push.ensures.items c.in_ok-made.ensures
