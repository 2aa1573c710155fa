-- One class more is held.
use Rattle.mo_scope.proofs.KeptClasses.{one_class_more}
use Rattle.mo_scope.proofs.found_classes.FoundClasses.put.Goals as goal

pub returns : goal.returns
returns c = one_class_more _ _ c.in_ok-made.made _ _ _ c.in_ok-push.ensures.items c.in_ok-made.ensures
