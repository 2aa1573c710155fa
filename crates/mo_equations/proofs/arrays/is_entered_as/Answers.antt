-- The component is an element that its class declares itself.
use Rattle.mo_equations.proofs.arrays.is_entered_as.Goals as goal

pub entered_component-requires : goal.entered_component-requires
entered_component-requires c = c.requires.own
