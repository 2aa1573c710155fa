use Rattle.mo_arrays.proofs.SoundEquations.{element_is}
use Rattle.mo_arrays.proofs.laws.elements_are_sound.Goals as goal

pub returns : goal.returns
returns c = element_is
