use Rattle.mo_arrays.proofs.SoundEquations.{equations_are}
use Rattle.mo_arrays.proofs.laws.equations_are_sound.Goals as goal

pub returns : goal.returns
returns c = equations_are
