use Rattle.mo_connect.proofs.SoundSets.{made_sound}
use Rattle.mo_connect.proofs.equations.set_equations.Goals as goal

pub returns-clause-sound : goal.returns-clause-sound
returns-clause-sound c = λ vars numeric. made_sound vars c.args.sets.now c.gathered.result numeric c.gathered.ensures
