use Rattle.std.proofs.Common.{refl}
use Rattle.mo_front.specs.steps.Structure.{fewer_equations}
use Rattle.mo_front.proofs.structure.with_fewer.Goals as goal

pub returns : goal.returns
returns c = fewer_equations c.args.offsets c.requires.fewer refl refl c.requires.least c.requires.loose
