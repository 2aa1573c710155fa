use Rattle.std.proofs.Common.{refl}
use Rattle.mo_front.specs.steps.Structure.{as_many}
use Rattle.mo_front.proofs.structure.with_equal.Goals as goal

pub returns : goal.returns
returns c = as_many c.args.offsets c.requires.square refl refl c.requires.least c.requires.reasons
