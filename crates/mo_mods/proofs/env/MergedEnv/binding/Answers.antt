-- The frame in which the value is looked up exists.
use Rattle.mo_mods.proofs.Existing.{found_exists}
use Rattle.mo_mods.proofs.env.MergedEnv.binding.Goals as goal

pub returns-clause-exists : goal.returns-clause-exists
returns-clause-exists c = λ world exist. found_exists world c.args.self.now c.args.path.now c.found.result c.found.ensures exist
