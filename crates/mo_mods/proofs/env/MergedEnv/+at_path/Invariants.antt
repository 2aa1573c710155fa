-- How many names are left.
use Rattle.std.proofs.Common.{◌-◌, length}
use Rattle.mo_mods.proofs.env.MergedEnv.+at_path.Given as goal

abbrev pub decreases-at_path : goal.decreases-at_path
decreases-at_path l = length l.path.now - l.passed
