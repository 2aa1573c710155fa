-- What was put is the paths so far.
use Rattle.std.proofs.Common.{◌≡◌, ◌++◌, flat_map, map, take}
use Rattle.mo_mods.specs.PathSights.{claim_seen}
use Rattle.mo_instance.specs.Passes.{argument_claims}
use Rattle.mo_instance.proofs.own.put_list.Given as goal

abbrev pub invariant-loop-argument : goal.invariant-loop-argument
invariant-loop-argument l = map claim_seen l.made ≡ map claim_seen l.initial.made ++ flat_map argument_claims (take l.argument-index l.list)
