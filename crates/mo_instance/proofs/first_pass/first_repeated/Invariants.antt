-- The first of those that are left is the first of all.
use Rattle.std.proofs.Common.{◌≡◌, drop, map}
use Rattle.mo_mods.specs.PathSights.{claim_seen}
use Rattle.mo_instance.specs.steps.FirstPass.{first_repeated}
use Rattle.mo_instance.proofs.first_pass.first_repeated.Given as goal

abbrev pub invariant-loop-claim : goal.invariant-loop-claim
invariant-loop-claim l = first_repeated (map claim_seen l.own) (map claim_seen (drop l.claim-index l.claims)) ≡ first_repeated (map claim_seen l.own) (map claim_seen l.claims)
