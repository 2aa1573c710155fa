-- What is said of those that are left is said of all.
use Rattle.std.proofs.Common.{◌≡◌, drop, map}
use Rattle.mo_mods.specs.PathSights.{claim_seen}
use Rattle.mo_instance.specs.steps.FirstPass.{is_in}
use Rattle.mo_instance.proofs.first_pass.is_in.Given as goal

abbrev pub invariant-loop-other : goal.invariant-loop-other
invariant-loop-other l = is_in (map claim_seen (drop l.other-index l.own)) (claim_seen l.claim) ≡ is_in (map claim_seen l.own) (claim_seen l.claim)
