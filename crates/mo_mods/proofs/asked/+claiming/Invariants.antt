-- A list goes on into its arguments, and an argument into its list.
use Rattle.std.proofs.Common.{◌≡◌, ◌+◌, ◌*◌, ◌++◌, map, take}
use Rattle.mo_mods.specs.Passes.{nested_claims}
use Rattle.mo_mods.specs.PathSights.{claim_seen}
use Rattle.mo_mods.proofs.asked.+claiming.Given as goal

abbrev pub invariant-put_nested-loop-argument : goal.invariant-put_nested-loop-argument
invariant-put_nested-loop-argument l =
    map claim_seen l.made ≡ map claim_seen l.initial.made ++ nested_claims (take l.argument-index l.list) (map (λ name. name.now) l.path) l.last

abbrev pub decreases-put_claims : goal.decreases-put_claims
decreases-put_claims l = 2 * goal.size-put_claims l + 0

abbrev pub decreases-put_nested : goal.decreases-put_nested
decreases-put_nested l = 2 * goal.size-put_nested l + 1
