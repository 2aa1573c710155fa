-- The paths so far are put, and what was found with what is left is what all give.
use Rattle.std.proofs.Common.{◌≡◌, ◌++◌, List, [], drop, map, take}
use Rattle.mo_syntax.specs.ClassTable.{otherwise}
use Rattle.mo_scope.specs.Arguments.{Asked}
use Rattle.mo_mods.specs.Passes.{all_paths, first_repeated, paths_of}
use Rattle.mo_mods.specs.PathSights.{HasPaths, asked_seen, claim_seen}
use Rattle.mo_mods.proofs.passes.first_repeated.Given as goal

abbrev pub invariant-loop-claim : goal.invariant-loop-claim
invariant-loop-claim l = (before : List Asked) → HasPaths l.initial.seen (all_paths before) →
    HasPaths l.seen (all_paths before ++ paths_of (asked_seen l.asked).listing (map claim_seen (take l.claim-index l.claim-items)))
    × (otherwise l.found (first_repeated before (asked_seen l.asked).listing (map claim_seen (take l.claim-index l.claim-items)) (map claim_seen (drop l.claim-index l.claim-items)))
    ≡ first_repeated before (asked_seen l.asked).listing [] (asked_seen l.asked).claims)
