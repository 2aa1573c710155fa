-- The final paths so far are put.
use Rattle.std.proofs.Common.{◌++◌, List, map, take}
use Rattle.mo_mods.specs.Passes.{Listed_path, finals_of}
use Rattle.mo_mods.specs.PathSights.{HasPaths, asked_seen, claim_seen}
use Rattle.mo_mods.proofs.passes.add_finals.Given as goal

abbrev pub invariant-loop-claim : goal.invariant-loop-claim
invariant-loop-claim l = (paths : List Listed_path) → HasPaths l.initial.finals paths →
    HasPaths l.finals (paths ++ finals_of (asked_seen l.asked).listing (map claim_seen (take l.claim-index l.claim-items)))
