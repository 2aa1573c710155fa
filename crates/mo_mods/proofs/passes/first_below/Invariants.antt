-- What was found with what is left is what all give.
use Rattle.std.proofs.Common.{◌≡◌, List, drop, map}
use Rattle.mo_syntax.specs.ClassTable.{otherwise}
use Rattle.mo_scope.specs.Arguments.{Asked}
use Rattle.mo_mods.specs.Passes.{all_finals, first_below}
use Rattle.mo_mods.specs.PathSights.{HasPaths, asked_seen, claim_seen}
use Rattle.mo_mods.proofs.passes.first_below.Given as goal

abbrev pub invariant-loop-claim : goal.invariant-loop-claim
invariant-loop-claim l = (after : List Asked) → HasPaths l.finals (all_finals after) →
    otherwise l.found (first_below after (asked_seen l.asked).listing (map claim_seen (drop l.claim-index l.claim-items)))
    ≡ first_below after (asked_seen l.asked).listing (asked_seen l.asked).claims
