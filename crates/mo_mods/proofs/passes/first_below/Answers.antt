-- One path after another.
use Rattle.std.proofs.Common.{◌+◌, List, drop, map, ap, sym, ◌∙◌}
use Rattle.std.proofs.lemmas.List.{drop_all}
use Rattle.mo_syntax.specs.ClassTable.{otherwise}
use Rattle.mo_mods.specs.declared.asked.Claim.{Claim as ClaimAt}
use Rattle.mo_mods.specs.Passes.{first_below}
use Rattle.mo_mods.specs.PathSights.{asked_seen, claim_seen}
use Rattle.mo_mods.proofs.Passing.{below_found, otherwise_none}
use Rattle.mo_mods.proofs.passes.first_below.Goals as goal

pub loop-claim-init : goal.loop-claim-init
loop-claim-init c = λ after has.
    ap (λ (claims : List ClaimAt). first_below after (asked_seen c.args.asked.now).listing (map claim_seen claims)) c.as_slice-claim-items.ensures

pub loop-claim-preserved : goal.loop-claim-preserved
loop-claim-preserved c = λ after has.
    ap (λ found. otherwise found (first_below after (asked_seen c.args.asked.now).listing (map claim_seen (drop (c.loop-claim.claim-index + 1) c.as_slice-claim-items.result.now)))) c.or_first-found.ensures
    ∙ below_found claim_seen c.as_slice-claim-items.result.now c.loop-claim.claim-index c.claim-item.result c.loop-claim-test.true c.claim-item.is
    after (asked_seen c.args.asked.now).listing c.loop-claim.found c.in_ok-is.is' _ (c.in_ok-is.ensures after has) (c.loop-claim.invariant after has)

pub returns : goal.returns
returns c = λ after has.
    sym (otherwise_none c.loop-claim.found)
    ∙ ap (λ (claims : List ClaimAt). otherwise c.loop-claim.found (first_below after (asked_seen c.args.asked.now).listing (map claim_seen claims)))
    (sym (drop_all c.loop-claim.claim-index c.as_slice-claim-items.result.now c.loop-claim-test.false))
    ∙ c.loop-claim.invariant after has
