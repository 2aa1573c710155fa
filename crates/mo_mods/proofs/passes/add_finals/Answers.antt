-- One path after another.
use Rattle.std.proofs.Common.{◌++◌, List, map, take, ap, sym, ◌∙◌, subst, append-nil}
use Rattle.std.proofs.lemmas.List.{take_all}
use Rattle.mo_mods.specs.declared.asked.Claim.{Claim as ClaimAt}
use Rattle.mo_mods.specs.Passes.{finals_of}
use Rattle.mo_mods.specs.PathSights.{HasPaths, asked_seen, claim_seen}
use Rattle.mo_mods.proofs.Passing.{finals_more}
use Rattle.mo_mods.proofs.passes.add_finals.Goals as goal

pub loop-claim-init : goal.loop-claim-init
loop-claim-init c = λ paths has. subst (HasPaths c.args.finals.now) (sym (append-nil paths)) has

pub loop-claim-preserved : goal.loop-claim-preserved
loop-claim-preserved c = λ paths has.
    subst (HasPaths c.add_final.new.finals)
    (finals_more claim_seen c.as_slice-claim-items.result.now c.loop-claim.claim-index c.claim-item.result c.loop-claim-test.true c.claim-item.is paths (asked_seen c.args.asked.now).listing)
    (c.in_ok-add_final.ensures (paths ++ finals_of (asked_seen c.args.asked.now).listing (map claim_seen (take c.loop-claim.claim-index c.as_slice-claim-items.result.now))) (c.loop-claim.invariant paths has))

pub returns : goal.returns
returns c = λ paths has.
    subst (HasPaths c.loop-claim.finals)
    (ap (λ (claims : List ClaimAt). paths ++ finals_of (asked_seen c.args.asked.now).listing (map claim_seen claims))
    (take_all c.loop-claim.claim-index c.as_slice-claim-items.result.now c.loop-claim-test.false ∙ c.as_slice-claim-items.ensures))
    (c.loop-claim.invariant paths has)
