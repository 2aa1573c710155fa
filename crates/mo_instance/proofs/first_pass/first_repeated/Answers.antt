-- One path after another.
use Rattle.std.proofs.Common.{List, map, ap, sym, ◌∙◌}
use Rattle.std.proofs.lemmas.List.{drop_all}
use Rattle.mo_names.proofs.Circling.{left_from}
use Rattle.mo_mods.specs.declared.asked.Claim.{Claim as ClaimAt}
use Rattle.mo_mods.specs.PathSights.{claim_seen}
use Rattle.mo_instance.specs.steps.FirstPass.{first_repeated}
use Rattle.mo_instance.proofs.Lists.{else_is, then_is}
use Rattle.mo_instance.proofs.first_pass.first_repeated.Goals as goal

pub returns-then-is_in : goal.returns-then-is_in
returns-then-is_in c =
    let G = λ (xs : List ClaimAt). first_repeated (map claim_seen c.args.own.now) (map claim_seen xs) in
    then_is _ _ _ _ (sym c.is_in.ensures ∙ c.if-is_in.true) (left_from G c.args.claims.now c.loop-claim.claim-index c.claim-item.result _ c.loop-claim-test.true c.claim-item.is c.loop-claim.invariant)

pub loop-claim-preserved : goal.loop-claim-preserved
loop-claim-preserved c =
    let G = λ (xs : List ClaimAt). first_repeated (map claim_seen c.args.own.now) (map claim_seen xs) in
    else_is _ _ _ _ (sym c.is_in.ensures ∙ c.if-is_in.false) (left_from G c.args.claims.now c.loop-claim.claim-index c.claim-item.result _ c.loop-claim-test.true c.claim-item.is c.loop-claim.invariant)

pub returns : goal.returns
returns c =
    let G = λ (xs : List ClaimAt). first_repeated (map claim_seen c.args.own.now) (map claim_seen xs) in
    ap G (sym (drop_all c.loop-claim.claim-index c.args.claims.now c.loop-claim-test.false)) ∙ c.loop-claim.invariant
