-- One after another.
use Rattle.std.proofs.Common.{List, map, ap, sym, ◌∙◌}
use Rattle.std.proofs.lemmas.List.{drop_all}
use Rattle.mo_names.proofs.Circling.{left_from}
use Rattle.mo_mods.specs.declared.asked.Claim.{Claim as ClaimAt}
use Rattle.mo_mods.specs.PathSights.{claim_seen}
use Rattle.mo_instance.specs.steps.FirstPass.{is_in}
use Rattle.mo_instance.proofs.Lists.{or_false, or_true}
use Rattle.mo_instance.proofs.first_pass.is_in.Goals as goal

pub returns-then-is_same : goal.returns-then-is_same
returns-then-is_same c =
    let G = λ (xs : List ClaimAt). is_in (map claim_seen xs) (claim_seen c.args.claim.now) in
    or_true _ _ _ (sym c.is_same.ensures ∙ c.if-is_same.true) (left_from G c.args.own.now c.loop-other.other-index c.other-item.result _ c.loop-other-test.true c.other-item.is c.loop-other.invariant)

pub loop-other-preserved : goal.loop-other-preserved
loop-other-preserved c =
    let G = λ (xs : List ClaimAt). is_in (map claim_seen xs) (claim_seen c.args.claim.now) in
    or_false _ _ _ (sym c.is_same.ensures ∙ c.if-is_same.false) (left_from G c.args.own.now c.loop-other.other-index c.other-item.result _ c.loop-other-test.true c.other-item.is c.loop-other.invariant)

pub returns : goal.returns
returns c =
    let G = λ (xs : List ClaimAt). is_in (map claim_seen xs) (claim_seen c.args.claim.now) in
    ap G (sym (drop_all c.loop-other.other-index c.args.own.now c.loop-other-test.false)) ∙ c.loop-other.invariant
