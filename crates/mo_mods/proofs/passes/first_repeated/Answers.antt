-- One path after another.
use Rattle.std.proofs.Common.{◌≡◌, ◌+◌, List, [], ◌++◌, drop, map, take, ap, sym, ◌∙◌, subst, append-nil}
use Rattle.std.proofs.lemmas.List.{drop_all, take_all}
use Rattle.mo_syntax.specs.ClassTable.{otherwise}
use Rattle.mo_scope.specs.Held.{path_key}
use Rattle.mo_mods.specs.declared.asked.Claim.{Claim as ClaimAt}
use Rattle.mo_mods.specs.Passes.{all_paths, first_repeated, paths_of}
use Rattle.mo_mods.specs.PathSights.{HasPaths, asked_seen, claim_seen}
use Rattle.mo_mods.proofs.Passing.{repeated_has, repeated_found, otherwise_none, all_paths_more}
use Rattle.mo_mods.proofs.passes.first_repeated.Goals as goal

pub loop-claim-init : goal.loop-claim-init
loop-claim-init c = λ before has. (
  subst (HasPaths c.args.seen.now) (sym (append-nil (all_paths before))) has,
  ap (λ (claims : List ClaimAt). first_repeated before (asked_seen c.args.asked.now).listing [] (map claim_seen claims)) c.as_slice-claim-items.ensures,
)

pub loop-claim-preserved : goal.loop-claim-preserved
loop-claim-preserved c = λ before has.
    let path_is : c.in_ok-key.key ≡ path_key (claim_seen c.claim-item.result).path = c.in_ok-key.ensures ∙ ap (λ path. path_key (map (λ name. name.now) path)) c.as_slice.ensures in (
      repeated_has claim_seen c.as_slice-claim-items.result.now c.loop-claim.claim-index c.claim-item.result c.loop-claim-test.true c.claim-item.is
          c.loop-claim.seen c.add.new.self before (asked_seen c.args.asked.now).listing c.into_vec.result.items (c.into_vec.ensures ∙ path_is)
          (c.loop-claim.invariant before has).0 c.in_ok-add.ensures,
      ap (λ found. otherwise found
          (first_repeated before (asked_seen c.args.asked.now).listing (map claim_seen (take (c.loop-claim.claim-index + 1) c.as_slice-claim-items.result.now)) (map claim_seen (drop (c.loop-claim.claim-index + 1) c.as_slice-claim-items.result.now))))
          c.or_first-found.ensures
          ∙ repeated_found claim_seen c.as_slice-claim-items.result.now c.loop-claim.claim-index c.claim-item.result c.loop-claim-test.true c.claim-item.is
          c.loop-claim.seen before (asked_seen c.args.asked.now).listing c.as_slice-in-loop-claim.result.now c.loop-claim.found c.has-is_repeated.result _ (c.as_slice-in-loop-claim.ensures ∙ path_is)
          (c.loop-claim.invariant before has).0 c.has-is_repeated.ensures (c.loop-claim.invariant before has).1,
    )

pub returns : goal.returns
returns c = record {
  is = λ before has.
      sym (otherwise_none c.loop-claim.found)
      ∙ ap (λ (claims : List ClaimAt). otherwise c.loop-claim.found (first_repeated before (asked_seen c.args.asked.now).listing (map claim_seen (take c.loop-claim.claim-index c.as_slice-claim-items.result.now)) (map claim_seen claims)))
      (sym (drop_all c.loop-claim.claim-index c.as_slice-claim-items.result.now c.loop-claim-test.false))
      ∙ (c.loop-claim.invariant before has).1;
  has = λ before has.
      subst (HasPaths c.loop-claim.seen)
      (ap (λ (claims : List ClaimAt). all_paths before ++ paths_of (asked_seen c.args.asked.now).listing (map claim_seen claims))
      (take_all c.loop-claim.claim-index c.as_slice-claim-items.result.now c.loop-claim-test.false ∙ c.as_slice-claim-items.ensures)
      ∙ sym (all_paths_more before (asked_seen c.args.asked.now)))
      (c.loop-claim.invariant before has).0;
}
