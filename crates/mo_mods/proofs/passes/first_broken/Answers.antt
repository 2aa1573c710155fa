-- One argument after another from the back.
use Rattle.std.proofs.Common.{◌≡◌, ◌+◌, ◌-◌, ℕ, List, drop, length, map, take, ap, sym, ◌∙◌, subst, arith}
use Rattle.std.proofs.lemmas.List.{drop_all}
use Rattle.mo_scope.specs.Arguments.{first_broken, or_later}
use Rattle.mo_mods.specs.declared.asked.Asked.{Asked as AskedAt}
use Rattle.mo_mods.specs.Passes.{all_finals, least_broken}
use Rattle.mo_mods.specs.PathSights.{HasPaths, asked_seen}
use Rattle.mo_mods.proofs.PathTests.{has_none}
use Rattle.mo_mods.proofs.Passing.{finals_before, broken_before}
use Rattle.mo_mods.proofs.passes.first_broken.Goals as goal

pub loop-at-init : goal.loop-at-init
loop-at-init c =
    let all = drop_all (length c.args.asked.now) c.args.asked.now (omega arith) in (
      subst (λ (asked : List AskedAt). HasPaths c.new-finals.result (all_finals (map asked_seen asked))) (sym all) (has_none c.new-finals.result c.new-finals.ensures),
      ap (λ (asked : List AskedAt). first_broken (map asked_seen (take (length c.args.asked.now) c.args.asked.now)) (map asked_seen asked)) (sym all),
    )

pub loop-at-preserved : goal.loop-at-preserved
loop-at-preserved c =
    let again : (c.loop-at.at - 1) + 1 ≡ c.loop-at.at = omega arith in
    let has : HasPaths c.loop-at.finals (all_finals (map asked_seen (drop ((c.loop-at.at - 1) + 1) c.args.asked.now))) =
    subst (λ (n : ℕ). HasPaths c.loop-at.finals (all_finals (map asked_seen (drop n c.args.asked.now)))) (sym again) c.loop-at.invariant.0 in
    let found : c.loop-at.found ≡ first_broken (map asked_seen (take ((c.loop-at.at - 1) + 1) c.args.asked.now)) (map asked_seen (drop ((c.loop-at.at - 1) + 1) c.args.asked.now)) =
    subst (λ (n : ℕ). c.loop-at.found ≡ first_broken (map asked_seen (take n c.args.asked.now)) (map asked_seen (drop n c.args.asked.now))) (sym again) c.loop-at.invariant.1 in (
      finals_before asked_seen c.args.asked.now (c.loop-at.at - 1) c.index-asked-at.result (omega arith) c.index-asked-at.is c.add_finals.new.finals
          (c.in_ok-add_finals.ensures (all_finals (map asked_seen (drop ((c.loop-at.at - 1) + 1) c.args.asked.now))) has),
      c.earlier-found.ensures
          ∙ ap (λ broken. or_later broken c.loop-at.found)
          (c.least.ensures ∙ ap (λ repeated. least_broken repeated c.in_ok-below.below c.index-asked-at.result.each c.index-asked-at.result.place) c.repeated_at.ensures)
          ∙ broken_before asked_seen c.args.asked.now (c.loop-at.at - 1) c.index-asked-at.result (omega arith) c.index-asked-at.is c.in_ok-repeats.repeats c.in_ok-below.below c.loop-at.found
          c.in_ok-repeats.ensures (c.in_ok-below.ensures (map asked_seen (drop ((c.loop-at.at - 1) + 1) c.args.asked.now)) has) found,
    )

pub returns : goal.returns
returns c =
    let first : c.loop-at.at ≡ 0 = omega arith in
    c.loop-at.invariant.1 ∙ ap (λ (n : ℕ). first_broken (map asked_seen (take n c.args.asked.now)) (map asked_seen (drop n c.args.asked.now))) first
