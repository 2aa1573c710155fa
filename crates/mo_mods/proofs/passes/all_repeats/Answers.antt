-- One argument after another.
use Rattle.std.proofs.Common.{◌++◌, List, [], map, take, ap, sym, ◌∙◌, subst, append-nil}
use Rattle.std.proofs.lemmas.List.{drop_all}
use Rattle.mo_mods.specs.declared.asked.Asked.{Asked as AskedAt}
use Rattle.mo_mods.specs.Passes.{all_paths, all_repeated}
use Rattle.mo_mods.specs.PathSights.{HasPaths, asked_seen}
use Rattle.mo_mods.proofs.PathTests.{has_none}
use Rattle.mo_mods.proofs.Passing.{repeats_more, taken}
use Rattle.mo_mods.proofs.passes.all_repeats.Goals as goal

pub loop-one-init : goal.loop-one-init
loop-one-init c = (has_none c.new-seen.result c.new-seen.ensures, ap (λ made. made ++ all_repeated [] (map asked_seen c.args.asked.now)) c.new-made.ensures)

pub loop-one-preserved : goal.loop-one-preserved
loop-one-preserved c =
    let pushed = c.in_ok-pushed.ensures.value in
    let is = rw pushed.1 at c.first_repeated.ensures.is in
    let has = rw pushed.1 at c.first_repeated.ensures.has in (
      subst (HasPaths c.first_repeated.new.seen) (ap all_paths (sym (taken asked_seen c.args.asked.now c.loop-one.one-index c.one-item.result c.loop-one-test.true c.one-item.is)))
          (has (map asked_seen (take c.loop-one.one-index c.args.asked.now)) c.loop-one.invariant.0),
      repeats_more asked_seen c.args.asked.now c.loop-one.one-index c.one-item.result c.loop-one-test.true c.one-item.is c.loop-one.made c.pushed.new.list pushed.0 _
          (is (map asked_seen (take c.loop-one.one-index c.args.asked.now)) c.loop-one.invariant.0) pushed.2 c.loop-one.invariant.1,
    )

pub returns : goal.returns
returns c =
    sym (append-nil c.loop-one.made)
    ∙ ap (λ (asked : List AskedAt). c.loop-one.made ++ all_repeated (map asked_seen (take c.loop-one.one-index c.args.asked.now)) (map asked_seen asked))
    (sym (drop_all c.loop-one.one-index c.args.asked.now c.loop-one-test.false))
    ∙ c.loop-one.invariant.1
