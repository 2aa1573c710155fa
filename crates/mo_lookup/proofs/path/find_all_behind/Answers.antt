-- One identifier further.
use Rattle.std.proofs.Common.{◌+◌, drop, ◌∙◌}
use Rattle.mo_scope.specs.Lookup.{Found}
use Rattle.mo_scope.specs.Names.{behind_found, found_behind}
use Rattle.mo_scope.specs.Worlds.{table_in}
use Rattle.mo_names.proofs.Circling.{left_from, loop_err, then_ok, told_of}
use Rattle.mo_names.proofs.Later.{grows_trans}
use Rattle.mo_lookup.proofs.Paths.{behind_step}
use Rattle.mo_names.specs.Sights.{found_at}
use Rattle.mo_lookup.proofs.path.find_all_behind.Goals as goal

pub returns-in-Err-clause-value : goal.returns-in-Err-clause-value
returns-in-Err-clause-value c =
    let F : Found = found_at c.loop-at.s c.loop-at.found in
    loop_err (found_at c.find_next.new.s) (found_at c.find_next.new.s) c.in-Err.stop c.args.s.now c.loop-at.s
    (λ t. behind_found t F c.index-parts-at.result)
    (λ next. found_behind (table_in c.args.s.now) next (drop (c.loop-at.at + 1) c.args.parts.now)) _
    c.loop-at.invariant.grows c.in-Err.ensures.value
    (behind_step (table_in c.args.s.now) F c.index-parts-at.result (drop (c.loop-at.at + 1) c.args.parts.now)
    ∙ left_from (found_behind (table_in c.args.s.now) F) c.args.parts.now c.loop-at.at c.index-parts-at.result _ c.loop-at-test.true c.index-parts-at.is c.loop-at.invariant.left)

pub loop-at-preserved : goal.loop-at-preserved
loop-at-preserved c =
    let F : Found = found_at c.loop-at.s c.loop-at.found in
    record {
      grows = grows_trans c.args.s.now c.loop-at.s c.find_next.new.s c.loop-at.invariant.grows c.in-Ok.ensures.grows;
      stand = c.in-Ok.ensures.stand;
      left =
          then_ok (behind_found (table_in c.args.s.now) F c.index-parts-at.result)
          (λ next. found_behind (table_in c.args.s.now) next (drop (c.loop-at.at + 1) c.args.parts.now))
          (found_at c.find_next.new.s c.in-Ok.next) _
          (behind_step (table_in c.args.s.now) F c.index-parts-at.result (drop (c.loop-at.at + 1) c.args.parts.now)
          ∙ left_from (found_behind (table_in c.args.s.now) F) c.args.parts.now c.loop-at.at c.index-parts-at.result _ c.loop-at-test.true c.index-parts-at.is c.loop-at.invariant.left)
          (told_of (λ t. behind_found t F c.index-parts-at.result) c.args.s.now c.loop-at.s _ c.loop-at.invariant.grows c.in-Ok.ensures.value);
    }
