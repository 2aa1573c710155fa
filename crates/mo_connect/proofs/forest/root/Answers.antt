use Rattle.std.proofs.Common.{◌≤◌, ◌<◌, length, get_or, refl, arith}
use Rattle.mo_connect.specs.steps.Forest.{Climbs}
use Rattle.mo_connect.proofs.ForestLemmas.{shortens_none, shortens_twice, shortens_at, climbs_through, same_higher}
use Rattle.mo_connect.proofs.forest.root.Goals as goal

pub climb-init : goal.climb-init
climb-init c = record {
  shortens = shortens_none _ c.requires.forest;
  climbs = Climbs.here;
  same = λ f constant. refl;
  known = omega arith;
}

pub climb-preserved : goal.climb-preserved
climb-preserved c =
    let before = c.climb.invariant in
    let within : c.climb.at < length c.climb.parent = omega (arith, c.requires.known) in
    let up : get_or c.climb.parent c.climb.at 0 ≤ c.climb.at = before.shortens.forest c.climb.at within in
    let known : get_or c.climb.parent c.climb.at 0 < length c.climb.parent = omega arith in
    let next : get_or c.climb.parent (get_or c.climb.parent c.climb.at 0) 0 ≤ get_or c.climb.parent c.climb.at 0 = before.shortens.forest _ known in
    record {
      shortens = shortens_twice _ _ _ before.shortens (shortens_at _ _ before.shortens.forest within);
      climbs = Climbs.chain before.climbs (climbs_through _ _ before.shortens.size before.shortens.climbs (Climbs.chain (Climbs.up within) (Climbs.up known)));
      same = same_higher _ _ _ before.shortens.forest within before.same;
      known = omega arith;
    }
