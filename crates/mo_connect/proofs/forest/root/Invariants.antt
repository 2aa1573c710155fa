use Rattle.std.proofs.Common.{◌≡◌, ℕ, ◌≤◌}
use Rattle.mo_connect.specs.steps.Forest.{Climbs, IsConstant, Shortens}
use Rattle.mo_connect.proofs.forest.root.Given as goal

abbrev pub invariant-climb : goal.invariant-climb
invariant-climb l = record {
  shortens : Shortens l.initial.parent l.parent;
  climbs : Climbs l.initial.parent l.from l.at;
  same : (f : ℕ → ℕ) → IsConstant l.parent f → f l.from ≡ f l.at;
  known : l.at ≤ l.from;
}

abbrev pub decreases-climb : goal.decreases-climb
decreases-climb l = l.at
