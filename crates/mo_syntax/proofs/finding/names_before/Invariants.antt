-- The names so far are those of the path.
use Rattle.std.proofs.Common.{◌≡◌, take}
use Rattle.mo_syntax.proofs.finding.names_before.Given as goal

abbrev pub invariant-loop-name : goal.invariant-loop-name
invariant-loop-name l = record {
  place : l.at ≡ l.name-index;
  same : take l.name-index l.path ≡ take l.name-index l.front;
}
