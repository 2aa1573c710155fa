-- What the sources that are left give is what all give.
use Rattle.std.proofs.Common.{◌≡◌, List, drop, length, map}
use Rattle.mo_scope.specs.Frames.{Frame}
use Rattle.mo_scope.specs.Parts.{picked}
use Rattle.mo_scope.specs.steps.Picks.{picked_with}
use Rattle.mo_scope.specs.Rows.{Table}
use Rattle.mo_scope.specs.Sights.{source_seen}
use Rattle.mo_scope.specs.Worlds.{sources_in}
use Rattle.mo_scope.proofs.pick_path.pick.Given as goal

abbrev pub invariant-loop-source : goal.invariant-loop-source
invariant-loop-source l = record {
  is : (frames : List Frame) → (table : Table) → picked_with table l.work (sources_in frames (map source_seen (drop l.source-index l.sources))) l.path ≡ picked table (sources_in frames (map source_seen l.sources)) l.path;
  size : length l.work ≡ length l.path;
}
