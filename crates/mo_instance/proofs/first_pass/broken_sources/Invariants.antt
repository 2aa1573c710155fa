-- The first rule of those that are left is the first of all.
use Rattle.std.proofs.Common.{◌≡◌, drop, map}
use Rattle.std.specs.Prelude.{option_copied}
use Rattle.mo_scope.specs.Sights.{source_seen}
use Rattle.mo_scope.specs.Worlds.{frame_at, frames_of, sources_in, table_in}
use Rattle.mo_names.specs.Sights.{walk_seen}
use Rattle.mo_instance.specs.steps.FirstPass.{broken_source, is_replaced_by}
use Rattle.mo_instance.specs.Passes.{first_of_all}
use Rattle.mo_instance.specs.steps.Walks.{walk_or_none}
use Rattle.mo_instance.proofs.first_pass.broken_sources.Given as goal

abbrev pub invariant-loop-source : goal.invariant-loop-source
invariant-loop-source l =
    first_of_all (broken_source (table_in l.s) (frame_at l.s l.frame.0) (is_replaced_by (walk_or_none (frames_of l.s) (option_copied l.replaced))) (walk_seen (frames_of l.s) l.walk)) (sources_in (frames_of l.s) (map source_seen (drop l.source-index l.sources)))
    ≡ first_of_all (broken_source (table_in l.s) (frame_at l.s l.frame.0) (is_replaced_by (walk_or_none (frames_of l.s) (option_copied l.replaced))) (walk_seen (frames_of l.s) l.walk)) (sources_in (frames_of l.s) (map source_seen l.sources))
