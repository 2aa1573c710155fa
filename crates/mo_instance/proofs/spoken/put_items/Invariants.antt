-- What was put is the items so far.
use Rattle.std.proofs.Common.{◌≡◌, ◌++◌, List, flat_map, map, take}
use Rattle.mo_scope.specs.Frames.{Frame}
use Rattle.mo_scope.specs.Parts.{declared_in}
use Rattle.mo_scope.specs.Rows.{replacing_in}
use Rattle.mo_scope.specs.Sights.{source_seen}
use Rattle.mo_scope.specs.Spoken.{spoken_element}
use Rattle.mo_scope.specs.Worlds.{source_in, table_in}
use Rattle.mo_instance.specs.steps.Speeches.{speech_of, speech_seen}
use Rattle.mo_instance.proofs.spoken.put_items.Given as goal

abbrev pub invariant-loop-item : goal.invariant-loop-item
invariant-loop-item l = (frames : List Frame) →
    map speech_seen l.made
    ≡ map speech_seen l.initial.made
    ++ flat_map (λ item. flat_map (λ element. map speech_of (spoken_element (table_in l.scopes) (source_in frames (source_seen l.source)) (declared_in (table_in l.scopes) element))) (replacing_in item)) (take l.item-index l.items)
