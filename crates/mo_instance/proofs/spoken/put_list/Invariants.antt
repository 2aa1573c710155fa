-- What was put is the arguments so far.
use Rattle.std.proofs.Common.{◌≡◌, ◌++◌, List, flat_map, map, take}
use Rattle.mo_scope.specs.Frames.{Frame}
use Rattle.mo_scope.specs.Sights.{source_seen}
use Rattle.mo_scope.specs.Spoken.{spoken_argument}
use Rattle.mo_scope.specs.Worlds.{source_in, table_in}
use Rattle.mo_instance.specs.steps.Speeches.{speech_of, speech_seen}
use Rattle.mo_instance.proofs.spoken.put_list.Given as goal

abbrev pub invariant-loop-argument : goal.invariant-loop-argument
invariant-loop-argument l = (frames : List Frame) →
    map speech_seen l.made
    ≡ map speech_seen l.initial.made ++ flat_map (λ argument. map speech_of (spoken_argument (table_in l.scopes) (source_in frames (source_seen l.source)) argument)) (take l.argument-index l.list)
