-- What was added is what the arguments so far redeclare.
use Rattle.std.proofs.Common.{◌≡◌, ◌++◌, flat_map, map, take}
use Rattle.mo_scope.specs.Places.{Every}
use Rattle.mo_scope.specs.Spoken.{spoken_argument}
use Rattle.mo_scope.specs.Worlds.{frames_of, table_in}
use Rattle.mo_scope.specs.Sights.{source_at}
use Rattle.mo_redeclare.specs.steps.Sights.{IsNamed, named_seen}
use Rattle.mo_redeclare.specs.steps.Comparing.{redeclares_in}
use Rattle.mo_redeclare.proofs.spoken.add_list.Given as goal

abbrev pub invariant-loop-argument : goal.invariant-loop-argument
invariant-loop-argument l = record {
  are : map (named_seen (frames_of l.s)) l.made
      ≡ map (named_seen (frames_of l.s)) l.initial.made
      ++ flat_map (λ argument. redeclares_in (spoken_argument (table_in l.s) (source_at l.s l.source) argument)) (take l.argument-index l.list);
  exist : Every (IsNamed l.s) l.made;
}
