-- What was added is what the sources so far redeclare.
use Rattle.std.proofs.Common.{◌≡◌, flat_map, map, take}
use Rattle.mo_scope.specs.Places.{Every}
use Rattle.mo_scope.specs.Spoken.{spoken_of}
use Rattle.mo_scope.specs.Worlds.{frames_of, table_in}
use Rattle.mo_scope.specs.Sights.{source_at}
use Rattle.mo_redeclare.specs.steps.Sights.{IsNamed, named_seen}
use Rattle.mo_redeclare.specs.steps.Comparing.{redeclares_in}
use Rattle.mo_redeclare.proofs.spoken.redeclared_in.Given as goal

abbrev pub invariant-loop-source : goal.invariant-loop-source
invariant-loop-source l = record {
  are : map (named_seen (frames_of l.s)) l.made
      ≡ flat_map (λ source. redeclares_in (spoken_of (table_in l.s) (source_at l.s source))) (take l.source-index l.sources);
  exist : Every (IsNamed l.s) l.made;
}
