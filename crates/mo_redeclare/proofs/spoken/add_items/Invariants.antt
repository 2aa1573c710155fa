-- What was added is what the items so far redeclare.
use Rattle.std.proofs.Common.{◌≡◌, ◌++◌, flat_map, map, take}
use Rattle.mo_scope.specs.Parts.{declared_in}
use Rattle.mo_scope.specs.Places.{Every}
use Rattle.mo_scope.specs.Rows.{replacing_in}
use Rattle.mo_scope.specs.Spoken.{spoken_element}
use Rattle.mo_scope.specs.Worlds.{frames_of, table_in}
use Rattle.mo_scope.specs.Sights.{source_at}
use Rattle.mo_redeclare.specs.steps.Sights.{IsNamed, named_seen}
use Rattle.mo_redeclare.specs.steps.Comparing.{redeclares_in}
use Rattle.mo_redeclare.proofs.spoken.add_items.Given as goal

abbrev pub invariant-loop-item : goal.invariant-loop-item
invariant-loop-item l = record {
  are : map (named_seen (frames_of l.s)) l.made
      ≡ map (named_seen (frames_of l.s)) l.initial.made
      ++ flat_map (λ item. flat_map (λ element. redeclares_in (spoken_element (table_in l.s) (source_at l.s l.source) (declared_in (table_in l.s) element))) (replacing_in item)) (take l.item-index l.items);
  exist : Every (IsNamed l.s) l.made;
}
