-- The inner component among the owners that are left is that among all.
use Rattle.std.proofs.Common.{◌≡◌}
use Rattle.mo_scope.specs.Frames.{owners}
use Rattle.mo_scope.specs.Names.{inner_among}
use Rattle.mo_scope.specs.Worlds.{Grows, IsFrame, frame_at, table_in}
use Rattle.mo_scope.specs.Sights.{member_at}
use Rattle.mo_lookup.proofs.Owners.{owner_count}
use Rattle.mo_lookup.proofs.outer.inner_of.Given as goal

abbrev pub invariant-loop-owner : goal.invariant-loop-owner
invariant-loop-owner l = record {
  grows : Grows l.initial.s l.s;
  stand : IsFrame l.s l.frame.0;
  left : inner_among (table_in l.initial.s) l.place (member_at l.initial.s l.outer) (owners (frame_at l.s l.frame.0))
      ≡ inner_among (table_in l.initial.s) l.place (member_at l.initial.s l.outer) (owners (frame_at l.initial.s l.initial.frame.0));
}

abbrev pub decreases-loop-owner : goal.decreases-loop-owner
decreases-loop-owner l = owner_count (frame_at l.s l.frame.0)
