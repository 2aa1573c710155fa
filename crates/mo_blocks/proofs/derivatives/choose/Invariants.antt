use Rattle.std.proofs.Common.{◌≡◌, ◌+◌, ◌-◌}
use Rattle.mo_incidence.specs.Signature.{equations}
use Rattle.mo_incidence.specs.Offsets.{by_place, by_number}
use Rattle.mo_incidence.specs.Dummies.{differentiated, dummies_to, greatest}
use Rattle.mo_blocks.proofs.derivatives.choose.Given as goal

abbrev pub invariant-loop-alloc : goal.invariant-loop-alloc
invariant-loop-alloc l = record {
  active : l.active.items ≡ differentiated (by_place l.c) (l.done + 1) (equations l.inc);
  chosen : l.chosen.items ≡ dummies_to (by_place l.c) (by_number l.d) (by_place l.pairs) (equations l.inc) l.done;
}

abbrev pub decreases-loop-alloc : goal.decreases-loop-alloc
decreases-loop-alloc l = greatest (by_place l.c) (equations l.inc) - l.done
