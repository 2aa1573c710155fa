use Rattle.std.proofs.Common.{◌≡◌, drop}
use Rattle.mo_scope.specs.Names.{clauses_of}
use Rattle.mo_scope.specs.Sizes.{leaf_base}
use Rattle.mo_scope.specs.Worlds.{Grows, frame_at, table_in}
use Rattle.mo_lookup.proofs.bases.leaf_base.Given as goal

abbrev pub invariant-loop-clause : goal.invariant-loop-clause
invariant-loop-clause l = record {
  grows : Grows l.initial.s l.s;
  left : leaf_base (table_in l.initial.s) (frame_at l.initial.s l.frame.0) (drop l.clause (clauses_of (table_in l.initial.s) (frame_at l.initial.s l.frame.0)))
      ≡ leaf_base (table_in l.initial.s) (frame_at l.initial.s l.frame.0) (clauses_of (table_in l.initial.s) (frame_at l.initial.s l.frame.0));
}
