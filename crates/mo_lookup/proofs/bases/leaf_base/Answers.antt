-- One clause after another.
use Rattle.std.proofs.Common.{◌<◌, ap, sym, subst, ◌∙◌}
use Rattle.std.specs.Prelude.{option_map}
use Rattle.mo_syntax.specs.declared.meaning.FrameId.{FrameId}
use Rattle.mo_scope.specs.Names.{clauses_of}
use Rattle.mo_scope.specs.Worlds.{frame_at, table_in}
use Rattle.mo_names.proofs.Later.{grows_trans}
use Rattle.mo_lookup.proofs.Leaves.{leaf_found, leaf_passed, leaf_told}
use Rattle.mo_lookup.proofs.bases.leaf_base.Goals as goal

pub returns-in-Some-clause-value : goal.returns-in-Some-clause-value
returns-in-Some-clause-value c =
    let found = option_map (λ (frame : FrameId). frame_at c.leaf_of_clause.new.s frame.0) c.in_ok-base.field-0 in
    let T = table_in c.args.s.now in
    let f = frame_at c.args.s.now c.args.frame.0 in
    sym (leaf_found T f (clauses_of T f) c.loop-clause.clause found (subst (λ n. c.loop-clause.clause < n) c.in_ok-clause-end.ensures c.loop-clause-test.true)
    (leaf_told c.args.s.now c.loop-clause.s c.args.frame.0 c.loop-clause.clause found c.loop-clause.invariant.grows c.requires c.in_ok-base.ensures.value)
    (frame_at c.leaf_of_clause.new.s c.in-Some.base.0) (ap (option_map (λ (frame : FrameId). frame_at c.leaf_of_clause.new.s frame.0)) c.in-Some.is))
    ∙ c.loop-clause.invariant.left

pub loop-clause-preserved : goal.loop-clause-preserved
loop-clause-preserved c =
    let found = option_map (λ (frame : FrameId). frame_at c.leaf_of_clause.new.s frame.0) c.in_ok-base.field-0 in
    let T = table_in c.args.s.now in
    let f = frame_at c.args.s.now c.args.frame.0 in
    record {
      grows = grows_trans c.args.s.now c.loop-clause.s c.leaf_of_clause.new.s c.loop-clause.invariant.grows c.in_ok-base.ensures.grows;
      left =
          leaf_passed T f (clauses_of T f) c.loop-clause.clause found (subst (λ n. c.loop-clause.clause < n) c.in_ok-clause-end.ensures c.loop-clause-test.true)
          (leaf_told c.args.s.now c.loop-clause.s c.args.frame.0 c.loop-clause.clause found c.loop-clause.invariant.grows c.requires c.in_ok-base.ensures.value)
          (ap (option_map (λ (frame : FrameId). frame_at c.leaf_of_clause.new.s frame.0)) c.in_default.is)
          ∙ c.loop-clause.invariant.left;
    }
