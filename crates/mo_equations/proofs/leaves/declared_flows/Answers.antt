-- One instance further; the levels stay those of owners.
use Rattle.std.proofs.Common.{rules, true, false, ap, sym, ◌∙◌}
use Rattle.std.proofs.lemmas.List.{append-nil}
use Rattle.mo_scope.specs.Worlds.{frames_of, table_in}
use Rattle.mo_equations.specs.Connectors.{is_declared_flow}
use Rattle.mo_equations.specs.steps.Tables.{paths_seen}
use Rattle.mo_equations.proofs.Tabled.{passed}
use Rattle.mo_equations.proofs.leaves.declared_flows.Goals as goal
use Rattle.mo_equations.proofs.leaves.declared_flows.Goals.{then-branch+in_ok-push, else-branch}

pub loop-instance-preserved : goal.loop-instance-preserved
loop-instance-preserved c =
    let u = c.args.s.now in
    elim c.if-branch.branch [
      | then-branch+in_ok-push w ↦ (
        search rules,
        c.is_declared_flow.ensures.levels,
        passed (is_declared_flow (table_in u)) (frames_of u) c.args.instances.now c.loop-instance.instance-index c.instance-item.result true (paths_seen c.loop-instance.made) (paths_seen c.if-branch.made)
            c.loop-instance-test.true c.instance-item.is (sym w.if-branch.true ∙ c.in_ok-is_declared_flow.ensures.is) c.loop-instance.invariant.2 (ap paths_seen w.made-is ∙ w.in_ok-push.ensures.paths),
      )
      | else-branch w ↦ (
        search rules,
        c.is_declared_flow.ensures.levels,
        passed (is_declared_flow (table_in u)) (frames_of u) c.args.instances.now c.loop-instance.instance-index c.instance-item.result false (paths_seen c.loop-instance.made) (paths_seen c.if-branch.made)
            c.loop-instance-test.true c.instance-item.is (sym w.if-branch.false ∙ c.in_ok-is_declared_flow.ensures.is) c.loop-instance.invariant.2 (ap paths_seen w.made-is ∙ sym (append-nil (paths_seen c.loop-instance.made))),
      )
    ]
