use Rattle.std.proofs.Common.{◌≡◌, ◌∙◌, sym, arith, length, subst, get_or, None}
use Rattle.mo_alias.specs.declared.classify.Finding.{Finding}
use Rattle.mo_alias.specs.steps.Findings.{AreLoopsTo}
use Rattle.mo_alias.proofs.Finding.{contradicting_none, contradicting_some, loops_all, loops_none, loops_put, loops_skip}
use Rattle.mo_alias.proofs.find.loops.Goals as goal
use Rattle.mo_alias.proofs.find.loops.Goals.{in-Some+in_ok-loop_at+in_ok-push, in_default}

pub loop-at-init : goal.loop-at-init
loop-at-init c = loops_none c.args.said.now c.new-loops.result c.new-loops.ensures

pub loop_at-requires-clause-alias : goal.loop_at-requires-clause-alias
loop_at-requires-clause-alias c =
    (contradicting_some c.args.said.now c.loop-at.at (get_or c.args.findings.now c.loop-at.at Finding.Other) (get_or c.args.said.now c.loop-at.at None) c.in-Some.alias
    (c.requires.findings.1 c.loop-at.at c.loop-at-test.true) (sym c.contradicting.ensures ∙ c.in-Some.is)).1

pub loop_at-requires-clause-contradicts : goal.loop_at-requires-clause-contradicts
loop_at-requires-clause-contradicts c =
    (contradicting_some c.args.said.now c.loop-at.at (get_or c.args.findings.now c.loop-at.at Finding.Other) (get_or c.args.said.now c.loop-at.at None) c.in-Some.alias
    (c.requires.findings.1 c.loop-at.at c.loop-at-test.true) (sym c.contradicting.ensures ∙ c.in-Some.is)).0

pub loop-at-preserved : goal.loop-at-preserved
loop-at-preserved c = elim c.match-contradicting.branch [
  | in-Some+in_ok-loop_at+in_ok-push w ↦
      rw (w.loops-is ∙ w.in_ok-push.ensures.ok)
      (loops_put c.args.said.now c.loop-at.at c.loop-at.loops w.in_ok-loop_at.field-0 c.loop-at.invariant
      (contradicting_some c.args.said.now c.loop-at.at (get_or c.args.findings.now c.loop-at.at Finding.Other) (get_or c.args.said.now c.loop-at.at None) w.in-Some.alias
      (c.requires.findings.1 c.loop-at.at c.loop-at-test.true) (sym c.contradicting.ensures ∙ w.in-Some.is)).0 w.in_ok-loop_at.ensures)
  | in_default w ↦
      rw w.loops-is
      (loops_skip c.args.said.now c.loop-at.at c.loop-at.loops c.loop-at.invariant
      (contradicting_none c.args.said.now c.loop-at.at (get_or c.args.findings.now c.loop-at.at Finding.Other) (c.requires.findings.1 c.loop-at.at c.loop-at-test.true) (sym c.contradicting.ensures ∙ w.in_default.is)))
]

pub returns : goal.returns
returns c =
    let e : c.loop-at.at ≡ length c.args.said.now = (let end = c.loop-at.auto.at-end in omega (arith, end, c.loop-at-test.false)) in
    loops_all c.args.said.now c.loop-at.loops (subst (λ w. AreLoopsTo c.args.said.now w c.loop-at.loops) e c.loop-at.invariant)
