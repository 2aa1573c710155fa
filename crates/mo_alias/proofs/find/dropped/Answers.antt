use Rattle.std.proofs.Common.{◌≡◌, ◌∙◌, sym, arith, length, subst, get_or}
use Rattle.mo_graph.specs.Lists.{ListsWhere}
use Rattle.mo_alias.specs.declared.classify.Finding.{Finding}
use Rattle.mo_alias.specs.Aliases.{IsSpare}
use Rattle.mo_alias.proofs.Finding.{dropped_put, dropped_skip, lists_none}
use Rattle.mo_alias.proofs.find.dropped.Goals as goal
use Rattle.mo_alias.proofs.find.dropped.Goals.{then-is_spare+in_ok-number+in_ok-push, else-is_spare}

pub loop-at-init : goal.loop-at-init
loop-at-init c = lists_none (IsSpare c.args._said.now) c.new-dropped.result c.new-dropped.ensures

pub loop-at-preserved : goal.loop-at-preserved
loop-at-preserved c = elim c.if-is_spare.branch [
  | then-is_spare+in_ok-number+in_ok-push w ↦
      rw (w.dropped-is ∙ w.in_ok-push.ensures.ok)
      (dropped_put c.args._said.now c.loop-at.at c.loop-at.dropped (get_or c.args.findings.now c.loop-at.at Finding.Other) w.in_ok-number.field-0 c.loop-at.invariant
      (c.requires.1 c.loop-at.at (let s = c.requires.0 in omega (arith, s, c.loop-at-test.true))) (sym c.is_spare.ensures ∙ w.if-is_spare.true) w.in_ok-number.ensures)
  | else-is_spare w ↦
      rw w.dropped-is
      (dropped_skip c.args._said.now c.loop-at.at c.loop-at.dropped (get_or c.args.findings.now c.loop-at.at Finding.Other) c.loop-at.invariant
      (c.requires.1 c.loop-at.at (let s = c.requires.0 in omega (arith, s, c.loop-at-test.true))) (sym c.is_spare.ensures ∙ w.if-is_spare.false))
]

pub returns : goal.returns
returns c =
    let e : c.loop-at.at ≡ length c.args._said.now = (let s = c.requires.0 in let end = c.loop-at.auto.at-end in omega (arith, s, end, c.loop-at-test.false)) in
    subst (λ w. ListsWhere (IsSpare c.args._said.now) w c.loop-at.dropped) e c.loop-at.invariant
