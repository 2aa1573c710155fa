use Rattle.std.proofs.Common.{◌++◌, ◌∷◌, [], sym, ap, ◌∙◌}
use Rattle.mo_eval.specs.steps.Dividing.{variable_of}
use Rattle.mo_eval.proofs.Dividing.{other_number, two_popped}
use Rattle.mo_eval.proofs.division.variable_of.Goals as goal

pub returns-then-len-ne2 : goal.returns-then-len-ne2
returns-then-len-ne2 c = rw c.broken.ensures (sym (other_number c.args.called.place c.args.called.function c.args.operands (λ two. c.if-len-ne2.true (c.len.ensures ∙ two))))

pub returns-in-None : goal.returns-in-None
returns-in-None c = rw c.broken-in-None.ensures (sym (ap (variable_of c.args.called.place c.args.called.function) c.in-None.ensures.0))

pub returns-in-None-pop : goal.returns-in-None-pop
returns-in-None-pop c =
    rw c.broken-in-None-pop.ensures
    (sym (ap (variable_of c.args.called.place c.args.called.function) (c.in-Some.ensures ∙ ap (λ ys. ys ++ c.in-Some.right ∷ []) c.in-None-pop.ensures.0)))

pub returns : goal.returns
returns c =
    sym (two_popped c.args.called.place c.args.called.function c.args.operands _ _ c.in-Some-pop.left c.in-Some.right (sym c.len.ensures ∙ c.if-len-ne2.false) c.in-Some.ensures c.in-Some-pop.ensures)
