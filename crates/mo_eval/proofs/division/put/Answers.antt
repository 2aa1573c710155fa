use Rattle.std.proofs.Common.{◌≡◌, Ok, Err, sym, subst, ◌∙◌, rules}
use Rattle.std.specs.Prelude.{List}
use Rattle.mo_scope.specs.Worlds.{frames_of}
use Rattle.mo_eval.specs.declared.virtuals.Virtual.{Virtual as VirtualAt}
use Rattle.mo_eval.specs.steps.Dividing.{variable_of}
use Rattle.mo_eval.specs.Seen.{AreThere}
use Rattle.mo_eval.proofs.Dividing.{halt_put, put_variable, there_more}
use Rattle.mo_eval.proofs.division.put.Goals as goal

pub returns-in_err-it-clause-exact : goal.returns-in_err-it-clause-exact
returns-in_err-it-clause-exact c = λ world.
    let stop = c.in_err-it.field-0.0 in
    let p : c.from_residual.result ≡ Err stop = search rules in
    rw p (halt_put world stop _ c.args.called.place c.args.called.function c.args.operands _ (rw c.variable_of.ensures at c.in_err-it.ensures))

pub returns-clause-there : goal.returns-clause-there
returns-clause-there c = λ world are.
    let it : variable_of c.args.called.place c.args.called.function c.args.operands ≡ Ok c.in_ok-it.it = sym c.variable_of.ensures ∙ c.in_ok-it.ensures in
    subst (λ (virtuals : List VirtualAt). AreThere world virtuals) (sym c.in_ok-push.ensures.ok) (there_more world _ c.args.called.place c.args.called.function c.args.operands c.in_ok-it.it it are)

pub returns-clause-exact : goal.returns-clause-exact
returns-clause-exact c = λ world.
    let it : variable_of c.args.called.place c.args.called.function c.args.operands ≡ Ok c.in_ok-it.it = sym c.variable_of.ensures ∙ c.in_ok-it.ensures in
    rw (c.in_ok-push.ensures.ok, c.in_ok-vars.ensures, c.len-count.ensures, c.new.ensures, c.new-2.ensures)
    (record { is = put_variable (frames_of world) c.args.called.place c.args.called.function c.args.operands c.in_ok-it.it _ it })

pub returns-in_err-vars-clause-there : goal.returns-in_err-vars-clause-there
returns-in_err-vars-clause-there c = λ world are.
    let it : variable_of c.args.called.place c.args.called.function c.args.operands ≡ Ok c.in_ok-it.it = sym c.variable_of.ensures ∙ c.in_ok-it.ensures in
    subst (λ (virtuals : List VirtualAt). AreThere world virtuals) (sym c.in_ok-push.ensures.ok) (there_more world _ c.args.called.place c.args.called.function c.args.operands c.in_ok-it.it it are)
