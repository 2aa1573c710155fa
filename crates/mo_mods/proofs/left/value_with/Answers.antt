-- A value is made of its parts.
use Rattle.std.proofs.Common.{◌∙◌}
use Rattle.std.proofs.lemmas.Result.{IfOk-weaker}
use Rattle.mo_mods.proofs.Making.{value_made}
use Rattle.mo_mods.proofs.left.value_with.Goals as goal

pub returns : goal.returns
returns c =
    IfOk-weaker c.value_of.result _ _
    (λ made parts frames.
    value_made frames made c.args.value.now c.args.left.now.pending.now c.args.left.now.scope.now c.args.left.now.each parts.value_is
    (rw parts.pending_is at c.copied.ensures) (rw parts.scope_is at c.copied_scope.ensures) ((rw parts.each_is at c.copied-2.ensures) ∙ c.as_slice.ensures))
    c.value_of.ensures
