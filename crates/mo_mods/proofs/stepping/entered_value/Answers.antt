-- A value is made of its parts, of which the pending indices have the index behind them.
use Rattle.std.proofs.Common.{◌≡◌, ap, ◌∙◌}
use Rattle.std.proofs.lemmas.Result.{IfOk-weaker}
use Rattle.mo_mods.specs.Steps.{rest_of, with_index}
use Rattle.mo_mods.proofs.Making.{value_made}
use Rattle.mo_mods.proofs.stepping.entered_value.Goals as goal

pub returns : goal.returns
returns c =
    let value = c.args.value.now in
    let marks : c.rest_of-marks.result.now ≡ rest_of value.each = c.rest_of-marks.ensures ∙ ap rest_of c.as_slice.ensures in
    IfOk-weaker c.value_of.result _ _
    (λ made parts frames.
    value_made frames made value.value.now (with_index c.args.index.now (rest_of value.each) value.pending) value.scope (rest_of value.each) parts.value_is
    ((rw parts.pending_is at c.with_index.ensures) ∙ ap (λ marks. with_index c.args.index.now marks c.as_slice-2.result.now) marks ∙ ap (with_index c.args.index.now (rest_of value.each)) c.as_slice-2.ensures)
    (rw parts.scope_is at c.copied_scope.ensures) ((rw parts.each_is at c.copied.ensures) ∙ marks))
    c.value_of.ensures
