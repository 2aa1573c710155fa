use Rattle.std.proofs.Common.{◌*◌, length}
use Rattle.mo_flat.specs.Text.{derivative_text, variable_name}
use Rattle.mo_text_size.proofs.Lengths.{counted, derivative_length, grown}
use Rattle.mo_text_size.proofs.pieces.of_variable.Goals as goal

pub returns : goal.returns
returns c =
    let name = variable_name c.args.vars.now c.args.variable in
    let order = c.args.order in
    counted _ _ (derivative_text order name) (derivative_length order name) (grown (length name) (5 * order) _ _ c.name_of_variable.ensures c.saturating_add.ensures)
