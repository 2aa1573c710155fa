-- The subscripts of the dimensions.
use Rattle.std.proofs.Common.{◌≡◌, Err, ◌∙◌, rules}
use Rattle.mo_equations.proofs.Ended.{within_fine, within_stops}
use Rattle.mo_equations.proofs.ends.within.Goals as goal

pub returns-in_err-checked_subscripts : goal.returns-in_err-checked_subscripts
returns-in_err-checked_subscripts c =
    let stop = c.in_err-checked_subscripts.field-0.0 in
    let p : c.from_residual-in_err-checked_subscripts.result ≡ Err stop = search rules in
    rw p (within_stops c.args.dims c.in_ok-shape.shape c.args.subs (c.in_ok-shape.ensures ∙ c.as_slice.ensures) stop c.in_err-checked_subscripts.ensures)

pub returns : goal.returns
returns c = within_fine c.args.dims c.in_ok-shape.shape c.args.subs (c.in_ok-shape.ensures ∙ c.as_slice.ensures) c.in_ok-checked_subscripts.field-0 c.in_ok-checked_subscripts.ensures
