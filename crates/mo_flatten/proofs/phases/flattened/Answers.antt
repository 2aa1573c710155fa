-- Variables and equations, then connections.
use Rattle.std.proofs.Common.{◌≡◌, Err, rules}
use Rattle.mo_flatten.specs.Flat.{expansion_in}
use Rattle.mo_flatten.specs.Told.{Connects, TellsOf, goes_on}
use Rattle.mo_flatten.proofs.Telling.{expansion_stops, if_told}
use Rattle.mo_flatten.proofs.phases.flattened.Goals as goal

pub returns-in_err-expansion-clause-told : goal.returns-in_err-expansion-clause-told
returns-in_err-expansion-clause-told c =
    let stop = c.in_err-expansion.field-0.0 in
    let p : c.from_residual.result ≡ Err stop = search rules in
    rw p (expansion_stops stop (expansion_in c.args.tree.now.files c.args.class.0) c.in_err-expansion.ensures.told)

pub returns-clause-told : goal.returns-clause-told
returns-clause-told c =
    let told = c.in_ok-expansion.ensures.told in
    if_told c.connected.result (Connects told.0) (TellsOf (expansion_in c.args.tree.now.files c.args.class.0)) (λ o k. goes_on told.0 told.1 k) (c.connected.ensures.told told.0 told.2)
