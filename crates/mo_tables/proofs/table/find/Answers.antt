use Rattle.std.proofs.Common.{rules}
use Rattle.std.proofs.lemmas.Fn.{always_returns_same}
use Rattle.mo_tables.specs.declared.table.Row.{Row}
use Rattle.mo_tables.proofs.Search.{found, in_gap, order}
use Rattle.mo_tables.proofs.table.find.Goals as goal

-- the closure answers the order of a row's name and the text
pub returns-in-Ok : goal.returns-in-Ok
returns-in-Ok c =
    let by_name = c.in-Ok.ensures.position (λ (row : Row). order row c.args.text.now) (always_returns_same _ _ _ (λ a r f called. search rules)) in
    found _ c.requires _ c.in-Ok.at _ c.in-Ok.ensures.bound (by_name _)

pub returns-in-Err : goal.returns-in-Err
returns-in-Err c =
    let by_name = c.in-Err.ensures.position (λ (row : Row). order row c.args.text.now) (always_returns_same _ _ _ (λ a r f called. search rules)) in
    in_gap _ c.requires _ _ by_name
