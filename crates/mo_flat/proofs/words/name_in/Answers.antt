use Rattle.mo_flat.proofs.Names.{read, past}
use Rattle.mo_flat.proofs.words.name_in.Goals as goal

pub returns-then-at-table : goal.returns-then-at-table
returns-then-at-table c = read (λ row. row.name.now) c.args.table.now c.args.at _ c.if-at-table.true

pub returns-else-at-table : goal.returns-else-at-table
returns-else-at-table c = past (λ row. row.name.now) c.args.table.now c.args.at c.if-at-table.false
