use Rattle.std.proofs.Common.{◌≡◌, ◌≤◌, length, arith, rules}
use Rattle.mo_incidence.specs.Signature.{entries}
use Rattle.mo_incidence.proofs.Rows.{table_entries, table_sound}
use Rattle.mo_incidence.proofs.table.Incidence.entries.Goals as goal

pub overflow_cast-result : goal.overflow_cast-result
overflow_cast-result c =
    let count : entries c.args.self.now ≡ length c.self.inside.flat.items = table_entries _ _ _ _ c.self.view_is c.self.invariant in
    let few : entries c.args.self.now ≤ 1000000 = (table_sound _ _ _ _ c.self.view_is c.self.invariant).few_entries in
    search (rules, arith)

pub returns : goal.returns
returns c =
    let count : entries c.args.self.now ≡ length c.self.inside.flat.items = table_entries _ _ _ _ c.self.view_is c.self.invariant in
    omega (arith, c.len.ensures)
