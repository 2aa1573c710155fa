use Rattle.std.proofs.Common.{◌≡◌, ◌+◌, ◌≤◌, length, arith, rules}
use Rattle.mo_incidence.specs.Signature.{equations}
use Rattle.mo_incidence.proofs.Rows.{table_equations, table_sound}
use Rattle.mo_incidence.proofs.table.Incidence.equations.Goals as goal

pub overflow_cast-result : goal.overflow_cast-result
overflow_cast-result c =
    let count : equations c.args.self.now + 1 ≡ length c.self.inside.starts.items = table_equations _ _ _ _ c.self.view_is c.self.invariant in
    let few : equations c.args.self.now ≤ 50000 = (table_sound _ _ _ _ c.self.view_is c.self.invariant).few_equations in
    search (rules, arith)

pub returns-clause-count : goal.returns-clause-count
returns-clause-count c =
    let count : equations c.args.self.now + 1 ≡ length c.self.inside.starts.items = table_equations _ _ _ _ c.self.view_is c.self.invariant in
    omega (arith, c.len.ensures)

pub returns-clause-sound : goal.returns-clause-sound
returns-clause-sound c = table_sound _ _ _ _ c.self.view_is c.self.invariant
