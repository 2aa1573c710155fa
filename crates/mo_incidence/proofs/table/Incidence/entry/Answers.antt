use Rattle.std.proofs.Common.{◌+◌, ◌<◌, ◌-◌, ℕ, length, ap, ◌∙◌, arith, rules}
use Rattle.std.proofs.lemmas.List.{get_or_read}
use Rattle.mo_incidence.proofs.Rows.{row_start, table_place, table_small, table_unknown, table_order, table_known}
use Rattle.mo_incidence.proofs.table.Incidence.entry.Goals as goal

pub index-requires : goal.index-requires
index-requires c = let l : c.args.row - 1 < length c.self.inside.starts.items = row_start _ _ _ _ c.self.view_is c.self.invariant _ c.requires.row in omega arith

pub overflow_add-place : goal.overflow_add-place
overflow_add-place c =
    let start = get_or_read c.self.inside.starts.items _ _ (row_start _ _ _ _ c.self.view_is c.self.invariant _ c.requires.row) c.index.ensures 0 in
    let place = table_place _ _ _ _ c.self.view_is c.self.invariant _ c.requires.row _ c.requires.k in
    let small = table_small _ _ _ _ c.self.view_is c.self.invariant _ c.requires.row _ c.requires.k in
    let fits : c.index.result.now + c.args.k < 1000000 = omega arith in
    search (rules, arith)

pub index-requires-2 : goal.index-requires-2
index-requires-2 c =
    let start = get_or_read c.self.inside.starts.items _ _ (row_start _ _ _ _ c.self.view_is c.self.invariant _ c.requires.row) c.index.ensures 0 in
    let place = table_place _ _ _ _ c.self.view_is c.self.invariant _ c.requires.row _ c.requires.k in
    omega arith

pub returns-clause-unknown : goal.returns-clause-unknown
returns-clause-unknown c =
    let start = get_or_read c.self.inside.starts.items _ _ (row_start _ _ _ _ c.self.view_is c.self.invariant _ c.requires.row) c.index.ensures 0 in
    let place : c.index.result.now + c.args.k < length c.self.inside.flat.items = rw start (table_place _ _ _ _ c.self.view_is c.self.invariant _ c.requires.row _ c.requires.k) in
    let entry = get_or_read c.self.inside.flat.items _ _ place c.index-2.ensures (0, 0) in
    ap (λ (e : ℕ × ℕ). e.0) entry ∙ rw start (table_unknown _ _ _ _ c.self.view_is c.self.invariant _ c.requires.row _ c.requires.k)

pub returns-clause-order : goal.returns-clause-order
returns-clause-order c =
    let start = get_or_read c.self.inside.starts.items _ _ (row_start _ _ _ _ c.self.view_is c.self.invariant _ c.requires.row) c.index.ensures 0 in
    let place : c.index.result.now + c.args.k < length c.self.inside.flat.items = rw start (table_place _ _ _ _ c.self.view_is c.self.invariant _ c.requires.row _ c.requires.k) in
    let entry = get_or_read c.self.inside.flat.items _ _ place c.index-2.ensures (0, 0) in
    ap (λ (e : ℕ × ℕ). e.1) entry ∙ rw start (table_order _ _ _ _ c.self.view_is c.self.invariant _ c.requires.row _ c.requires.k)

pub returns-clause-known : goal.returns-clause-known
returns-clause-known c =
    let start = get_or_read c.self.inside.starts.items _ _ (row_start _ _ _ _ c.self.view_is c.self.invariant _ c.requires.row) c.index.ensures 0 in
    let place : c.index.result.now + c.args.k < length c.self.inside.flat.items = rw start (table_place _ _ _ _ c.self.view_is c.self.invariant _ c.requires.row _ c.requires.k) in
    let entry = get_or_read c.self.inside.flat.items _ _ place c.index-2.ensures (0, 0) in
    rw entry (rw start (table_known _ _ _ _ c.self.view_is c.self.invariant _ c.requires.row _ c.requires.k))
