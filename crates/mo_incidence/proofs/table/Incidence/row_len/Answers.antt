use Rattle.std.proofs.Common.{◌<◌, ◌-◌, length, arith}
use Rattle.std.proofs.lemmas.List.{get_or_read}
use Rattle.mo_incidence.proofs.Rows.{row_in_holds, row_start, row_ordered, table_row_len}
use Rattle.mo_incidence.proofs.table.Incidence.row_len.Goals as goal

pub index-requires : goal.index-requires
index-requires c = let l : c.args.row < length c.self.inside.starts.items = row_in_holds _ _ _ _ c.self.view_is c.self.invariant _ c.requires in omega arith

pub index-requires-2 : goal.index-requires-2
index-requires-2 c = let l : c.args.row - 1 < length c.self.inside.starts.items = row_start _ _ _ _ c.self.view_is c.self.invariant _ c.requires in omega arith

pub overflow_sub-result : goal.overflow_sub-result
overflow_sub-result c =
    let above = get_or_read c.self.inside.starts.items _ _ (row_in_holds _ _ _ _ c.self.view_is c.self.invariant _ c.requires) c.index.ensures 0 in
    let below = get_or_read c.self.inside.starts.items _ _ (row_start _ _ _ _ c.self.view_is c.self.invariant _ c.requires) c.index-2.ensures 0 in
    omega (arith, row_ordered _ _ _ _ c.self.view_is c.self.invariant _ c.requires)

pub returns : goal.returns
returns c =
    let above = get_or_read c.self.inside.starts.items _ _ (row_in_holds _ _ _ _ c.self.view_is c.self.invariant _ c.requires) c.index.ensures 0 in
    let below = get_or_read c.self.inside.starts.items _ _ (row_start _ _ _ _ c.self.view_is c.self.invariant _ c.requires) c.index-2.ensures 0 in
    omega (arith, table_row_len _ _ _ _ c.self.view_is c.self.invariant _ c.requires)
