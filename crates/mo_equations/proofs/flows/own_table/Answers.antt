-- The elements of the row of the class; a class without a row declares none.
use Rattle.std.proofs.Common.{map, ap, ◌∙◌}
use Rattle.mo_scope.specs.Worlds.{frame_at, frames_of, member_in, table_in}
use Rattle.mo_equations.proofs.Making.{if_ok}
use Rattle.mo_equations.proofs.Owners.{members_of_none, members_of_row}
use Rattle.mo_equations.proofs.flows.own_table.Goals as goal

pub returns-in-Some-clause-members : goal.returns-in-Some-clause-members
returns-in-Some-clause-members c =
    let s = c.args.s.now in
    if_ok c.elements_of.result
    (λ made h. h (frames_of s) ∙ members_of_row (table_in s) (frame_at s c.args.owner.0) c.class_of.result.0 c.in-Some.row.now c.as_slice.result.now c.class_of.ensures.is c.in-Some.ensures.is c.as_slice.ensures)
    c.elements_of.ensures.members

pub returns-in-None-clause-members : goal.returns-in-None-clause-members
returns-in-None-clause-members c =
    let s = c.args.s.now in
    ap (map (member_in (frames_of s))) c.new.ensures ∙ members_of_none (table_in s) (frame_at s c.args.owner.0) c.class_of.result.0 c.class_of.ensures.is c.in-None.ensures.is
