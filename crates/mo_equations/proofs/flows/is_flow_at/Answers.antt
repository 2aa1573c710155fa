-- The last name of the path.
use Rattle.std.proofs.Common.{◌≡◌, ℕ, List, [], ap, sym, ◌∙◌, arith}
use Rattle.mo_scope.specs.Lookup.{named, own_members}
use Rattle.mo_scope.specs.Worlds.{frame_at, table_in}
use Rattle.mo_equations.specs.Connectors.{is_flow_member, last_name}
use Rattle.mo_equations.proofs.Lists.{empty_list}
use Rattle.mo_equations.proofs.Making.{if_ok}
use Rattle.mo_equations.proofs.Prefixed.{last_at}
use Rattle.mo_equations.proofs.flows.is_flow_at.Goals as goal

pub returns-in_ok-name-in-empty : goal.returns-in_ok-name-in-empty
returns-in_ok-name-in-empty c =
    let s = c.args.s.now in
    let none : c.args.path.now ≡ [] = empty_list c.args.path.now (omega (arith, c.in-empty.len_below)) in
    let name = c.in_ok-name-in-empty.ensures ∙ ap last_name (sym none) in
    if_ok c.is_flow_element.result
    (λ flow h. h ∙ ap (λ (n : List ℕ). is_flow_member (table_in s) (named n (own_members (table_in s) (frame_at s c.args.own.now.owner.0)))) name)
    c.is_flow_element.ensures

pub returns-in-len1-up : goal.returns-in-len1-up
returns-in-len1-up c =
    let s = c.args.s.now in
    let name = last_at c.args.path.now c.last-item.result c.in-len1-up.len_at_least c.last-item.is in
    if_ok c.is_flow_element-in-len1-up.result
    (λ flow h. h ∙ ap (λ (n : List ℕ). is_flow_member (table_in s) (named n (own_members (table_in s) (frame_at s c.args.own.now.owner.0)))) name)
    c.is_flow_element-in-len1-up.ensures
