-- The prefix of the declaration, if there is one.
use Rattle.std.proofs.Common.{◌≡◌, List, Option, option_map, ap, sym, ◌∙◌}
use Rattle.std.specs.Str.{bytes_eq}
use Rattle.mo_syntax.specs.declared.class.Prefix.{Prefix}
use Rattle.mo_scope.specs.Frames.{Member}
use Rattle.mo_scope.specs.Lookup.{named}
use Rattle.mo_scope.specs.Sights.{member_seen}
use Rattle.mo_scope.specs.Worlds.{MemberEntry, frames_of, member_in, table_in}
use Rattle.mo_equations.specs.Connectors.{is_flow_member}
use Rattle.mo_equations.proofs.Owners.{found_of, named_entry}
use Rattle.mo_equations.proofs.flows.is_flow_element.Goals as goal

pub prefix_of-requires : goal.prefix_of-requires
prefix_of-requires c =
    let found = rw c.in-Some.is at c.find.ensures in
    let home = found_of (λ (entry : MemberEntry). entry.home ≡ c.args.own.now.owner.0) (λ (entry : MemberEntry). bytes_eq entry.name c.args.name.now) c.args.own.now.members (member_seen c.in-Some.member.now) c.requires.homes found in
    rw home c.requires.owner

pub returns-in_ok-prefix-in-Some : goal.returns-in_ok-prefix-in-Some
returns-in_ok-prefix-in-Some c =
    let s = c.args.s.now in
    let found = rw c.in-Some.is at c.find.ensures in
    ap (λ (prefix : Prefix). prefix.flow) c.in_ok-prefix-in-Some.ensures
    ∙ ap (λ (entry : Option MemberEntry). is_flow_member (table_in s) (option_map (member_in (frames_of s)) entry)) found
    ∙ ap (is_flow_member (table_in s)) (sym (named_entry (frames_of s) c.args.name.now c.args.own.now.members))
    ∙ ap (λ (members : List Member). is_flow_member (table_in s) (named c.args.name.now members)) c.requires.members

pub returns-in-None : goal.returns-in-None
returns-in-None c =
    let s = c.args.s.now in
    let found = rw c.in-None.is at c.find.ensures in
    ap (λ (entry : Option MemberEntry). is_flow_member (table_in s) (option_map (member_in (frames_of s)) entry)) found
    ∙ ap (is_flow_member (table_in s)) (sym (named_entry (frames_of s) c.args.name.now c.args.own.now.members))
    ∙ ap (λ (members : List Member). is_flow_member (table_in s) (named c.args.name.now members)) c.requires.members
