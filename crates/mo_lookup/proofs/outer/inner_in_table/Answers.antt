-- The first element of that name, or else all.
use Rattle.std.proofs.Common.{◌≡◌, None, Option, Some, ap, find, map, sym, ◌∙◌}
use Rattle.std.specs.Borrow.{Bor}
use Rattle.std.specs.Prelude.{option_copied, option_map}
use Rattle.std.specs.Str.{bytes_eq}
use Rattle.mo_scope.specs.declared.row.Member.{Member as MemberAt}
use Rattle.mo_scope.specs.Names.{is_inner_for}
use Rattle.mo_scope.specs.Sights.{member_seen}
use Rattle.mo_scope.specs.Worlds.{MemberEntry, frame_at, frames_of, member_in}
use Rattle.mo_names.specs.Sights.{member_of}
use Rattle.mo_names.proofs.Listing.{table_is}
use Rattle.mo_names.proofs.MembersExist.{found_exists, kept_exist}
use Rattle.mo_names.proofs.Tables.{inner_first, inner_nowhere}
use Rattle.mo_lookup.proofs.outer.inner_in_table.Goals as goal

pub is_inner-requires-clause-member : goal.is_inner-requires-clause-member
is_inner-requires-clause-member c =
    let is : find (λ (member : MemberEntry). bytes_eq member.name c.args.outer.now.name.now) c.args.table.now ≡ Some (member_seen c.in-Some.first.now) =
    sym c.find.ensures ∙ ap (λ (o : Option (Bor MemberAt)). option_map member_seen (option_copied o)) c.in-Some.is in
    (found_exists c.args.s.now (frame_at c.args.s.now c.args.frame.0) c.args.table.now (λ member. bytes_eq member.name c.args.outer.now.name.now) c.in-Some.first.now c.requires.elements c.requires.homes is).home

pub returns-then-is_inner-clause-is : goal.returns-then-is_inner-clause-is
returns-then-is_inner-clause-is c =
    let F = frames_of c.args.s.now in
    let is : find (λ (member : MemberEntry). bytes_eq member.name c.args.outer.now.name.now) c.args.table.now ≡ Some (member_seen c.in-Some.first.now) =
    sym c.find.ensures ∙ ap (λ (o : Option (Bor MemberAt)). option_map member_seen (option_copied o)) c.in-Some.is in
    sym (inner_first F (member_of F c.args.outer.now) c.args.table.now (member_seen c.in-Some.first.now) is (sym c.is_inner.ensures ∙ c.if-is_inner.true))

pub returns-then-is_inner-clause-exists : goal.returns-then-is_inner-clause-exists
returns-then-is_inner-clause-exists c =
    let is : find (λ (member : MemberEntry). bytes_eq member.name c.args.outer.now.name.now) c.args.table.now ≡ Some (member_seen c.in-Some.first.now) =
    sym c.find.ensures ∙ ap (λ (o : Option (Bor MemberAt)). option_map member_seen (option_copied o)) c.in-Some.is in
    found_exists c.args.s.now (frame_at c.args.s.now c.args.frame.0) c.args.table.now (λ member. bytes_eq member.name c.args.outer.now.name.now) c.in-Some.first.now c.requires.elements c.requires.homes is

pub inner_of_all-requires-clause-members : goal.inner_of_all-requires-clause-members
inner_of_all-requires-clause-members c =
    kept_exist c.args.s.now (frame_at c.args.s.now c.args.frame.0) c.args.table.now c.members.result.now c.requires.elements c.requires.homes c.members.ensures

pub returns-else-is_inner-clause-is : goal.returns-else-is_inner-clause-is
returns-else-is_inner-clause-is c =
    let F = frames_of c.args.s.now in
    c.inner_of_all.ensures.is
    ∙ ap (find (is_inner_for (member_of F c.args.outer.now))) (table_is F c.members.result.now ∙ ap (map (member_in F)) c.members.ensures)

pub returns-in-None-clause-is : goal.returns-in-None-clause-is
returns-in-None-clause-is c =
    let F = frames_of c.args.s.now in
    let is : find (λ (member : MemberEntry). bytes_eq member.name c.args.outer.now.name.now) c.args.table.now ≡ None =
    sym c.find.ensures ∙ ap (λ (o : Option (Bor MemberAt)). option_map member_seen (option_copied o)) c.in-None.is in
    inner_nowhere F (member_of F c.args.outer.now) c.args.table.now is
