-- An element of the table, or none.
use Rattle.std.proofs.Common.{◌≡◌, ◌<◌, None, Option, Some, ap, arith, find, length, sym, ◌∙◌}
use Rattle.std.specs.Borrow.{Bor}
use Rattle.std.specs.Prelude.{option_copied, option_map}
use Rattle.std.specs.Str.{bytes_eq}
use Rattle.std.proofs.lemmas.Bool.Decides.{nat_tests}
use Rattle.std.proofs.lemmas.List.{length-map}
use Rattle.mo_scope.specs.declared.row.Member.{Member as MemberAt}
use Rattle.mo_scope.specs.Sights.{member_seen}
use Rattle.mo_scope.specs.Worlds.{MemberEntry, frame_at, frames_of, table_in}
use Rattle.mo_names.specs.Sights.{asks}
use Rattle.mo_names.proofs.MembersExist.{found_exists}
use Rattle.mo_names.proofs.Tables.{kept_absent, kept_element}
use Rattle.mo_names.proofs.kept.kept_reached.Goals as goal

pub returns-in-Some-find-clause-is : goal.returns-in-Some-find-clause-is
returns-in-Some-find-clause-is c =
    let is : find (λ (member : MemberEntry). bytes_eq member.name c.args.name.now) c.in-Some.table.now ≡ Some (member_seen c.in-Some-find.member.now) =
    sym c.find.ensures ∙ ap (λ (o : Option (Bor MemberAt)). option_map member_seen (option_copied o)) c.in-Some-find.is in
    kept_element (table_in c.args.s.now) (asks (table_in c.args.s.now) c.args.ask.now) c.args.ask.now.place (frame_at c.args.s.now c.args.frame.0)
    (frames_of c.args.s.now) c.in-Some.table.now c.args.name.now (member_seen c.in-Some-find.member.now) (c.in-Some.ensures.same c.args.ask.now.place) c.in-Some.ensures.elements is

pub returns-in-Some-find-clause-exists : goal.returns-in-Some-find-clause-exists
returns-in-Some-find-clause-exists c =
    let is : find (λ (member : MemberEntry). bytes_eq member.name c.args.name.now) c.in-Some.table.now ≡ Some (member_seen c.in-Some-find.member.now) =
    sym c.find.ensures ∙ ap (λ (o : Option (Bor MemberAt)). option_map member_seen (option_copied o)) c.in-Some-find.is in
    found_exists c.args.s.now (frame_at c.args.s.now c.args.frame.0) c.in-Some.table.now (λ member. bytes_eq member.name c.args.name.now) c.in-Some-find.member.now
    c.in-Some.ensures.elements c.in-Some.ensures.homes is

pub returns-in-None-clause-is : goal.returns-in-None-clause-is
returns-in-None-clause-is c =
    let is : find (λ (member : MemberEntry). bytes_eq member.name c.args.name.now) c.in-Some.table.now ≡ None =
    sym c.find.ensures ∙ ap (λ (o : Option (Bor MemberAt)). option_map member_seen (option_copied o)) c.in-None.is in
    let held : 0 < length c.members.result.now = grind (arith, nat_tests, c.if-is_empty.ensures) in
    let some : 0 < length c.in-Some.table.now = omega (arith, held, length-map c.members.result.now member_seen, ap length c.members.ensures) in
    kept_absent (table_in c.args.s.now) (asks (table_in c.args.s.now) c.args.ask.now) c.args.ask.now.place (frame_at c.args.s.now c.args.frame.0)
    (frames_of c.args.s.now) c.in-Some.table.now c.args.name.now (c.in-Some.ensures.same c.args.ask.now.place) c.in-Some.ensures.elements is some
