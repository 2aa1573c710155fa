-- One component more.
use Rattle.std.proofs.Common.{◌≡◌, ◌+◌, ◌-◌, ◌++◌, ◌∷◌, [], List, Ok, Err, map, take, drop, length, ap, sym, subst, ◌∙◌, rules, arith}
use Rattle.mo_scope.specs.declared.row.Member.{Member as MemberAt}
use Rattle.mo_scope.specs.Frames.{Member, Scope}
use Rattle.mo_scope.specs.Outcome.{Gives}
use Rattle.mo_scope.specs.Places.{Every}
use Rattle.mo_scope.specs.Rows.{Table}
use Rattle.mo_scope.specs.Worlds.{frames_of, scope_in, table_in}
use Rattle.mo_names.specs.Sights.{IsMember, member_of}
use Rattle.mo_names.proofs.Later.{grows_refl, grows_trans, table_later}
use Rattle.mo_equations.specs.Ends.{declared_behind, declared_by_name}
use Rattle.mo_equations.specs.steps.Ends.{first_component}
use Rattle.mo_equations.proofs.Arguments.{scope_later}
use Rattle.mo_equations.proofs.ByName.{Left, are_members_later, end_left, first_left, first_stops, mapped_last, members_later, more_left, more_stops, named}
use Rattle.mo_equations.proofs.Lists.{empty_list, every_last, opened}
use Rattle.mo_equations.proofs.ends.declared_by_name.Goals as goal

pub returns-in_default-clause-value : goal.returns-in_default-clause-value
returns-in_default-clause-value c =
    let u = c.args.s.now in
    let none = sym c.as_slice.ensures ∙ empty_list c.as_slice.result.now (omega (arith, c.in_default.len_below)) in
    ap (named (table_in u) c.args.reference.now.top (scope_in (frames_of u) c.args.at.now.frame.0 c.args.at.now.iters)) none
    ∙ ap (λ (ms : List MemberAt). Ok (map (member_of (frames_of u)) ms)) (sym c.new-made.ensures)

pub returns-in_err-member-clause-value : goal.returns-in_err-member-clause-value
returns-in_err-member-clause-value c =
    let u = c.args.s.now in
    let v = c.declared_first.new.s in
    let xs = c.as_slice.result.now in
    let part = c.first-item.result in
    let cut = sym c.as_slice.ensures ∙ opened xs part c.in-len1-up.len_at_least c.first-item.is in
    let stop = c.in_err-member.field-0.0 in
    let p : c.from_residual.result ≡ Err stop = search rules in
    rw p (first_stops (table_in u) c.args.reference.now.top (scope_in (frames_of u) c.args.at.now.frame.0 c.args.at.now.iters) (map (member_of (frames_of v))) (member_of (frames_of v))
    c.args.reference.now.parts (take (length xs - 1) (drop 1 xs)) part stop cut c.in_err-member.ensures.value)

pub loop-part-init : goal.loop-part-init
loop-part-init c =
    let u = c.args.s.now in
    let v = c.declared_first.new.s in
    let xs = c.as_slice.result.now in
    let others = take (length xs - 1) (drop 1 xs) in
    let part = c.first-item.result in
    let at = c.args.at.now in
    let top = c.args.reference.now.top in
    let cut = sym c.as_slice.ensures ∙ opened xs part c.in-len1-up.len_at_least c.first-item.is in
    let same = ap (λ (t : Table). first_component t top (scope_in (frames_of v) at.frame.0 at.iters) part) (table_later u v c.in_ok-member.ensures.grows)
    ∙ ap (λ (scope : Scope). first_component (table_in u) top scope part) (scope_later u v at.frame.0 at.iters c.in_ok-member.ensures.grows c.requires) in
    record {
      grows = grows_refl v;
      exist = subst (Every (IsMember v)) (sym c.new-made.ensures) tt;
      exists = c.in_ok-member.ensures.exists;
      left = first_left (table_in v) top (scope_in (frames_of v) at.frame.0 at.iters) c.args.reference.now.parts others part (member_of (frames_of v) c.in_ok-member.member) cut (same ∙ c.in_ok-member.ensures.value)
          ∙ ap (λ (ms : List MemberAt). Left (table_in v) (map (member_of (frames_of v)) ms) (member_of (frames_of v) c.in_ok-member.member) others) (sym c.new-made.ensures);
    }

pub declared_behind-requires : goal.declared_behind-requires
declared_behind-requires c = c.loop-part.invariant.exists

pub loop-part-preserved : goal.loop-part-preserved
loop-part-preserved c =
    let v = c.declared_first.new.s in
    let m = c.loop-part.s in
    let w = c.declared_behind.new.s in
    let inv = c.loop-part.invariant in
    let made = c.loop-part.made in
    let member = c.loop-part.member in
    let xs = c.as_slice.result.now in
    let others = take (length xs - 1) (drop 1 xs) in
    let part = c.part-item.result in
    let grows = c.in_ok-member-2.ensures.grows in
    let put = c.in_ok-push.ensures.ok in
    let all = every_last (IsMember m) made member inv.exist inv.exists in
    let next = ap (λ (t : Table). declared_behind t (member_of (frames_of m) member) part) (sym (table_later v m inv.grows)) ∙ c.in_ok-member-2.ensures.value in
    let same = sym (mapped_last (member_of (frames_of m)) made member) ∙ (sym (members_later m w (made ++ member ∷ []) grows all) ∙ ap (map (member_of (frames_of w))) (sym put)) in
    record {
      grows = grows_trans v m w inv.grows grows;
      exist = subst (Every (IsMember w)) (sym put) (are_members_later m w (made ++ member ∷ []) grows all);
      exists = c.in_ok-member-2.ensures.exists;
      left = inv.left
          ∙ (more_left (table_in v) (map (member_of (frames_of m)) made) (member_of (frames_of m) member) (member_of (frames_of w) c.in_ok-member-2.member) others c.loop-part.part-index part
          c.loop-part-test.true c.part-item.is next
          ∙ ap (λ (ms : List Member). Left (table_in v) ms (member_of (frames_of w) c.in_ok-member-2.member) (drop (c.loop-part.part-index + 1) others)) same);
    }

pub returns-in_err-push-clause-grows : goal.returns-in_err-push-clause-grows
returns-in_err-push-clause-grows c = grows_trans c.args.s.now c.declared_first.new.s c.loop-part.s c.in_ok-member.ensures.grows c.loop-part.invariant.grows

pub returns-in_err-push-2-clause-grows : goal.returns-in_err-push-2-clause-grows
returns-in_err-push-2-clause-grows c = grows_trans c.args.s.now c.declared_first.new.s c.loop-part.s c.in_ok-member.ensures.grows c.loop-part.invariant.grows

pub returns-in_err-member-2-clause-grows : goal.returns-in_err-member-2-clause-grows
returns-in_err-member-2-clause-grows c =
    let m = c.loop-part.s in
    let w = c.declared_behind.new.s in
    grows_trans c.args.s.now c.declared_first.new.s w c.in_ok-member.ensures.grows (grows_trans c.declared_first.new.s m w c.loop-part.invariant.grows c.in_err-member-2.ensures.grows)

pub returns-in_err-member-2-clause-value : goal.returns-in_err-member-2-clause-value
returns-in_err-member-2-clause-value c =
    let u = c.args.s.now in
    let v = c.declared_first.new.s in
    let m = c.loop-part.s in
    let w = c.declared_behind.new.s in
    let inv = c.loop-part.invariant in
    let at = c.args.at.now in
    let reference = c.args.reference.now in
    let made = map (member_of (frames_of m)) c.loop-part.made in
    let member = member_of (frames_of m) c.loop-part.member in
    let xs = c.as_slice.result.now in
    let others = take (length xs - 1) (drop 1 xs) in
    let part = c.part-item.result in
    let first = c.in_ok-member.ensures.grows in
    let same = ap (λ (t : Table). declared_by_name t (scope_in (frames_of v) at.frame.0 at.iters) reference) (table_later u v first)
    ∙ ap (λ (scope : Scope). declared_by_name (table_in u) scope reference) (scope_later u v at.frame.0 at.iters first c.requires) in
    let stop = c.in_err-member-2.field-0.0 in
    let p : c.from_residual-in_err-member-2.result ≡ Err stop = search rules in
    rw p (subst (Gives {T = List MemberAt} (map (member_of (frames_of w))) (Err stop)) (sym inv.left ∙ same)
    (more_stops (table_in v) (map (member_of (frames_of w))) (member_of (frames_of w)) made member others c.loop-part.part-index part stop c.loop-part-test.true c.part-item.is
    (subst (λ (t : Table). Gives {T = MemberAt} (member_of (frames_of w)) (Err stop) (declared_behind t member part)) (table_later v m inv.grows) c.in_err-member-2.ensures.value)))

pub returns-clause-grows : goal.returns-clause-grows
returns-clause-grows c = grows_trans c.args.s.now c.declared_first.new.s c.loop-part.s c.in_ok-member.ensures.grows c.loop-part.invariant.grows

pub returns-clause-value : goal.returns-clause-value
returns-clause-value c =
    let u = c.args.s.now in
    let v = c.declared_first.new.s in
    let m = c.loop-part.s in
    let inv = c.loop-part.invariant in
    let at = c.args.at.now in
    let reference = c.args.reference.now in
    let seen = member_of (frames_of m) in
    let made = c.loop-part.made in
    let member = c.loop-part.member in
    let xs = c.as_slice.result.now in
    let others = take (length xs - 1) (drop 1 xs) in
    let first = c.in_ok-member.ensures.grows in
    let same = ap (λ (t : Table). declared_by_name t (scope_in (frames_of v) at.frame.0 at.iters) reference) (table_later u v first)
    ∙ ap (λ (scope : Scope). declared_by_name (table_in u) scope reference) (scope_later u v at.frame.0 at.iters first c.requires) in
    sym same ∙ (inv.left ∙ (end_left (table_in v) (map seen made) (seen member) others c.loop-part.part-index c.loop-part-test.false
    ∙ ap (λ (ms : List Member). Ok ms) (sym (mapped_last seen made member) ∙ ap (map seen) (sym c.in_ok-push-2.ensures.ok))))

pub returns-clause-exist : goal.returns-clause-exist
returns-clause-exist c =
    let m = c.loop-part.s in
    subst (Every (IsMember m)) (sym c.in_ok-push-2.ensures.ok) (every_last (IsMember m) c.loop-part.made c.loop-part.member c.loop-part.invariant.exist c.loop-part.invariant.exists)
