-- One component more.
use Rattle.std.proofs.Common.{◌≡◌, ◌+◌, List, Bool, Ok, Err, map, take, drop, ap, sym, subst, ◌∙◌, rules}
use Rattle.std.proofs.lemmas.List.{take_all}
use Rattle.mo_scope.specs.declared.row.Member.{Member as MemberAt}
use Rattle.mo_scope.specs.Frames.{Member}
use Rattle.mo_scope.specs.Rows.{Table}
use Rattle.mo_scope.specs.Worlds.{frames_of, table_in}
use Rattle.mo_names.specs.Sights.{IsMember, member_of}
use Rattle.mo_names.proofs.Later.{grows_refl, grows_trans, is_member_later, member_later, table_later}
use Rattle.mo_typing.specs.Outcome.{Gives, each}
use Rattle.mo_equations.specs.Ends.{is_connector_member}
use Rattle.mo_equations.proofs.Eaching.{each_more, each_stops}
use Rattle.mo_equations.proofs.Formed.{mapped_split, mapped_taken}
use Rattle.mo_equations.proofs.Lists.{every_at, split_at}
use Rattle.mo_equations.proofs.ends.connectors_among.Goals as goal

pub loop-member-init : goal.loop-member-init
loop-member-init c = record { grows = grows_refl c.args.s.now; told = ap (λ (bs : List Bool). Ok bs) (sym c.new-made.ensures) }

pub is_connector_member-requires : goal.is_connector_member-requires
is_connector_member-requires c =
    is_member_later c.args.s.now c.loop-member.s c.member-item.result c.loop-member.invariant.grows
    (every_at (IsMember c.args.s.now) c.args.members.now c.loop-member.member-index c.member-item.result c.requires c.loop-member-test.true c.member-item.is)

pub returns-clause-value : goal.returns-clause-value
returns-clause-value c =
    ap (λ (ms : List MemberAt). each (is_connector_member (table_in c.args.s.now)) (map (member_of (frames_of c.args.s.now)) ms)) (sym (take_all c.loop-member.member-index c.args.members.now c.loop-member-test.false))
    ∙ c.loop-member.invariant.told

pub returns-in_err-is_connector_member-clause-value : goal.returns-in_err-is_connector_member-clause-value
returns-in_err-is_connector_member-clause-value c =
    let u = c.args.s.now in
    let v = c.loop-member.s in
    let all = c.args.members.now in
    let i = c.loop-member.member-index in
    let item = c.member-item.result in
    let inv = c.loop-member.invariant in
    let is = every_at (IsMember u) all i item c.requires c.loop-member-test.true c.member-item.is in
    let seen = member_of (frames_of u) in
    let same = ap (λ (T : Table). is_connector_member T (member_of (frames_of v) item)) (table_later u v inv.grows) ∙ ap (is_connector_member (table_in u)) (member_later u v item inv.grows is) in
    let split = ap (map seen) (split_at all i item c.loop-member-test.true c.member-item.is) ∙ mapped_split seen (take i all) (drop (i + 1) all) item in
    let stop = c.in_err-is_connector_member.field-0.0 in
    let p : c.from_residual.result ≡ Err stop = search rules in
    rw p (subst (λ (ms : List Member). Gives {T = List Bool} (Err stop) (each (is_connector_member (table_in u)) ms)) (sym split)
    (each_stops (is_connector_member (table_in u)) (map seen (take i all)) (map seen (drop (i + 1) all)) (seen item) c.loop-member.made stop inv.told
    (subst (Gives {T = Bool} (Err stop)) same c.in_err-is_connector_member.ensures.value)))

pub loop-member-preserved : goal.loop-member-preserved
loop-member-preserved c =
    let u = c.args.s.now in
    let v = c.loop-member.s in
    let all = c.args.members.now in
    let i = c.loop-member.member-index in
    let item = c.member-item.result in
    let inv = c.loop-member.invariant in
    let is = every_at (IsMember u) all i item c.requires c.loop-member-test.true c.member-item.is in
    let seen = member_of (frames_of u) in
    let same = ap (λ (T : Table). is_connector_member T (member_of (frames_of v) item)) (table_later u v inv.grows) ∙ ap (is_connector_member (table_in u)) (member_later u v item inv.grows is) in
    let b = c.in_ok-is_connector_member.field-0 in
    let told = sym same ∙ c.in_ok-is_connector_member.ensures.value in
    record {
      grows = grows_trans u v c.is_connector_member.new.s inv.grows c.in_ok-is_connector_member.ensures.grows;
      told = ap (each (is_connector_member (table_in u))) (mapped_taken seen all i item item c.loop-member-test.true c.member-item.is)
          ∙ each_more (is_connector_member (table_in u)) (map seen (take i all)) (seen item) c.loop-member.made b inv.told told
          ∙ ap (λ (bs : List Bool). Ok bs) (sym c.in_ok-push.ensures.ok);
    }
