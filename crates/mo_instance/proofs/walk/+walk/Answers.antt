-- One element of a frame after another; one component, one number after another.
use Rattle.std.proofs.Common.{◌≡◌, ℕ, ◌+◌, ◌-◌, ◌∷◌, Bool, [], List, Ok, Err, drop, get_or, length, length-append, map, ap, sym, subst, ◌∙◌, arith}
use Rattle.std.specs.List.{list_any}
use Rattle.std.specs.Prelude.{if◌then◌else◌, nat_eq}
use Rattle.std.proofs.lemmas.List.{drop_all}
use Rattle.std.proofs.lemmas.Result.{err_from_is_err_and}
use Rattle.mo_scope.specs.Instances.{Instance}
use Rattle.mo_scope.specs.Outcome.{Gives}
use Rattle.mo_scope.specs.Places.{Every}
use Rattle.mo_scope.specs.declared.instance.Instance.{Instance as InstanceAt}
use Rattle.mo_scope.specs.Trees.{instance_in, instances_in}
use Rattle.mo_scope.specs.Worlds.{frames_of, table_in}
use Rattle.mo_names.specs.declared.walk.Inherited.{Inherited}
use Rattle.mo_names.specs.declared.walk.Walk.{Walk as WalkAt}
use Rattle.mo_names.specs.Sights.{IsInherited, inherited_seen, member_of, walk_seen}
use Rattle.mo_names.proofs.Circling.{left_from, then_ok}
use Rattle.mo_names.proofs.Later.{grows_trans, is_member_later}
use Rattle.mo_eval.proofs.Grown.{kept_still}
use Rattle.mo_instance.specs.declared.prefixes.Around.{Around as AroundAt}
use Rattle.mo_instance.specs.Instances.{component_entered, deeper, member_entered, parts_entered}
use Rattle.mo_instance.specs.steps.Sights.{IsEntered, around_seen}
use Rattle.mo_instance.specs.steps.Instances.{component_asked, elements_to, elements_under, is_entered, members_added}
use Rattle.mo_instance.proofs.Adding.{component_added, component_empty, element_added, element_broken, member_added, member_left_out, under_next}
use Rattle.mo_instance.proofs.Later.{are_instances_later}
use Rattle.mo_instance.proofs.Lists.{broken_on, broken_to, every_at, every_more, gives_as, same_default}
use Rattle.mo_instance.proofs.Walking.{component_is, elements_all, elements_err, elements_of, member_before, member_is, no_depth, under_whole}
use Rattle.mo_instance.proofs.walk.+walk.Goals as goal

-- ---- members_entered

pub members_entered-returns-in_err-member_entered-clause-value : goal.members_entered-returns-in_err-member_entered-clause-value
members_entered-returns-in_err-member_entered-clause-value t c =
    let p = err_from_is_err_and c.from_residual.result c.from_residual.ensures.1 in
    let T = table_in c.args.s.now in
    let F = frames_of c.args.s.now in
    let A = around_seen c.args.level.now.around in
    let now : List Instance = instances_in c.loop-inherited.s c.loop-inherited.work.instances in
    let is = every_at (IsInherited c.args.s.now) c.args.members.now c.loop-inherited.inherited-index c.inherited-item.result c.requires.members c.loop-inherited-test.true c.inherited-item.is in
    rw (p.1, p.2) (broken_on {T = Unit {0}} {U = Unit {0}} {A = List Instance} {B = List Instance} (λ _. instances_in c.member_entered.new.s c.member_entered.new.work.instances) (λ _. instances_in c.member_entered.new.s c.member_entered.new.work.instances)
    c.in_err-member_entered.field-0.0 (member_entered T (deeper T c.args.level.now.left) A (member_of F c.inherited-item.result.member) now)
    (members_added T c.args.level.now.left A (map (inherited_seen F) (drop (c.loop-inherited.inherited-index + 1) c.args.members.now))) _
    (subst (Gives {T = Unit {0}} {A = List Instance} (λ _. instances_in c.member_entered.new.s c.member_entered.new.work.instances) (Err c.in_err-member_entered.field-0.0))
    (member_before c.args.s.now c.loop-inherited.s c.args.level.now.left A c.inherited-item.result.member now c.loop-inherited.invariant.grows is.member)
    c.in_err-member_entered.ensures.value)
    (left_from (λ (xs : List Inherited). members_added T c.args.level.now.left A (map (inherited_seen F) xs) now) c.args.members.now c.loop-inherited.inherited-index c.inherited-item.result _ c.loop-inherited-test.true c.inherited-item.is
    c.loop-inherited.invariant.left))

pub members_entered-loop-inherited-preserved : goal.members_entered-loop-inherited-preserved
members_entered-loop-inherited-preserved t c =
    let T = table_in c.args.s.now in
    let F = frames_of c.args.s.now in
    let A = around_seen c.args.level.now.around in
    let now : List Instance = instances_in c.loop-inherited.s c.loop-inherited.work.instances in
    let is = every_at (IsInherited c.args.s.now) c.args.members.now c.loop-inherited.inherited-index c.inherited-item.result c.requires.members c.loop-inherited-test.true c.inherited-item.is in
    record {
      grows = grows_trans c.args.s.now c.loop-inherited.s c.member_entered.new.s c.loop-inherited.invariant.grows c.in_ok-member_entered.ensures.grows;
      kept = c.in_ok-member_entered.ensures.kept;
      are = c.in_ok-member_entered.ensures.are;
      left =
          then_ok (member_entered T (deeper T c.args.level.now.left) A (member_of F c.inherited-item.result.member) now)
          (members_added T c.args.level.now.left A (map (inherited_seen F) (drop (c.loop-inherited.inherited-index + 1) c.args.members.now)))
          (instances_in c.member_entered.new.s c.member_entered.new.work.instances) _
          (left_from (λ (xs : List Inherited). members_added T c.args.level.now.left A (map (inherited_seen F) xs) now) c.args.members.now c.loop-inherited.inherited-index c.inherited-item.result _ c.loop-inherited-test.true c.inherited-item.is
          c.loop-inherited.invariant.left)
          (sym (member_before c.args.s.now c.loop-inherited.s c.args.level.now.left A c.inherited-item.result.member now c.loop-inherited.invariant.grows is.member) ∙ c.in_ok-member_entered.ensures.value);
    }

pub members_entered-member_entered-requires : goal.members_entered-member_entered-requires
members_entered-member_entered-requires t c =
    let is = every_at (IsInherited c.args.s.now) c.args.members.now c.loop-inherited.inherited-index c.inherited-item.result c.requires.members c.loop-inherited-test.true c.inherited-item.is in (
      omega arith,
      (is_member_later c.args.s.now c.loop-inherited.s c.inherited-item.result.member c.loop-inherited.invariant.grows is.member, (c.loop-inherited.invariant.kept, c.loop-inherited.invariant.are)),
    )

pub members_entered-returns-clause-value : goal.members_entered-returns-clause-value
members_entered-returns-clause-value t c =
    sym c.loop-inherited.invariant.left
    ∙ ap (λ (xs : List Inherited). members_added (table_in c.args.s.now) c.args.level.now.left (around_seen c.args.level.now.around) (map (inherited_seen (frames_of c.args.s.now)) xs) (instances_in c.loop-inherited.s c.loop-inherited.work.instances))
    (drop_all c.loop-inherited.inherited-index c.args.members.now c.loop-inherited-test.false)

-- ---- member_entered

pub member_entered-returns-in_err-enters-clause-value : goal.member_entered-returns-in_err-enters-clause-value
member_entered-returns-in_err-enters-clause-value t c =
    let p = err_from_is_err_and c.from_residual.result c.from_residual.ensures.1 in
    let T = table_in c.args.s.now in
    let A = around_seen c.args.level.now.around in
    let m = member_of (frames_of c.args.s.now) c.args.member.now in
    let now : List Instance = instances_in c.args.s.now c.args.work.now.instances in
    rw (p.1, p.2) (broken_on {T = Bool} {U = Unit {0}} (λ is. is) (λ _. instances_in c.is_entered.new.s c.args.work.now.instances) c.in_err-enters.field-0.0 (is_entered T m)
    (λ is. if is then component_entered T (deeper T c.args.level.now.left) A m now else Ok now) _
    c.in_err-enters.ensures.value (member_is T (deeper T c.args.level.now.left) A m now))

pub member_entered-component_entered-requires : goal.member_entered-component_entered-requires
member_entered-component_entered-requires t c = (
  omega arith,
  (
    is_member_later c.args.s.now c.is_entered.new.s c.args.member.now c.in_ok-enters.ensures.grows c.requires.member,
    (c.in_ok-enters.ensures.kept, are_instances_later c.args.s.now c.is_entered.new.s c.args.work.now.instances c.in_ok-enters.ensures.grows c.requires.are),
  ),
)

pub member_entered-returns-then-enters-clause-value : goal.member_entered-returns-then-enters-clause-value
member_entered-returns-then-enters-clause-value t c =
    let A = around_seen c.args.level.now.around in
    subst (Gives {T = Unit {0}} {A = List Instance} (λ _. instances_in c.component_entered.new.s c.component_entered.new.work.instances) c.component_entered.result)
    (member_added c.args.s.now c.is_entered.new.s c.args.level.now.left A c.args.member.now c.args.work.now.instances c.in_ok-enters.ensures.grows c.requires.member c.requires.are
    (c.in_ok-enters.ensures.value ∙ ap (λ (b : Bool). Ok b) c.if-enters.true))
    c.component_entered.ensures.value

pub member_entered-returns-clause-value : goal.member_entered-returns-clause-value
member_entered-returns-clause-value t c =
    member_left_out c.args.s.now c.is_entered.new.s c.args.level.now.left (around_seen c.args.level.now.around) (member_of (frames_of c.args.s.now) c.args.member.now) c.args.work.now.instances
    c.in_ok-enters.ensures.grows c.requires.are (c.in_ok-enters.ensures.value ∙ ap (λ (b : Bool). Ok b) c.if-enters.false)

-- ---- component_entered

pub component_entered-returns-in_err-asked-clause-value : goal.component_entered-returns-in_err-asked-clause-value
component_entered-returns-in_err-asked-clause-value t c =
    let p = err_from_is_err_and c.from_residual.result c.from_residual.ensures.1 in
    let T = table_in c.args.s.now in
    let A = around_seen c.args.level.now.around in
    let m = member_of (frames_of c.args.s.now) c.args.member.now in
    let now : List Instance = instances_in c.args.s.now c.args.work.now.instances in
    rw (p.1, p.2) (broken_on {U = Unit {0}} (λ (asked : AroundAt × List ℕ). (around_seen asked.0, asked.1)) (λ _. instances_in c.component_asked.new.s c.args.work.now.instances) c.in_err-asked.field-0.0 (component_asked T A m)
    (λ asked. elements_of T (deeper T c.args.level.now.left) m asked now) _
    c.in_err-asked.ensures.value (component_is T (deeper T c.args.level.now.left) A m now))

pub component_entered-returns-then-level-eq0-clause-value : goal.component_entered-returns-then-level-eq0-clause-value
component_entered-returns-then-level-eq0-clause-value t c =
    let T = table_in c.args.s.now in
    let A = around_seen c.args.level.now.around in
    let m = member_of (frames_of c.args.s.now) c.args.member.now in
    let now : List Instance = instances_in c.args.s.now c.args.work.now.instances in
    rw c.stop.ensures (no_depth T c.args.level.now.left A m now _ c.in_ok-asked.ensures.value c.if-level-eq0.true)

pub component_entered-returns-then-has_none-clause-value : goal.component_entered-returns-then-has_none-clause-value
component_entered-returns-then-has_none-clause-value t c =
    component_empty c.args.s.now c.component_asked.new.s c.args.level.now.left (around_seen c.args.level.now.around) (member_of (frames_of c.args.s.now) c.args.member.now) _ c.args.work.now.instances
    c.in_ok-asked.ensures.grows c.requires.are c.in_ok-asked.ensures.value (omega arith)
    (sym (ap (list_any (λ n. nat_eq n 0)) c.as_slice.ensures) ∙ sym c.has_none.ensures ∙ c.if-has_none.true)

pub component_entered-elements_under-requires : goal.component_entered-elements_under-requires
component_entered-elements_under-requires t c = (
  omega arith,
  (
    is_member_later c.args.s.now c.component_asked.new.s c.args.member.now c.in_ok-asked.ensures.grows c.requires.member,
    (c.in_ok-asked.ensures.kept, are_instances_later c.args.s.now c.component_asked.new.s c.args.work.now.instances c.in_ok-asked.ensures.grows c.requires.are),
  ),
)

pub component_entered-returns-clause-value : goal.component_entered-returns-clause-value
component_entered-returns-clause-value t c =
    let v = c.component_asked.new.s in
    subst (Gives {T = Unit {0}} {A = List Instance} (λ _. instances_in c.elements_under.new.s c.elements_under.new.work.instances) c.elements_under.result)
    (ap (λ (ds : List ℕ). elements_under (table_in v) (parts_entered (table_in v) (deeper (table_in v) (c.args.level.now.left - 1))) (around_seen c.in_ok-asked.asked.0) (member_of (frames_of v) c.args.member.now) ds [] ds (instances_in v c.args.work.now.instances)) c.as_slice-2.ensures
    ∙ component_added c.args.s.now v c.args.level.now.left (around_seen c.args.level.now.around) c.args.member.now (around_seen c.in_ok-asked.asked.0, c.in_ok-asked.asked.1) c.args.work.now.instances
    c.in_ok-asked.ensures.grows c.requires.member c.requires.are c.in_ok-asked.ensures.value (omega arith))
    c.elements_under.ensures.value

-- ---- elements_under

pub elements_under-element_entered-requires : goal.elements_under-element_entered-requires
elements_under-element_entered-requires t c = (omega arith, (c.requires.member, (c.requires.kept, c.requires.are)))

pub elements_under-elements_under-requires : goal.elements_under-elements_under-requires
elements_under-elements_under-requires t c =
    let longer : length c.as_slice.result.now ≡ length c.args.before.now + 1
    = ap length (c.as_slice.ensures ∙ c.in_ok-index.ensures) ∙ length-append c.args.before.now ((c.loop-place.place + 1) ∷ []) in (
      omega (arith, longer, c.if-at-dims.false),
      (is_member_later c.args.s.now c.loop-place.s c.args.member.now c.loop-place.invariant.grows c.requires.member, (c.loop-place.invariant.kept, c.loop-place.invariant.are)),
    )

pub elements_under-returns-then-at-dims-clause-value : goal.elements_under-returns-then-at-dims-clause-value
elements_under-returns-then-at-dims-clause-value t c =
    let T = table_in c.args.s.now in
    let m = member_of (frames_of c.args.s.now) c.args.member.now in
    subst (Gives {T = Unit {0}} {A = List Instance} (λ _. instances_in c.element_entered.new.s c.element_entered.new.work.instances) c.element_entered.result)
    (under_whole T (parts_entered T (deeper T c.args.level.now.left)) (around_seen c.args.level.now.around) m c.args.dims.now c.args.before.now (instances_in c.args.s.now c.args.work.now.instances) (omega arith))
    c.element_entered.ensures.value

pub elements_under-returns-in_err-elements_under-clause-value : goal.elements_under-returns-in_err-elements_under-clause-value
elements_under-returns-in_err-elements_under-clause-value t c =
    let p = err_from_is_err_and c.from_residual-in_err-elements_under.result c.from_residual-in_err-elements_under.ensures.1 in
    let u = c.args.s.now in
    let T = table_in u in
    let P = parts_entered T (deeper T c.args.level.now.left) in
    let A = around_seen c.args.level.now.around in
    let m = member_of (frames_of u) c.args.member.now in
    let start : List Instance = instances_in u c.args.work.now.instances in
    let view = λ (_ : Unit {0}). instances_in c.elements_under.new.s c.elements_under.new.work.instances in
    let size = get_or c.args.dims.now (length c.args.before.now) 0 in
    rw (p.1, p.2) (broken_to view view c.in_err-elements_under.field-0.0 (elements_to T P A m c.args.dims.now c.args.before.now (c.loop-place.place + 1) start) _
    (gives_as view (Err c.in_err-elements_under.field-0.0) _ _
    (under_next u c.loop-place.s c.args.level.now.left A c.args.member.now c.args.dims.now c.args.before.now c.loop-place.place c.as_slice.result.now c.loop-place.work.instances start
    c.loop-place.invariant.grows c.requires.member (c.as_slice.ensures ∙ c.in_ok-index.ensures) c.loop-place.invariant.so_far)
    c.in_err-elements_under.ensures.value)
    (λ b broken. sym (elements_all T P A m c.args.dims.now c.args.before.now size start c.if-at-dims.false (same_default c.args.dims.now (length c.args.before.now) 0 size c.if-at-dims.false))
    ∙ elements_err T P A m c.args.dims.now c.args.before.now (c.loop-place.place + 1) size start b (omega (arith, c.loop-place-test.true)) broken))

pub elements_under-loop-place-preserved : goal.elements_under-loop-place-preserved
elements_under-loop-place-preserved t c =
    let u = c.args.s.now in
    let v = c.loop-place.s in
    record {
      grows = grows_trans u v c.elements_under.new.s c.loop-place.invariant.grows c.in_ok-elements_under.ensures.grows;
      kept = c.in_ok-elements_under.ensures.kept;
      are = c.in_ok-elements_under.ensures.are;
      so_far =
          sym (under_next u v c.args.level.now.left (around_seen c.args.level.now.around) c.args.member.now c.args.dims.now c.args.before.now c.loop-place.place c.as_slice.result.now c.loop-place.work.instances
          (instances_in u c.args.work.now.instances)
          c.loop-place.invariant.grows c.requires.member (c.as_slice.ensures ∙ c.in_ok-index.ensures) c.loop-place.invariant.so_far)
          ∙ c.in_ok-elements_under.ensures.value;
    }

pub elements_under-returns-clause-value : goal.elements_under-returns-clause-value
elements_under-returns-clause-value t c =
    let T = table_in c.args.s.now in
    let P = parts_entered T (deeper T c.args.level.now.left) in
    let A = around_seen c.args.level.now.around in
    let m = member_of (frames_of c.args.s.now) c.args.member.now in
    let start : List Instance = instances_in c.args.s.now c.args.work.now.instances in
    let size = get_or c.args.dims.now (length c.args.before.now) 0 in
    let all : size ≡ c.loop-place.place = omega (arith, c.loop-place-test.false, c.loop-place.auto.place-end) in
    sym (elements_all T P A m c.args.dims.now c.args.before.now size start c.if-at-dims.false (same_default c.args.dims.now (length c.args.before.now) 0 size c.if-at-dims.false))
    ∙ ap (λ (n : ℕ). elements_to T P A m c.args.dims.now c.args.before.now n start) all
    ∙ c.loop-place.invariant.so_far

-- ---- element_entered

pub element_entered-returns-in_err-made-clause-value : goal.element_entered-returns-in_err-made-clause-value
element_entered-returns-in_err-made-clause-value t c =
    let p = err_from_is_err_and c.from_residual.result c.from_residual.ensures.1 in
    rw (p.1, p.2) (element_broken {U = Unit {0}} (λ (made : InstanceAt × WalkAt). (instance_in (frames_of c.element_made.new.s) made.0, walk_seen (frames_of c.element_made.new.s) made.1)) (λ _. instances_in c.element_made.new.s c.args.work.now.instances) c.args.s.now c.args.level.now.left (around_seen c.args.level.now.around) (member_of (frames_of c.args.s.now) c.args.member.now)
    c.args.dims.now c.args.index.now c.args.work.now.instances c.len-count.result c.in_err-made.field-0.0 c.len-count.ensures c.in_err-made.ensures.value)

pub element_entered-members_entered-requires : goal.element_entered-members_entered-requires
element_entered-members_entered-requires t c = (
  omega arith,
  (
    subst (Every (IsInherited c.element_made.new.s)) (sym c.as_slice.ensures) c.in_ok-made.ensures.stand.1.members,
    (
      kept_still c.args.s.now c.element_made.new.s c.in_ok-made.ensures.grows c.args.work.now.reader c.requires.kept,
      every_more (IsEntered c.element_made.new.s) c.args.work.now.instances c.push.new.self c.in_ok-made.made.0 c.in_ok-push.ensures.ok
          (are_instances_later c.args.s.now c.element_made.new.s c.args.work.now.instances c.in_ok-made.ensures.grows c.requires.are) c.in_ok-made.ensures.stand.0,
    ),
  ),
)

pub element_entered-returns-clause-value : goal.element_entered-returns-clause-value
element_entered-returns-clause-value t c =
    subst (Gives {T = Unit {0}} {A = List Instance} (λ _. instances_in c.members_entered.new.s c.members_entered.new.work.instances) c.members_entered.result)
    (ap (λ (ms : List Inherited). members_added (table_in c.element_made.new.s) c.args.level.now.left (around_seen c.args.level.now.around) (map (inherited_seen (frames_of c.element_made.new.s)) ms) (instances_in c.element_made.new.s c.push.new.self)) c.as_slice.ensures
    ∙ element_added c.args.s.now c.element_made.new.s c.args.level.now.left (around_seen c.args.level.now.around) (member_of (frames_of c.args.s.now) c.args.member.now)
    c.args.dims.now c.args.index.now c.args.work.now.instances c.push.new.self c.in_ok-made.made.0 c.in_ok-made.made.1 c.len-count.result
    c.in_ok-made.ensures.grows c.requires.are c.len-count.ensures c.in_ok-push.ensures.ok c.in_ok-made.ensures.value)
    c.members_entered.ensures.value

pub component_entered-returns-clause-grows : goal.component_entered-returns-clause-grows
component_entered-returns-clause-grows t c = grows_trans _ _ _ c.in_ok-asked.ensures.grows c.elements_under.ensures.grows

pub element_entered-returns-clause-grows : goal.element_entered-returns-clause-grows
element_entered-returns-clause-grows t c = grows_trans _ _ _ c.in_ok-made.ensures.grows c.members_entered.ensures.grows

pub member_entered-returns-then-enters-clause-grows : goal.member_entered-returns-then-enters-clause-grows
member_entered-returns-then-enters-clause-grows t c = grows_trans _ _ _ c.in_ok-enters.ensures.grows c.component_entered.ensures.grows
