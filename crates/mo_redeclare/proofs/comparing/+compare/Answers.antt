-- One step further.
use Rattle.mo_names.proofs.Later.{grows_refl, grows_trans, is_member_later}
use Rattle.mo_names.specs.Sights.{member_of, IsInherited, inherited_seen, walk_at}
use Rattle.mo_names.specs.declared.walk.Inherited.{Inherited}
use Rattle.mo_redeclare.proofs.Later.{are_kept_later, matched_before}
use Rattle.mo_redeclare.proofs.Matching.{nothing_matches, one_matches, leaves_first, compared_further, none_left, pair_left}
use Rattle.mo_redeclare.proofs.Outcomes.{err_on, every_at, left_from, then_ok}
use Rattle.mo_redeclare.proofs.Tables.{all_kept, every_filter, matched_open, members_are, open_twice}
use Rattle.mo_redeclare.specs.steps.Sights.{IsKept, entry_of, is_open}
use Rattle.mo_redeclare.specs.steps.Comparing.{element_matched, leaves_compared, components_compared}
use Rattle.mo_scope.specs.Compatible.{compatible_from, are_matched, Pairs}
use Rattle.mo_scope.specs.Frames.{Member}
use Rattle.mo_scope.specs.Lookup.{Walked, members_in}
use Rattle.mo_scope.specs.Outcome.{Gives}
use Rattle.mo_scope.specs.Places.{Every}
use Rattle.mo_scope.specs.Worlds.{frames_of, table_in, member_in, MemberEntry, frame_at}
use Rattle.mo_scope.specs.Sights.{member_at}
use Rattle.std.proofs.Common.{sym, subst, ◌+◌, List, Err, drop, map, ap, ◌∙◌, Bool, true, false, Ok, ◌-◌, arith}
use Rattle.std.proofs.lemmas.List.{drop_all}
use Rattle.std.proofs.lemmas.Result.{err_from_is_err_and}
use Rattle.std.specs.Prelude.{filter, if◌then◌else◌}
use Rattle.mo_redeclare.proofs.comparing.+compare.Goals as goal

pub frames_compared-returns-then-left-lt1-clause-value : goal.frames_compared-returns-then-left-lt1-clause-value
frames_compared-returns-then-left-lt1-clause-value t c =
    none_left (table_in c.args.s.now) c.args.at.now.place c.args.at.now.pairs.now (frame_at c.args.s.now c.args.new.0) (frame_at c.args.s.now c.args.wanted.0) c.args.at.now.left (omega (arith, c.if-left-lt1.true))

pub frames_compared-returns-then-among-clause-value : goal.frames_compared-returns-then-among-clause-value
frames_compared-returns-then-among-clause-value t c =
    pair_left (table_in c.args.s.now) c.args.at.now.place c.args.at.now.pairs.now (frame_at c.args.s.now c.args.new.0) (frame_at c.args.s.now c.args.wanted.0) c.args.at.now.left (sym c.is_pair-among.ensures ∙ c.if-among.true)

pub frames_compared-returns-clause-value : goal.frames_compared-returns-clause-value
frames_compared-returns-clause-value t c =
    let T = table_in c.args.s.now in
    let a = frame_at c.args.s.now c.args.new.0 in
    let b = frame_at c.args.s.now c.args.wanted.0 in
    subst (Gives {T = Unit {0}} (λ _. tt) c.components_compared.result)
    (ap (λ (ps : Pairs). components_compared T (c.args.at.now.left - 1) c.args.at.now.place ps a b) (c.as_slice.ensures ∙ c.in_ok-pairs.ensures)
    ∙ compared_further T c.args.at.now.place c.args.at.now.pairs.now a b c.args.at.now.left (omega (arith, c.if-left-lt1.false)) (sym c.is_pair-among.ensures ∙ c.if-among.false))
    c.components_compared.ensures.value

pub is_matched-returns-in-Some-clause-value : goal.is_matched-returns-in-Some-clause-value
is_matched-returns-in-Some-clause-value t c =
    let F = frames_of c.args.s.now in
    let T = table_in c.args.s.now in
    subst (Gives {T = Unit {0}} (λ _. tt) c.pair_compared.result)
    (one_matches T (compatible_from T c.args.at.now.left c.args.at.now.place c.args.at.now.pairs.now) c.args.at.now.place F c.args.members.now c.requires.public (member_of F c.args.wanted.now)
    (member_of F c.in-Some.new) (sym c.in-Some.ensures.is))
    c.pair_compared.ensures.value

pub is_matched-returns-in-None-clause-value : goal.is_matched-returns-in-None-clause-value
is_matched-returns-in-None-clause-value t c =
    let F = frames_of c.args.s.now in
    let T = table_in c.args.s.now in
    rw c.stop.ensures
    (nothing_matches T (compatible_from T c.args.at.now.left c.args.at.now.place c.args.at.now.pairs.now) c.args.at.now.place F c.args.members.now c.requires.public (member_of F c.args.wanted.now)
    (sym c.in-None.ensures.is))

pub are_matched-returns-in_err-element_matched-clause-value : goal.are_matched-returns-in_err-element_matched-clause-value
are_matched-returns-in_err-element_matched-clause-value t c =
    let p = err_from_is_err_and c.from_residual.result c.from_residual.ensures.1 in
    let T = table_in c.args.s.now in
    let C = compatible_from T c.args.at.now.left c.args.at.now.place c.args.at.now.pairs.now in
    let M : List Member = map (member_in (frames_of c.args.s.now)) c.args.members.now in
    let G = λ (xs : List Inherited). are_matched T C c.args.at.now.place M (map (λ inherited. inherited.member) (map (inherited_seen (frames_of c.args.s.now)) xs)) in
    let is = every_at (IsInherited c.args.s.now) c.args.wanted.now c.loop-inherited.inherited-index c.inherited-item.result c.requires.wanted c.loop-inherited-test.true c.inherited-item.is in
    let m : Member = member_at c.args.s.now c.inherited-item.result.member in
    rw (p.1, p.2) (err_on {T = Unit {0}} {U = Unit {0}} (λ _. tt) (λ _. tt) c.in_err-element_matched.field-0.0 (element_matched T C c.args.at.now.place M m)
    (λ _. G (drop (c.loop-inherited.inherited-index + 1) c.args.wanted.now)) _
    (subst (Gives {T = Unit {0}} (λ _. tt) (Err c.in_err-element_matched.field-0.0))
    (matched_before c.args.s.now c.loop-inherited.s c.args.at.now.left c.args.at.now.place c.args.at.now.pairs.now c.args.members.now c.inherited-item.result.member c.loop-inherited.invariant.grows c.requires.members is.member)
    c.in_err-element_matched.ensures.value)
    (left_from G c.args.wanted.now c.loop-inherited.inherited-index c.inherited-item.result _ c.loop-inherited-test.true c.inherited-item.is c.loop-inherited.invariant.left))

pub are_matched-element_matched-requires : goal.are_matched-element_matched-requires
are_matched-element_matched-requires t c =
    let u = c.args.s.now in
    let v = c.loop-inherited.s in
    let grows = c.loop-inherited.invariant.grows in
    let is = every_at (IsInherited u) c.args.wanted.now c.loop-inherited.inherited-index c.inherited-item.result c.requires.wanted c.loop-inherited-test.true c.inherited-item.is in
    (omega arith, (are_kept_later u v c.args.members.now grows c.requires.members, (c.requires.public, is_member_later u v c.inherited-item.result.member grows is.member)))

pub are_matched-loop-inherited-preserved : goal.are_matched-loop-inherited-preserved
are_matched-loop-inherited-preserved t c =
    let T = table_in c.args.s.now in
    let C = compatible_from T c.args.at.now.left c.args.at.now.place c.args.at.now.pairs.now in
    let M : List Member = map (member_in (frames_of c.args.s.now)) c.args.members.now in
    let G = λ (xs : List Inherited). are_matched T C c.args.at.now.place M (map (λ inherited. inherited.member) (map (inherited_seen (frames_of c.args.s.now)) xs)) in
    let is = every_at (IsInherited c.args.s.now) c.args.wanted.now c.loop-inherited.inherited-index c.inherited-item.result c.requires.wanted c.loop-inherited-test.true c.inherited-item.is in
    let m : Member = member_at c.args.s.now c.inherited-item.result.member in
    record {
      grows = grows_trans c.args.s.now c.loop-inherited.s c.element_matched.new.s c.loop-inherited.invariant.grows c.in_ok-element_matched.ensures.grows;
      left =
          then_ok (element_matched T C c.args.at.now.place M m) (λ _. G (drop (c.loop-inherited.inherited-index + 1) c.args.wanted.now)) tt _
          (left_from G c.args.wanted.now c.loop-inherited.inherited-index c.inherited-item.result _ c.loop-inherited-test.true c.inherited-item.is c.loop-inherited.invariant.left)
          (sym (matched_before c.args.s.now c.loop-inherited.s c.args.at.now.left c.args.at.now.place c.args.at.now.pairs.now c.args.members.now c.inherited-item.result.member c.loop-inherited.invariant.grows c.requires.members is.member)
          ∙ c.in_ok-element_matched.ensures.value);
    }

pub are_matched-returns-clause-value : goal.are_matched-returns-clause-value
are_matched-returns-clause-value t c =
    let T = table_in c.args.s.now in
    let C = compatible_from T c.args.at.now.left c.args.at.now.place c.args.at.now.pairs.now in
    let M : List Member = map (member_in (frames_of c.args.s.now)) c.args.members.now in
    sym c.loop-inherited.invariant.left
    ∙ ap (λ (xs : List Inherited). are_matched T C c.args.at.now.place M (map (λ inherited. inherited.member) (map (inherited_seen (frames_of c.args.s.now)) xs))) (drop_all c.loop-inherited.inherited-index c.args.wanted.now c.loop-inherited-test.false)

pub members_compared-are_matched-requires : goal.members_compared-are_matched-requires
members_compared-are_matched-requires t c = (
  omega arith,
  (
    subst (Every (IsKept c.args.s.now)) (sym c.in_ok-members.ensures) (every_filter (IsKept c.args.s.now) is_open (map entry_of c.args.new.now) (all_kept c.args.s.now c.args.new.now c.requires.new)),
    (c.in_ok-members.ensures ∙ sym (open_twice (map entry_of c.args.new.now)) ∙ ap (filter is_open) (sym c.in_ok-members.ensures), c.requires.wanted),
  ),
)

pub members_compared-returns-clause-value : goal.members_compared-returns-clause-value
members_compared-returns-clause-value t c =
    let F = frames_of c.args.s.now in
    let T = table_in c.args.s.now in
    let C = compatible_from T c.args.at.now.left c.args.at.now.place c.args.at.now.pairs.now in
    let W : List Member = map (λ inherited. inherited.member) (map (inherited_seen F) c.args.wanted.now) in
    subst (Gives {T = Unit {0}} (λ _. tt) c.are_matched.result)
    (ap (λ (ms : List MemberEntry). are_matched T C c.args.at.now.place (map (member_in F) ms) W) c.in_ok-members.ensures
    ∙ matched_open T C c.args.at.now.place F (map entry_of c.args.new.now) W
    ∙ ap (λ (ms : List Member). are_matched T C c.args.at.now.place ms W) (members_are F c.args.new.now))
    c.are_matched.ensures.value

pub walks_compared-returns-in_err-no_leaves-clause-value : goal.walks_compared-returns-in_err-no_leaves-clause-value
walks_compared-returns-in_err-no_leaves-clause-value t c =
    let p = err_from_is_err_and c.from_residual.result c.from_residual.ensures.1 in
    let T = table_in c.args.s.now in
    let C = compatible_from T c.args.at.now.left c.args.at.now.place c.args.at.now.pairs.now in
    let a : Walked = walk_at c.args.s.now c.args.new.now in
    let b : Walked = walk_at c.args.s.now c.args.wanted.now in
    rw (p.1, p.2) (err_on {T = Bool} {U = Unit {0}} (λ none. none) (λ _. tt) c.in_err-no_leaves.field-0.0 (leaves_compared c.args.at.now.place a.leaf b.leaf)
    (λ (none : Bool). if none then are_matched T C c.args.at.now.place (members_in a) (members_in b) else Ok tt) _ c.in_err-no_leaves.ensures
    (leaves_first T C c.args.at.now.place a b))

pub walks_compared-returns-then-no_leaves-clause-value : goal.walks_compared-returns-then-no_leaves-clause-value
walks_compared-returns-then-no_leaves-clause-value t c =
    let F = frames_of c.args.s.now in
    let T = table_in c.args.s.now in
    let C = compatible_from T c.args.at.now.left c.args.at.now.place c.args.at.now.pairs.now in
    let a : Walked = walk_at c.args.s.now c.args.new.now in
    let b : Walked = walk_at c.args.s.now c.args.wanted.now in
    subst (Gives {T = Unit {0}} (λ _. tt) c.members_compared.result)
    (ap (λ (xs : List Inherited). are_matched T C c.args.at.now.place (map (λ inherited. inherited.member) (map (inherited_seen F) xs)) (map (λ inherited. inherited.member) (map (inherited_seen F) c.as_slice-then-no_leaves.result.now))) c.as_slice.ensures
    ∙ ap (λ (xs : List Inherited). are_matched T C c.args.at.now.place (members_in a) (map (λ inherited. inherited.member) (map (inherited_seen F) xs))) c.as_slice-then-no_leaves.ensures
    ∙ then_ok (leaves_compared c.args.at.now.place a.leaf b.leaf) (λ (none : Bool). if none then are_matched T C c.args.at.now.place (members_in a) (members_in b) else Ok tt) true _
    (leaves_first T C c.args.at.now.place a b) (c.in_ok-no_leaves.ensures ∙ ap (λ (x : Bool). Ok x) c.if-no_leaves.true))
    c.members_compared.ensures.value

pub walks_compared-returns-clause-value : goal.walks_compared-returns-clause-value
walks_compared-returns-clause-value t c =
    let T = table_in c.args.s.now in
    let C = compatible_from T c.args.at.now.left c.args.at.now.place c.args.at.now.pairs.now in
    let a : Walked = walk_at c.args.s.now c.args.new.now in
    let b : Walked = walk_at c.args.s.now c.args.wanted.now in
    sym (then_ok (leaves_compared c.args.at.now.place a.leaf b.leaf) (λ (none : Bool). if none then are_matched T C c.args.at.now.place (members_in a) (members_in b) else Ok tt) false _
    (leaves_first T C c.args.at.now.place a b) (c.in_ok-no_leaves.ensures ∙ ap (λ (x : Bool). Ok x) c.if-no_leaves.false))

pub components_compared-returns-clause-grows : goal.components_compared-returns-clause-grows
components_compared-returns-clause-grows t c = grows_trans _ _ _ c.in_ok-walk.ensures.grows c.walks_compared.ensures.grows

pub element_matched-returns-clause-grows : goal.element_matched-returns-clause-grows
element_matched-returns-clause-grows t c = grows_refl _

pub frames_compared-returns-then-left-lt1-clause-grows : goal.frames_compared-returns-then-left-lt1-clause-grows
frames_compared-returns-then-left-lt1-clause-grows t c = grows_refl _

pub frames_compared-returns-then-among-clause-grows : goal.frames_compared-returns-then-among-clause-grows
frames_compared-returns-then-among-clause-grows t c = grows_refl _

pub frames_compared-returns-in_err-pairs-clause-grows : goal.frames_compared-returns-in_err-pairs-clause-grows
frames_compared-returns-in_err-pairs-clause-grows t c = grows_refl _

pub is_matched-returns-in-None-clause-grows : goal.is_matched-returns-in-None-clause-grows
is_matched-returns-in-None-clause-grows t c = grows_refl _

pub members_compared-returns-in_err-members-clause-grows : goal.members_compared-returns-in_err-members-clause-grows
members_compared-returns-in_err-members-clause-grows t c = grows_refl _

pub pair_compared-returns-clause-grows : goal.pair_compared-returns-clause-grows
pair_compared-returns-clause-grows t c = grows_trans _ _ _ c.in_ok-frame.ensures.grows c.frames_compared.ensures.grows

pub walks_compared-returns-in_err-no_leaves-clause-grows : goal.walks_compared-returns-in_err-no_leaves-clause-grows
walks_compared-returns-in_err-no_leaves-clause-grows t c = grows_refl _

pub walks_compared-returns-clause-grows : goal.walks_compared-returns-clause-grows
walks_compared-returns-clause-grows t c = grows_refl _
