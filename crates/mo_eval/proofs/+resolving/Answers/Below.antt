-- What is answered of the calls of below.rt.
use Rattle.mo_eval.proofs.Along.{rest_of}
use Rattle.mo_eval.proofs.Chosen.{agrees_halts, dims_agree}
use Rattle.mo_eval.proofs.EachBelow.{agreeing_halts, all_below, all_put, below_agreed, each_done, each_earlier, every_put, few_left, no_part, none_left as none_left_of_eachbelow, nothing_below, nothing_chosen}
use Rattle.mo_eval.proofs.Earlier.{are_elements_later, halt_seen, seen_as}
use Rattle.mo_eval.proofs.Grown.{kept_still}
use Rattle.mo_eval.proofs.Removing.{breaks_nothing}
use Rattle.mo_eval.specs.References.{there}
use Rattle.mo_values.specs.Selected.{selected}
use Rattle.mo_eval.specs.declared.absent.Absent.TheVariants.{Stopped}
use Rattle.mo_eval.specs.steps.Absence.{as_stopped, stop_for}
use Rattle.mo_eval.specs.steps.Selecting.{each_below, elements_more, elements_seen, reading_in, selection_seen, selections_seen}
use Rattle.mo_names.proofs.Later.{grows_refl, grows_trans, is_member_later}
use Rattle.mo_names.specs.Sights.{member_of}
use Rattle.mo_scope.specs.Frames.{Member}
use Rattle.mo_scope.specs.Worlds.{frames_of, table_in}
use Rattle.mo_typing.specs.Indices.{Index}
use Rattle.std.proofs.Common.{Err, List, Ok, ap, arith, false, length, refl, rules, sym, true, ◌<◌, ◌∙◌, ◌≡◌}
use Rattle.mo_eval.proofs.+resolving.Goals as goal

pub agrees-returns-in_err-dims-clause-exact : goal.below::agrees-returns-in_err-dims-clause-exact
agrees-returns-in_err-dims-clause-exact t c = λ asking.
    let absent = c.in_err-dims.field-0.0 in
    let p : c.from_residual.result ≡ Err absent = search rules in
    rw p (agrees_halts (reading_in asking c.args.s.now c.args.deeper) c.args.place (selection_seen c.args.selection.now) (member_of (frames_of c.args.s.now) c.args.member.now) (stop_for asking absent) (c.in_err-dims.ensures.exact asking))

pub agrees-returns-then-are_equal-clause-exact : goal.below::agrees-returns-then-are_equal-clause-exact
agrees-returns-then-are_equal-clause-exact t c = λ asking.
    dims_agree (reading_in asking c.args.s.now c.args.deeper) c.args.place (selection_seen c.args.selection.now) (member_of (frames_of c.args.s.now) c.args.member.now) c.in_ok-dims.dims true (c.in_ok-dims.ensures.exact asking)
    (sym (rw (c.as_slice.ensures, c.as_slice-2.ensures) at c.are_equal.ensures) ∙ c.if-are_equal.true)

pub agrees-returns-clause-exact : goal.below::agrees-returns-clause-exact
agrees-returns-clause-exact t c = λ asking.
    rw c.broken.ensures
    (dims_agree (reading_in asking c.args.s.now c.args.deeper) c.args.place (selection_seen c.args.selection.now) (member_of (frames_of c.args.s.now) c.args.member.now) c.in_ok-dims.dims false (c.in_ok-dims.ensures.exact asking)
    (sym (rw (c.as_slice.ensures, c.as_slice-2.ensures) at c.are_equal.ensures) ∙ c.if-are_equal.false))

pub below-returns-in_default-clause-exact : goal.below::below-returns-in_default-clause-exact
below-returns-in_default-clause-exact t c = λ asking.
    nothing_chosen (table_in c.args.s.now) (reading_in asking c.args.s.now c.args.deeper) c.args.place (member_of (frames_of c.args.s.now) c.args.member.now) (elements_seen (frames_of c.args.s.now) c.args.made.now) c.args.chosen.now (omega (arith, c.in_default.len_below))

pub below-returns-in_err-agrees-clause-exact : goal.below::below-returns-in_err-agrees-clause-exact
below-returns-in_err-agrees-clause-exact t c = λ asking.
    let s = c.args.s.now in
    let absent = c.in_err-agrees.field-0.0 in
    let stop = stop_for asking absent in
    let p : c.from_residual.result ≡ Err absent = search rules in
    rw p
    (halt_seen (λ (x : Unit {0}). elements_seen (frames_of c.agrees.new.s) c.args.made.now) stop _
    (agreeing_halts (table_in s) (reading_in asking s c.args.deeper) c.args.place (member_of (frames_of s) c.args.member.now) (elements_seen (frames_of s) c.args.made.now) c.args.chosen.now c.selection-item.result (omega (arith, c.in-len1-up.len_at_least)) c.selection-item.is stop
    (c.in_err-agrees.ensures.exact asking)))

pub below-returns-in_err-indices-clause-exact : goal.below::below-returns-in_err-indices-clause-exact
below-returns-in_err-indices-clause-exact t c = λ asking.
    let stop = c.in_err-indices.field-0.0 in
    let p : c.from_residual-in_err-indices.result ≡ Err (Stopped stop) = search rules in
    rw p (breaks_nothing {T = Unit {0}} stop _ (λ (x : Unit {0}). elements_seen (frames_of c.agrees.new.s) c.args.made.now) _ c.in_err-indices.ensures.told)

pub below-below_each-requires : goal.below::below-below_each-requires
below-below_each-requires t c = (
  search (rules, rest_of c.args.chosen.now 1 (omega (arith, c.in-len1-up.len_at_least))),
  (
    is_member_later c.args.s.now c.agrees.new.s c.args.member.now c.in_ok-agrees.ensures.grows c.requires.member,
    (
      are_elements_later c.args.s.now c.agrees.new.s c.in_ok-agrees.ensures.grows c.args.made.now c.requires.there,
      (few_left c.args.chosen.now 1000 (omega (arith, c.in-len1-up.len_at_least)) c.requires.few, c.agrees.ensures.kept),
    ),
  ),
)

pub below-returns-clause-exact : goal.below::below-returns-clause-exact
below-returns-clause-exact t c = λ asking.
    let s = c.args.s.now in
    let mid = c.agrees.new.s in
    let member = member_of (frames_of s) c.args.member.now in
    let chosen = c.args.chosen.now in
    let selection = c.selection-item.result in
    let some : 0 < length chosen = omega (arith, c.in-len1-up.len_at_least) in
    let indices : c.in_ok-indices.indices ≡ selected selection.dims selection.subs = c.in_ok-indices.ensures.value in
    let told = rw (rest_of chosen 1 (omega (arith, c.in-len1-up.len_at_least)), c.as_slice.ensures, indices) at (c.below_each.ensures.exact asking) in
    seen_as _ (as_stopped asking c.below_each.result) _ _
    (each_earlier s mid c.in_ok-agrees.ensures.grows asking c.args.deeper c.args.place c.args.member.now c.requires.member c.args.made.now c.requires.there _ _
    ∙ sym (below_agreed (table_in s) (reading_in asking s c.args.deeper) c.args.place member (elements_seen (frames_of s) c.args.made.now) chosen selection some c.selection-item.is (c.in_ok-agrees.ensures.exact asking)))
    told

pub below_each-returns-in_default-clause-there : goal.below::below_each-returns-in_default-clause-there
below_each-returns-in_default-clause-there t c = rw c.in_ok-put_elements.ensures (every_put c.args.s.now c.args.made.now c.args.at.0.now c.args.at.1.now c.requires.there c.requires.member)

pub below_each-returns-in_default-clause-exact : goal.below::below_each-returns-in_default-clause-exact
below_each-returns-in_default-clause-exact t c = λ asking.
    let s = c.args.s.now in
    let frames = frames_of s in
    let m = c.args.at.0.now in
    let indices = c.args.at.1.now in
    ap (λ xs. elements_more (elements_seen frames c.args.made.now) (each_below (table_in s) (reading_in asking s c.args.deeper) c.args.place (member_of frames m) (selections_seen xs) indices)) (none_left_of_eachbelow c.args.chosen.now (omega (arith, c.in_default.len_below)))
    ∙ ap Ok (sym (all_put frames c.args.made.now m indices) ∙ ap (elements_seen frames) (sym c.in_ok-put_elements.ensures))

pub below_each-loop-index-init : goal.below::below_each-loop-index-init
below_each-loop-index-init t c = record { grows = grows_refl c.args.s.now; there = c.requires.there; is = λ asking. refl; kept = c.requires.kept }

pub below_each-returns-in_err-part-clause-exact : goal.below::below_each-returns-in_err-part-clause-exact
below_each-returns-in_err-part-clause-exact t c = λ asking.
    let s = c.args.s.now in
    let stop = c.in_err-part.field-0.0 in
    let view = member_of (frames_of c.component_behind.new.s) in
    let told = rw c.as_slice.ensures at c.in_err-part.ensures.exact in
    let p : c.from_residual-in_err-part.result ≡ Err (Stopped stop) = search rules in
    rw p
    (halt_seen (λ (x : Unit {0}). elements_seen (frames_of c.component_behind.new.s) c.loop-index.made) stop _
    (no_part s c.loop-index.s c.loop-index.invariant.grows asking c.args.deeper c.args.place c.args.at.0.now c.requires.member c.args.chosen.now c.next-item.result (omega (arith, c.in-len1-up.len_at_least)) c.next-item.is c.args.at.1.now c.loop-index.index-index
    c.loop-index.made c.loop-index.invariant.there _ (c.loop-index.invariant.is asking) c.index-item.result c.loop-index-test.true c.index-item.is view stop told))

pub below_each-returns-in_err-part-clause-kept : goal.below::below_each-returns-in_err-part-clause-kept
below_each-returns-in_err-part-clause-kept t c = kept_still _ _ c.component_behind.ensures.grows _ c.loop-index.invariant.kept

pub below_each-below-requires : goal.below::below_each-below-requires
below_each-below-requires t c = (search rules, (c.in_ok-part.ensures.there, (are_elements_later c.loop-index.s c.component_behind.new.s c.in_ok-part.ensures.grows c.loop-index.made c.loop-index.invariant.there, (c.requires.few, kept_still _ _ c.in_ok-part.ensures.grows _ c.loop-index.invariant.kept))))

pub below_each-returns-in_err-below-clause-exact : goal.below::below_each-returns-in_err-below-clause-exact
below_each-returns-in_err-below-clause-exact t c = λ asking.
    let s = c.args.s.now in
    let mid = c.component_behind.new.s in
    let absent = c.in_err-below.field-0.0 in
    let stop = stop_for asking absent in
    let found = rw c.as_slice.ensures at c.in_ok-part.ensures.exact in
    let p : c.from_residual-in_err-below.result ≡ Err absent = search rules in
    let view : Unit {0} → List (Member × Index) = λ x. elements_seen (frames_of c.below.new.s) c.below.new.made in
    rw p
    (halt_seen view stop _
    (nothing_below s c.loop-index.s c.loop-index.invariant.grows asking c.args.deeper c.args.place c.args.at.0.now c.requires.member c.args.chosen.now c.next-item.result (omega (arith, c.in-len1-up.len_at_least)) c.next-item.is c.args.at.1.now c.loop-index.index-index
    c.loop-index.made c.loop-index.invariant.there _ (c.loop-index.invariant.is asking) c.index-item.result c.loop-index-test.true c.index-item.is mid c.in_ok-part.ensures.grows (member_of (frames_of mid) c.in_ok-part.part) found view stop (c.in_err-below.ensures.exact asking)))

pub below_each-loop-index-preserved : goal.below::below_each-loop-index-preserved
below_each-loop-index-preserved t c =
    let s = c.args.s.now in
    let mid = c.component_behind.new.s in
    let end = c.below.new.s in
    let found = rw c.as_slice.ensures at c.in_ok-part.ensures.exact in
    record {
      grows = grows_trans s c.loop-index.s end c.loop-index.invariant.grows (grows_trans c.loop-index.s mid end c.in_ok-part.ensures.grows c.in_ok-below.ensures.grows);
      there = c.in_ok-below.ensures.there;
      is = λ asking. all_below s c.loop-index.s c.loop-index.invariant.grows asking c.args.deeper c.args.place c.args.at.0.now c.requires.member c.args.chosen.now c.next-item.result (omega (arith, c.in-len1-up.len_at_least)) c.next-item.is c.args.at.1.now c.loop-index.index-index
          c.loop-index.made c.loop-index.invariant.there _ (c.loop-index.invariant.is asking) c.index-item.result c.loop-index-test.true c.index-item.is mid c.in_ok-part.ensures.grows (member_of (frames_of mid) c.in_ok-part.part) found
          (elements_seen (frames_of end) c.below.new.made) (c.in_ok-below.ensures.exact asking);
      kept = c.below.ensures.kept;
    }

pub below_each-returns-clause-exact : goal.below::below_each-returns-clause-exact
below_each-returns-clause-exact t c = λ asking.
    each_done c.args.s.now c.loop-index.s c.loop-index.invariant.grows asking c.args.deeper c.args.place c.args.at.0.now c.requires.member c.args.chosen.now c.next-item.result (omega (arith, c.in-len1-up.len_at_least)) c.next-item.is c.args.at.1.now c.loop-index.index-index
    c.loop-index.made c.loop-index.invariant.there _ (c.loop-index.invariant.is asking) (omega arith)

-- ---- what grows

pub below-returns-in_default-clause-grows : goal.below::below-returns-in_default-clause-grows
below-returns-in_default-clause-grows t c = grows_refl c.args.s.now

pub below-returns-clause-grows : goal.below::below-returns-clause-grows
below-returns-clause-grows t c = grows_trans _ _ _ c.agrees.ensures.grows c.below_each.ensures.grows

pub below_each-returns-in_err-part-clause-grows : goal.below::below_each-returns-in_err-part-clause-grows
below_each-returns-in_err-part-clause-grows t c = grows_trans _ _ _ c.loop-index.invariant.grows c.component_behind.ensures.grows

pub below_each-returns-in_err-below-clause-grows : goal.below::below_each-returns-in_err-below-clause-grows
below_each-returns-in_err-below-clause-grows t c = grows_trans _ _ _ (grows_trans _ _ _ c.loop-index.invariant.grows c.component_behind.ensures.grows) c.below.ensures.grows
