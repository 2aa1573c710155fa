-- What is answered of the calls of variables.rt.
use Rattle.mo_eval.proofs.Growing.{same_known}
use Rattle.mo_eval.proofs.Grown.{grows_on, member_still, same_virtuals, there_still, value_still}
use Rattle.mo_eval.proofs.OneDeeper.{not_read, read_deeper, read_past}
use Rattle.mo_eval.proofs.Prefixes.{fewer_unread, length_known, told_at}
use Rattle.mo_values.proofs.Splitting.{got}
use Rattle.mo_eval.proofs.Telling.{if_ok, step_halts}
use Rattle.mo_eval.specs.Seen.{element_seen, virtual_seen, virtuals_seen}
use Rattle.mo_eval.specs.steps.Sites.{elements_in, variables_in}
use Rattle.mo_values.specs.Told.{AreRead, IsUnread}
use Rattle.mo_eval.specs.Virtuals.{known_of_virtuals}
use Rattle.mo_values.specs.Walk.{known_by}
use Rattle.mo_eval.specs.declared.virtuals.Virtual.TheVariants.{Component}
use Rattle.mo_scope.specs.Worlds.{frames_of, table_in}
use Rattle.std.proofs.Common.{Err, Some, ap, arith, rules, sym, ◌-◌, ◌∙◌, ◌≡◌}
use Rattle.std.proofs.lemmas.List.{length-map}
use Rattle.std.proofs.lemmas.Option.{slice_get-map}
use Rattle.std.specs.Option.{option_map}
use Rattle.std.specs.Prelude.{slice_get}
use Rattle.mo_eval.proofs.+resolving.Goals as goal
use Rattle.mo_names.proofs.Later.{grows_refl}

pub element_known-returns-then-not-is_read-clause-exact : goal.variables::element_known-returns-then-not-is_read-clause-exact
element_known-returns-then-not-is_read-clause-exact t c =
    not_read (table_in c.args.s.now) c.args.left (element_seen (frames_of c.args.s.now) c.args.element.now) cc

pub element_known-returns-then-left-eq0-clause-exact : goal.variables::element_known-returns-then-left-eq0-clause-exact
element_known-returns-then-left-eq0-clause-exact t c =
    rw c.broken.ensures (read_past (table_in c.args.s.now) c.args.left (element_seen (frames_of c.args.s.now) c.args.element.now) (cc) (omega arith))

pub element_known-returns-in-Some-clause-exact : goal.variables::element_known-returns-in-Some-clause-exact
element_known-returns-in-Some-clause-exact t c =
    rw (read_deeper (table_in c.args.s.now) c.args.left (c.args.left - 1) (element_seen (frames_of c.args.s.now) c.args.element.now) (cc) (omega arith)) (rw c.in-Some.is at (c.value_kept.ensures c.args.s.now c.requires.kept c.requires.member))

pub element_known-returns-in_err-known-clause-exact : goal.variables::element_known-returns-in_err-known-clause-exact
element_known-returns-in_err-known-clause-exact t c =
    let stop = c.in_err-known.field-0.0 in
    let p : c.from_residual.result ≡ Err stop = search rules in
    rw (p, read_deeper (table_in c.args.s.now) c.args.left (c.args.left - 1) (element_seen (frames_of c.args.s.now) c.args.element.now) (cc) (omega arith)) c.in_err-known.ensures.exact

pub element_known-returns-in_err-keep_value-clause-kept : goal.variables::element_known-returns-in_err-keep_value-clause-kept
element_known-returns-in_err-keep_value-clause-kept t c =
    c.keep_value.ensures c.element_value.new.s c.element_value.ensures.kept (member_still _ _ c.element_value.ensures.grows _ c.requires.member)
    (value_still _ _ c.element_value.ensures.grows (c.args.left - 1) c.args.element.now c.requires.member c.in_ok-known.known c.in_ok-known.ensures.exact)

pub element_known-returns-clause-kept : goal.variables::element_known-returns-clause-kept
element_known-returns-clause-kept t c =
    c.keep_value.ensures c.element_value.new.s c.element_value.ensures.kept (member_still _ _ c.element_value.ensures.grows _ c.requires.member)
    (value_still _ _ c.element_value.ensures.grows (c.args.left - 1) c.args.element.now c.requires.member c.in_ok-known.known c.in_ok-known.ensures.exact)

pub element_known-returns-clause-exact : goal.variables::element_known-returns-clause-exact
element_known-returns-clause-exact t c = rw (read_deeper (table_in c.args.s.now) c.args.left (c.args.left - 1) (element_seen (frames_of c.args.s.now) c.args.element.now) (cc) (omega arith)) c.in_ok-known.ensures.exact

pub variable_known-element_known-requires : goal.variables::variable_known-element_known-requires
variable_known-element_known-requires t c =
    let at = c.saturating_sub.result in
    let it = c.in-Some-Component.field-0.now in
    let lookup = c.in-Some-Component.ensures.lookup in
    let found : slice_get c.args.virtuals.now at ≡ Some it = got c.args.virtuals.now at it lookup.3.0 lookup.1 in
    (search rules, (c.requires.there.each at c.in-Some-Component.element (found ∙ ap Some c.in-Some-Component.field-0-is), c.requires.kept))

pub variable_known-returns-in-Some-Component-clause-exact : goal.variables::variable_known-returns-in-Some-Component-clause-exact
variable_known-returns-in-Some-Component-clause-exact t c =
    let at = c.saturating_sub.result in
    let it = c.in-Some-Component.field-0.now in
    let lookup = c.in-Some-Component.ensures.lookup in
    let frames = frames_of c.args.s.now in
    let read = elements_in c.args.s.now c.args.left in
    let virtuals = virtuals_seen frames c.args.virtuals.now in
    let found : slice_get c.args.virtuals.now at ≡ Some it = got c.args.virtuals.now at it lookup.3.0 lookup.1 in
    let seen : slice_get virtuals at ≡ Some (virtual_seen frames (Component c.in-Some-Component.element)) =
    slice_get-map (virtual_seen frames) c.args.virtuals.now at ∙ ap (option_map (virtual_seen frames)) (found ∙ ap Some c.in-Some-Component.field-0-is) in
    if_ok c.outcome_of.result _ _
    (λ outcome is.
    ap (λ k. slice_get (known_of_virtuals read virtuals) k) (sym c.saturating_sub.ensures)
    ∙ told_at read virtuals at (virtual_seen frames (Component c.in-Some-Component.element)) outcome seen (is (read (element_seen frames c.in-Some-Component.element)) c.element_known.ensures.exact))
    c.outcome_of.ensures

pub known_with-returns-in_err-known-clause-exact : goal.variables::known_with-returns-in_err-known-clause-exact
known_with-returns-in_err-known-clause-exact t c =
    let read : AreRead c.deref.result.now (variables_in c.args.s.now c.args.left c.args.virtuals.now) = rw c.deref.ensures.value c.reading.invariant.1 in
    let p : c.from_residual.result ≡ Err c.in_err-known.field-0.0 = search rules in
    rw p (step_halts (elements_in c.args.s.now c.args.left) (virtuals_seen (frames_of c.args.s.now) c.args.virtuals.now) c.deref.result.now c.in_err-known.field-0.0 (known_by (variables_in c.args.s.now c.args.left c.args.virtuals.now) c.args.e.now c.args.index.now) (c.in_err-known.ensures (frames_of c.args.s.now) (elements_in c.args.s.now c.args.left) read))

pub known_with-returns-in-Known-clause-exact : goal.variables::known_with-returns-in-Known-clause-exact
known_with-returns-in-Known-clause-exact t c =
    let read : AreRead c.deref.result.now (variables_in c.args.s.now c.args.left c.args.virtuals.now) = rw c.deref.ensures.value c.reading.invariant.1 in
    rw c.in-Known.is at (c.in_ok-known.ensures (frames_of c.args.s.now) (elements_in c.args.s.now c.args.left) read)

pub known_with-variable_known-requires : goal.variables::known_with-variable_known-requires
known_with-variable_known-requires t c =
    let read : AreRead c.deref.result.now (variables_in c.args.s.now c.args.left c.args.virtuals.now) = rw c.deref.ensures.value c.reading.invariant.1 in
    let step = rw c.in-Read.is at (c.in_ok-known.ensures (frames_of c.args.s.now) (elements_in c.args.s.now c.args.left) read) in (
      search rules,
      (
        there_still _ _ c.reading.invariant.0 _ c.requires.there,
        (rw (same_virtuals c.args.s.now c.reading.s c.reading.invariant.0 c.args.virtuals.now c.requires.there) step.1, c.reading.invariant.2),
      ),
    )

pub known_with-mark-requires : goal.variables::known_with-mark-requires
known_with-mark-requires t c =
    let read : AreRead c.deref.result.now (variables_in c.args.s.now c.args.left c.args.virtuals.now) = rw c.deref.ensures.value c.reading.invariant.1 in
    let step = rw c.in-Read.is at (c.in_ok-known.ensures (frames_of c.args.s.now) (elements_in c.args.s.now c.args.left) read) in
    rw c.deref.ensures.value at step.0

pub known_with-reading-smaller-in-Read : goal.variables::known_with-reading-smaller-in-Read
known_with-reading-smaller-in-Read t c =
    let read : AreRead c.deref.result.now (variables_in c.args.s.now c.args.left c.args.virtuals.now) = rw c.deref.ensures.value c.reading.invariant.1 in
    let step = rw c.in-Read.is at (c.in_ok-known.ensures (frames_of c.args.s.now) (elements_in c.args.s.now c.args.left) read) in
    let unread : IsUnread c.reading.reads.items c.in-Read.n = rw c.deref.ensures.value at step.0 in
    rw c.mark.ensures.put (fewer_unread c.reading.reads.items (c.in-Read.n - 1) _ unread)

pub known_with-reading-preserved-in-Read : goal.variables::known_with-reading-preserved-in-Read
known_with-reading-preserved-in-Read t c =
    let same = same_known c.args.s.now c.reading.s c.args.left c.reading.invariant.0 c.args.virtuals.now c.requires.there in (
      grows_on _ _ _ c.reading.invariant.0 c.variable_known.ensures.grows,
      c.mark.ensures.read (known_of_virtuals (elements_in c.args.s.now c.args.left) (virtuals_seen (frames_of c.args.s.now) c.args.virtuals.now)) c.reading.invariant.1
          (rw same at c.in_ok-outcome-in-Read.ensures.exact),
      c.heed.ensures _ c.variable_known.ensures.kept,
    )

pub known_with-mark-requires-in-Divided : goal.variables::known_with-mark-requires-in-Divided
known_with-mark-requires-in-Divided t c =
    let read : AreRead c.deref.result.now (variables_in c.args.s.now c.args.left c.args.virtuals.now) = rw c.deref.ensures.value c.reading.invariant.1 in
    let step = rw c.in-Divided.is at (c.in_ok-known.ensures (frames_of c.args.s.now) (elements_in c.args.s.now c.args.left) read) in
    rw c.deref.ensures.value at step.0

pub known_with-reading-smaller : goal.variables::known_with-reading-smaller
known_with-reading-smaller t c =
    let read : AreRead c.deref.result.now (variables_in c.args.s.now c.args.left c.args.virtuals.now) = rw c.deref.ensures.value c.reading.invariant.1 in
    let step = rw c.in-Divided.is at (c.in_ok-known.ensures (frames_of c.args.s.now) (elements_in c.args.s.now c.args.left) read) in
    let unread : IsUnread c.reading.reads.items c.in-Divided.n = rw c.deref.ensures.value at step.0 in
    rw c.mark-in-Divided.ensures.put (fewer_unread c.reading.reads.items (c.in-Divided.n - 1) _ unread)

pub known_with-reading-preserved : goal.variables::known_with-reading-preserved
known_with-reading-preserved t c =
    let read : AreRead c.deref.result.now (variables_in c.args.s.now c.args.left c.args.virtuals.now) = rw c.deref.ensures.value c.reading.invariant.1 in
    let step = rw c.in-Divided.is at (c.in_ok-known.ensures (frames_of c.args.s.now) (elements_in c.args.s.now c.args.left) read) in (
      c.reading.invariant.0,
      c.mark-in-Divided.ensures.read (known_of_virtuals (elements_in c.args.s.now c.args.left) (virtuals_seen (frames_of c.args.s.now) c.args.virtuals.now)) c.reading.invariant.1 step.1,
      c.reading.invariant.2,
    )

pub known_in-known_with-requires : goal.variables::known_in-known_with-requires
known_in-known_with-requires t c =
    let read = elements_in c.args.s.now c.args.left in
    let virtuals = virtuals_seen (frames_of c.args.s.now) c.args.virtuals.now in
    (search rules, (c.requires.there, (c.in_ok-reads.ensures (known_of_virtuals read virtuals) (length_known read virtuals ∙ length-map c.args.virtuals.now (virtual_seen (frames_of c.args.s.now))), c.requires.kept)))

-- ---- what grows

pub element_known-returns-then-not-is_read-clause-grows : goal.variables::element_known-returns-then-not-is_read-clause-grows
element_known-returns-then-not-is_read-clause-grows t c = grows_refl c.args.s.now

pub element_known-returns-then-left-eq0-clause-grows : goal.variables::element_known-returns-then-left-eq0-clause-grows
element_known-returns-then-left-eq0-clause-grows t c = grows_refl c.args.s.now

pub element_known-returns-in-Some-clause-grows : goal.variables::element_known-returns-in-Some-clause-grows
element_known-returns-in-Some-clause-grows t c = grows_refl c.args.s.now

pub variable_known-returns-in-Some-Division-clause-grows : goal.variables::variable_known-returns-in-Some-Division-clause-grows
variable_known-returns-in-Some-Division-clause-grows t c = grows_refl c.args.s.now

pub variable_known-returns-in-None-clause-grows : goal.variables::variable_known-returns-in-None-clause-grows
variable_known-returns-in-None-clause-grows t c = grows_refl c.args.s.now

pub known_in-returns-in_err-reads-clause-grows : goal.variables::known_in-returns-in_err-reads-clause-grows
known_in-returns-in_err-reads-clause-grows t c = grows_refl c.args.s.now
