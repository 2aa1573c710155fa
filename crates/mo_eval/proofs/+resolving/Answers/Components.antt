-- What is answered of the calls of components.rt.
use Rattle.mo_eval.proofs.Bindings.{bound_is, child_halts, picked_exists, unbound_is, value_by_bound}
use Rattle.mo_eval.proofs.OneBinding.{bound_at, is_binding, with_layers_still}
use Rattle.mo_eval.proofs.Growing.{gives_as, gives_halt, same_elements}
use Rattle.mo_eval.proofs.Grown.{binding_still, is_there_still, kept_still, member_still, same_element, same_table}
use Rattle.mo_eval.proofs.Layering.{by_fit}
use Rattle.mo_syntax.specs.Outcome.{and_then}
use Rattle.mo_syntax.specs.declared.rules.TheConstants.{CONDITION_NOT_BOOLEAN}
use Rattle.mo_values.specs.Asked.{must_be_truth}
use Rattle.mo_eval.specs.Components.{place_of, value_in}
use Rattle.mo_eval.specs.Contexts.{truth_of}
use Rattle.mo_eval.specs.References.{there}
use Rattle.mo_eval.specs.Keeping.{IsBinding, bound_seen}
use Rattle.mo_values.specs.Scalars.{Known, if_it_has}
use Rattle.mo_eval.specs.Seen.{AreThere, element_seen, resolved_seen}
use Rattle.mo_eval.specs.steps.Sites.{elements_in, variables_in}
use Rattle.mo_eval.specs.Values.{reading, there_of}
use Rattle.mo_eval.specs.steps.Asking.{bound_in, unbound}
use Rattle.mo_names.specs.Children.{child_seen}
use Rattle.mo_names.specs.Sights.{member_of}
use Rattle.mo_names.specs.declared.found.Child.{Child as ChildAt}
use Rattle.mo_scope.specs.Parts.{Picked, picked_here}
use Rattle.mo_scope.specs.Sights.{picked_in, source_seen}
use Rattle.mo_scope.specs.Worlds.{frames_of, table_in}
use Rattle.std.proofs.Common.{Err, None, Ok, Some, ap, map, refl, rules, subst, sym, ◌∙◌, ◌≡◌}
use Rattle.mo_eval.specs.declared.virtuals.Resolved.{Resolved as ResolvedAt}
use Rattle.mo_eval.proofs.+resolving.Goals as goal
use Rattle.mo_names.proofs.Later.{grows_refl, grows_trans}

pub resolved_binding-alone-requires : goal.components::resolved_binding-alone-requires
resolved_binding-alone-requires t c = (search rules, (c.requires.frame, c.take_binding.ensures.kept c.args.s.now c.requires.kept))

pub resolved_binding-returns-in-Some-clause-binding : goal.components::resolved_binding-returns-in-Some-clause-binding
resolved_binding-returns-in-Some-clause-binding t c = c.in-Some.ensures.is c.args.s.now c.requires.kept c.requires.member

pub resolved_binding-returns-in-Some-clause-exact : goal.components::resolved_binding-returns-in-Some-clause-exact
resolved_binding-returns-in-Some-clause-exact t c =
    let one : IsBinding c.args.s.now c.args.left c.args.element.now.member c.in-Some.bound = c.in-Some.ensures.is c.args.s.now c.requires.kept c.requires.member in
    one.is c.args.element.now.index (picked_in (frames_of c.args.s.now) c.args.picked.now) c.requires.picked

pub resolved_binding-returns-clause-binding : goal.components::resolved_binding-returns-clause-binding
resolved_binding-returns-clause-binding t c =
    let s = c.args.s.now in
    is_binding s c.alone.new.s c.alone.ensures.grows c.args.element.now.member c.requires.member c.args.left c.args.element.now.index (picked_in (frames_of s) c.args.picked.now) c.requires.picked
    c.in_ok-resolved.resolved c.in_ok-resolved.ensures.there (rw c.for_value.ensures at c.in_ok-resolved.ensures.exact)

pub resolved_binding-returns-clause-exact : goal.components::resolved_binding-returns-clause-exact
resolved_binding-returns-clause-exact t c = rw c.for_value.ensures at c.in_ok-resolved.ensures.exact

pub value_in-with_layers-requires : goal.components::value_in-with_layers-requires
value_in-with_layers-requires t c = c.in_ok-found.ensures.binding.layers

pub value_in-bound_value-requires : goal.components::value_in-bound_value-requires
value_in-bound_value-requires t c =
    let there = subst (λ (r : ResolvedAt). AreThere c.resolved_binding.new.s r.virtuals) (sym c.in_ok-bound.ensures.resolved) c.in_ok-found.ensures.binding.there in
    (search rules, (there, (c.in_ok-bound.ensures.layers, c.resolved_binding.ensures.kept)))

pub bound_value-returns-clause-exact : goal.components::bound_value-returns-clause-exact
bound_value-returns-clause-exact t c =
    let s = c.args.s.now in
    let bound = c.args.bound.now in
    let pending = c.args.pending.now in
    let read = elements_in s c.args.left in
    let part = c.part_of_bound.ensures (variables_in s c.args.left bound.resolved.virtuals) in
    let fits = by_fit read c.args.want c.args.place pending (bound_seen (frames_of s) bound) c.in_ok-fits.ensures in
    gives_as c.known_in.result _ _ (part ∙ sym fits) (rw c.as_slice-virtuals.ensures at c.known_in.ensures.exact)

pub value_in-returns-in_err-known-clause-exact : goal.components::value_in-returns-in_err-known-clause-exact
value_in-returns-in_err-known-clause-exact t c =
    let mid = c.resolved_binding.new.s in
    let left = c.args.left in
    let kind = c.args.element.now.kind in
    let pending = c.args.picked.now.pending.now in
    let place = place_of c.args.picked.now.value.now in
    let asked = bound_seen (frames_of mid) c.in_ok-bound.bound in
    let found : bound_seen (frames_of mid) c.in_ok-found.found ≡ asked = ap (resolved_seen (frames_of mid)) (sym c.in_ok-bound.ensures.resolved) in
    let same = same_elements c.args.s.now mid left c.resolved_binding.ensures.grows in
    let stop = c.in_err-known.field-0.0 in
    let p : c.from_residual-in_err-known.result ≡ Err stop = search rules in
    rw (p, c.in_ok-found.ensures.exact ∙ ap Ok found)
    (gives_as {A = Known} (Err stop) _ _ (value_by_bound (elements_in c.args.s.now left) kind place pending asked)
    (gives_halt {A = Known} stop (bound_in (elements_in c.args.s.now left) kind place pending asked) (λ known. Ok (if_it_has kind known))
    (gives_as {A = Known} (Err stop) (bound_in (elements_in mid left) kind place pending asked) (bound_in (elements_in c.args.s.now left) kind place pending asked) (ap (λ read. bound_in read kind place pending asked) same) c.in_err-known.ensures.exact)))

pub value_in-returns-in_err-keep_binding-clause-kept : goal.components::value_in-returns-in_err-keep_binding-clause-kept
value_in-returns-in_err-keep_binding-clause-kept t c =
    let s = c.args.s.now in
    let mid = c.resolved_binding.new.s in
    let member = c.args.element.now.member in
    let is = member_still s mid c.resolved_binding.ensures.grows member c.requires.member in
    let binding = with_layers_still mid c.args.left member c.in_ok-found.found c.in_ok-bound.bound c.in_ok-bound.ensures.resolved c.in_ok-bound.ensures.layers c.in_ok-found.ensures.binding in
    c.keep_binding.ensures c.bound_value.new.s c.bound_value.ensures.kept (member_still mid c.bound_value.new.s c.bound_value.ensures.grows member is)
    (binding_still mid c.bound_value.new.s c.bound_value.ensures.grows c.args.left member is c.in_ok-bound.bound binding)

pub value_in-returns-clause-kept : goal.components::value_in-returns-clause-kept
value_in-returns-clause-kept t c =
    let s = c.args.s.now in
    let mid = c.resolved_binding.new.s in
    let member = c.args.element.now.member in
    let is = member_still s mid c.resolved_binding.ensures.grows member c.requires.member in
    let binding = with_layers_still mid c.args.left member c.in_ok-found.found c.in_ok-bound.bound c.in_ok-bound.ensures.resolved c.in_ok-bound.ensures.layers c.in_ok-found.ensures.binding in
    c.keep_binding.ensures c.bound_value.new.s c.bound_value.ensures.kept (member_still mid c.bound_value.new.s c.bound_value.ensures.grows member is)
    (binding_still mid c.bound_value.new.s c.bound_value.ensures.grows c.args.left member is c.in_ok-bound.bound binding)

pub value_in-returns-clause-exact : goal.components::value_in-returns-clause-exact
value_in-returns-clause-exact t c =
    let mid = c.resolved_binding.new.s in
    let left = c.args.left in
    let kind = c.args.element.now.kind in
    let pending = c.args.picked.now.pending.now in
    let place = place_of c.args.picked.now.value.now in
    let asked = bound_seen (frames_of mid) c.in_ok-bound.bound in
    let found : bound_seen (frames_of mid) c.in_ok-found.found ≡ asked = ap (resolved_seen (frames_of mid)) (sym c.in_ok-bound.ensures.resolved) in
    let same = same_elements c.args.s.now mid left c.resolved_binding.ensures.grows in
    let known : bound_in (elements_in c.args.s.now left) kind place pending asked ≡ Ok c.in_ok-known.known = ap (λ read. bound_in read kind place pending asked) (sym same) ∙ c.in_ok-known.ensures.exact in
    rw (c.in_ok-found.ensures.exact ∙ ap Ok found)
    (sym (value_by_bound (elements_in c.args.s.now left) kind place pending asked)
    ∙ (ap (λ o. and_then o (λ known. Ok (if_it_has kind known))) known ∙ ap Ok (sym c.if_it_has.ensures.exact)))

pub element_value-returns-in_err-child-clause-exact : goal.components::element_value-returns-in_err-child-clause-exact
element_value-returns-in_err-child-clause-exact t c =
    let stop = c.in_err-child.field-0.0 in
    let table = table_in c.args.s.now in
    let element = element_seen (frames_of c.args.s.now) c.args.element.now in
    let p : c.from_residual.result ≡ Err stop = search rules in
    rw p (child_halts table (reading table c.args.left) element {T = ChildAt} (child_seen (frames_of c.child_of_member.new.s)) stop (rw c.as_slice.ensures at c.in_err-child.ensures.value))

pub element_value-returns-in_err-child-clause-kept : goal.components::element_value-returns-in_err-child-clause-kept
element_value-returns-in_err-child-clause-kept t c = kept_still _ _ c.child_of_member.ensures.grows _ c.requires.kept

pub element_value-unbound-requires : goal.components::element_value-unbound-requires
element_value-unbound-requires t c = record { member = member_still _ _ c.child_of_member.ensures.grows c.args.element.now.member c.requires.member }

pub element_value-returns-in-None-clause-exact : goal.components::element_value-returns-in-None-clause-exact
element_value-returns-in-None-clause-exact t c =
    let table = table_in c.args.s.now in
    let mid = c.child_of_member.new.s in
    let child = child_seen (frames_of mid) c.in_ok-child.child in
    let element = element_seen (frames_of c.args.s.now) c.args.element.now in
    let found = rw c.as_slice.ensures at c.in_ok-child.ensures.value in
    let none : picked_here child.sources ≡ None = sym (rw c.as_slice-2.ensures at (c.in-None.ensures (frames_of mid))) in
    let same = same_element c.args.s.now mid c.child_of_member.ensures.grows c.args.element.now c.requires.member in
    gives_as c.answer.result _ _ (ap unbound same ∙ sym (unbound_is table (reading table c.args.left) element child found none)) (rw c.unbound.ensures at c.answer.ensures)

pub element_value-returns-in-None-clause-kept : goal.components::element_value-returns-in-None-clause-kept
element_value-returns-in-None-clause-kept t c = kept_still _ _ c.child_of_member.ensures.grows _ c.requires.kept

pub element_value-value_in-requires : goal.components::element_value-value_in-requires
element_value-value_in-requires t c =
    let s = c.args.s.now in
    let mid = c.child_of_member.new.s in
    let grows = c.child_of_member.ensures.grows in
    let member = c.args.element.now.member in
    let child = child_seen (frames_of mid) c.in_ok-child.child in
    let found = rw c.as_slice.ensures at c.in_ok-child.ensures.value in
    let picked = rw c.as_slice-2.ensures at (c.in-Some.ensures (frames_of mid)) in (
      search rules,
      (
        picked_exists mid (map source_seen c.in_ok-child.child.sources) c.in-Some.picked c.in_ok-child.ensures.stand.sources picked,
        (
          member_still s mid grows member c.requires.member,
          (
            bound_at s mid grows member c.requires.member c.args.element.now.index child (picked_in (frames_of mid) c.in-Some.picked) found (sym picked),
            kept_still s mid grows _ c.requires.kept,
          ),
        ),
      ),
    )

pub element_value-returns-clause-exact : goal.components::element_value-returns-clause-exact
element_value-returns-clause-exact t c =
    let table = table_in c.args.s.now in
    let mid = c.child_of_member.new.s in
    let left = c.args.left in
    let child = child_seen (frames_of mid) c.in_ok-child.child in
    let element = element_seen (frames_of c.args.s.now) c.args.element.now in
    let found = rw c.as_slice.ensures at c.in_ok-child.ensures.value in
    let picked : Picked = picked_in (frames_of mid) c.in-Some.picked in
    let some : picked_here child.sources ≡ Some picked = sym (rw c.as_slice-2.ensures at (c.in-Some.ensures (frames_of mid))) in
    gives_as c.value_in.result _ _
    (ap (λ t. value_in t (reading t left) element.kind picked) (same_table c.args.s.now mid c.child_of_member.ensures.grows) ∙ sym (bound_is table (reading table left) element child picked found some))
    c.value_in.ensures.exact

pub condition_in-returns-in_err-known-clause-exact : goal.components::condition_in-returns-in_err-known-clause-exact
condition_in-returns-in_err-known-clause-exact t c =
    let mid = c.alone.new.s in
    let left = c.args.left in
    let asked = resolved_seen (frames_of mid) c.in_ok-resolved.resolved in
    let same = same_elements c.args.s.now mid left c.alone.ensures.grows in
    let place = place_of c.args.e.now in
    let stop = c.in_err-known.field-0.0 in
    let p : c.from_residual-in_err-known.result ≡ Err stop = search rules in
    rw (p, rw (c.for_value.ensures, c.new.ensures) at c.in_ok-resolved.ensures.exact)
    (gives_halt {A = Known} stop (truth_of (elements_in c.args.s.now left) CONDITION_NOT_BOOLEAN place asked) (must_be_truth place)
    (gives_as {A = Known} (Err stop) (truth_of (elements_in mid left) CONDITION_NOT_BOOLEAN place asked) (truth_of (elements_in c.args.s.now left) CONDITION_NOT_BOOLEAN place asked) (ap (λ read. truth_of read CONDITION_NOT_BOOLEAN place asked) same) c.in_err-known.ensures.exact))

pub condition_in-returns-clause-exact : goal.components::condition_in-returns-clause-exact
condition_in-returns-clause-exact t c =
    let mid = c.alone.new.s in
    let left = c.args.left in
    let asked = resolved_seen (frames_of mid) c.in_ok-resolved.resolved in
    let same = same_elements c.args.s.now mid left c.alone.ensures.grows in
    let place = place_of c.args.e.now in
    let known : truth_of (elements_in c.args.s.now left) CONDITION_NOT_BOOLEAN place asked ≡ Ok c.in_ok-known.known = ap (λ read. truth_of read CONDITION_NOT_BOOLEAN place asked) (sym same) ∙ c.in_ok-known.ensures.exact in
    rw (rw (c.for_value.ensures, c.new.ensures) at c.in_ok-resolved.ensures.exact)
    (gives_as c.answer.result (must_be_truth place c.in_ok-known.known) _ (ap (λ o. and_then o (must_be_truth place)) (sym known)) (rw c.must_be_truth.ensures at c.answer.ensures))

pub is_there-returns-in-Class-clause-exact : goal.components::is_there-returns-in-Class-clause-exact
is_there-returns-in-Class-clause-exact t c = rw c.in-Class.is refl

pub is_there-returns-in-None-clause-exact : goal.components::is_there-returns-in-None-clause-exact
is_there-returns-in-None-clause-exact t c = rw (c.in-Component.is, c.in-None.is) refl

pub is_there-returns-in-Some-there_kept-clause-exact : goal.components::is_there-returns-in-Some-there_kept-clause-exact
is_there-returns-in-Some-there_kept-clause-exact t c = rw c.in-Some-there_kept.is at (c.there_kept.ensures c.args.s.now c.requires.kept c.requires.member)

pub is_there-returns-in_err-there-in-Some-clause-exact : goal.components::is_there-returns-in_err-there-in-Some-clause-exact
is_there-returns-in_err-there-in-Some-clause-exact t c =
    let stop = c.in_err-there-in-Some.field-0.0 in
    let p : c.from_residual.result ≡ Err stop = search rules in
    rw (p, c.in-Component.is, c.in-Some.is) c.in_err-there-in-Some.ensures.exact

pub is_there-returns-in_err-keep_there-in-Some-clause-kept : goal.components::is_there-returns-in_err-keep_there-in-Some-clause-kept
is_there-returns-in_err-keep_there-in-Some-clause-kept t c =
    let told : there_of (table_in c.args.s.now) c.args.left (member_of (frames_of c.args.s.now) c.args.member.now) ≡ Ok c.in_ok-there-in-Some.there = rw (c.in-Component.is, c.in-Some.is) c.in_ok-there-in-Some.ensures.exact in
    c.keep_there.ensures c.condition_in.new.s c.condition_in.ensures.kept (member_still _ _ c.condition_in.ensures.grows _ c.requires.member)
    (is_there_still _ _ c.condition_in.ensures.grows c.args.left c.args.member.now c.requires.member c.in_ok-there-in-Some.there told)

pub is_there-returns-in_ok-keep_there-in-Some-clause-kept : goal.components::is_there-returns-in_ok-keep_there-in-Some-clause-kept
is_there-returns-in_ok-keep_there-in-Some-clause-kept t c =
    let told : there_of (table_in c.args.s.now) c.args.left (member_of (frames_of c.args.s.now) c.args.member.now) ≡ Ok c.in_ok-there-in-Some.there = rw (c.in-Component.is, c.in-Some.is) c.in_ok-there-in-Some.ensures.exact in
    c.keep_there.ensures c.condition_in.new.s c.condition_in.ensures.kept (member_still _ _ c.condition_in.ensures.grows _ c.requires.member)
    (is_there_still _ _ c.condition_in.ensures.grows c.args.left c.args.member.now c.requires.member c.in_ok-there-in-Some.there told)

pub is_there-returns-in_ok-keep_there-in-Some-clause-exact : goal.components::is_there-returns-in_ok-keep_there-in-Some-clause-exact
is_there-returns-in_ok-keep_there-in-Some-clause-exact t c = rw (c.in-Component.is, c.in-Some.is) c.in_ok-there-in-Some.ensures.exact

-- ---- what grows

pub condition_in-returns-in_err-known-clause-grows : goal.components::condition_in-returns-in_err-known-clause-grows
condition_in-returns-in_err-known-clause-grows t c = grows_trans _ _ _ c.alone.ensures.grows c.truth_of.ensures.grows

pub condition_in-returns-clause-grows : goal.components::condition_in-returns-clause-grows
condition_in-returns-clause-grows t c = grows_trans _ _ _ c.alone.ensures.grows c.truth_of.ensures.grows

pub is_there-returns-in-Class-clause-grows : goal.components::is_there-returns-in-Class-clause-grows
is_there-returns-in-Class-clause-grows t c = grows_refl c.args.s.now

pub is_there-returns-in-None-clause-grows : goal.components::is_there-returns-in-None-clause-grows
is_there-returns-in-None-clause-grows t c = grows_refl c.args.s.now

pub is_there-returns-in-Some-there_kept-clause-grows : goal.components::is_there-returns-in-Some-there_kept-clause-grows
is_there-returns-in-Some-there_kept-clause-grows t c = grows_refl c.args.s.now

pub bound_value-returns-in_err-fits-clause-grows : goal.components::bound_value-returns-in_err-fits-clause-grows
bound_value-returns-in_err-fits-clause-grows t c = grows_refl c.args.s.now

pub resolved_binding-returns-in-Some-clause-grows : goal.components::resolved_binding-returns-in-Some-clause-grows
resolved_binding-returns-in-Some-clause-grows t c = grows_refl c.args.s.now

pub value_in-returns-in_err-known-clause-grows : goal.components::value_in-returns-in_err-known-clause-grows
value_in-returns-in_err-known-clause-grows t c = grows_trans _ _ _ c.resolved_binding.ensures.grows c.bound_value.ensures.grows

pub value_in-returns-in_err-keep_binding-clause-grows : goal.components::value_in-returns-in_err-keep_binding-clause-grows
value_in-returns-in_err-keep_binding-clause-grows t c = grows_trans _ _ _ c.resolved_binding.ensures.grows c.bound_value.ensures.grows

pub value_in-returns-clause-grows : goal.components::value_in-returns-clause-grows
value_in-returns-clause-grows t c = grows_trans _ _ _ c.resolved_binding.ensures.grows c.bound_value.ensures.grows

pub element_value-returns-clause-grows : goal.components::element_value-returns-clause-grows
element_value-returns-clause-grows t c = grows_trans _ _ _ c.child_of_member.ensures.grows c.value_in.ensures.grows
