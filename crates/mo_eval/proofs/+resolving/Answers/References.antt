-- What is answered of the calls of references.rt.
use Rattle.mo_eval.proofs.Chosen.{more_of_none}
use Rattle.mo_eval.proofs.Earlier.{are_elements_later, elements_later, seen_halt}
use Rattle.mo_eval.proofs.Growing.{made_as}
use Rattle.mo_eval.proofs.Grown.{frame_stays, kept_still, same_virtuals, there_still}
use Rattle.mo_eval.proofs.Reference.{made_halts}
use Rattle.mo_eval.proofs.Referring.{all_made, elements_earlier, kind_earlier, made_as_put, named_components, named_member, named_other, no_choice, no_elements, no_kind, none_left_of}
use Rattle.mo_eval.proofs.Removing.{if_told, told_broken}
use Rattle.mo_eval.specs.Seen.{virtuals_seen}
use Rattle.mo_eval.specs.steps.Sites.{part_in}
use Rattle.mo_eval.specs.steps.Absence.{Breaks}
use Rattle.mo_eval.specs.steps.Selecting.{elements_seen, selections_seen}
use Rattle.mo_names.proofs.Later.{grows_trans, is_member_later, grows_refl}
use Rattle.mo_scope.specs.Worlds.{frames_of}
use Rattle.std.proofs.Common.{Err, Ok, ap, arith, get_or, length, refl, rules, suc, sym, ◌-◌, ◌<◌, ◌∙◌, ◌≡◌}
use Rattle.std.proofs.lemmas.Grind.{common_steps}
use Rattle.mo_eval.proofs.+resolving.Goals.{references::elements_selected-then-is_inside+in_ok-below, references::elements_selected-else-is_inside}
use Rattle.mo_eval.proofs.+resolving.Goals as goal

pub components-returns-then-site-eq0-clause-exact : goal.references::components-returns-then-site-eq0-clause-exact
components-returns-then-site-eq0-clause-exact t c =
    let w = c.args.s.now in
    let names = c.args.names.now in
    let some : 0 < length names = grind (arith, common_steps, c.is_empty.ensures, c.if-is_empty.false) in
    rw c.broken-then-site-eq0.ensures (record { is = none_left_of w c.args.site.now c.args.place names (virtuals_seen (frames_of w) c.args.virtuals.now) some c.if-site-eq0.true })

pub components-returns-in_err-chosen-clause-there : goal.references::components-returns-in_err-chosen-clause-there
components-returns-in_err-chosen-clause-there t c = there_still _ _ c.selections.ensures.grows _ c.requires.there

pub components-returns-in_err-chosen-clause-exact : goal.references::components-returns-in_err-chosen-clause-exact
components-returns-in_err-chosen-clause-exact t c =
    let w = c.args.s.now in
    let names = c.args.names.now in
    let first = get_or names 0 c.index-names-0.result in
    let front : first ≡ get_or names 0 first = ap (get_or names 0) c.index-names-0.is in
    let stop = c.in_err-chosen.field-0.0 in
    let some : 0 < length names = grind (arith, common_steps, c.is_empty.ensures, c.if-is_empty.false) in
    let more : c.args.site.now.left ≡ suc (c.args.site.now.left - 1) = omega (arith, c.if-site-eq0.false) in
    let p : c.from_residual.result ≡ Err stop = search rules in
    rw p
    (made_halts _ stop _ _
    (no_choice w c.args.site.now c.args.place names first (virtuals_seen (frames_of w) c.args.virtuals.now) some front (c.args.site.now.left - 1) more stop
    (seen_halt selections_seen stop _ (told_broken selections_seen c.selections.result (Err stop) _ c.in_err-chosen.ensures (c.selections.ensures.exact Breaks)))))

pub components-returns-in_err-elements-clause-there : goal.references::components-returns-in_err-elements-clause-there
components-returns-in_err-elements-clause-there t c = there_still _ _ (grows_trans _ _ _ c.selections.ensures.grows c.elements_selected.ensures.grows) _ c.requires.there

pub components-returns-in_err-elements-clause-exact : goal.references::components-returns-in_err-elements-clause-exact
components-returns-in_err-elements-clause-exact t c =
    let w = c.args.s.now in
    let u = c.selections.new.s in
    let names = c.args.names.now in
    let first = get_or names 0 c.index-names-0.result in
    let front : first ≡ get_or names 0 first = ap (get_or names 0) c.index-names-0.is in
    let deeper = c.args.site.now.left - 1 in
    let stop = c.in_err-elements.field-0.0 in
    let some : 0 < length names = grind (arith, common_steps, c.is_empty.ensures, c.if-is_empty.false) in
    let more : c.args.site.now.left ≡ suc (c.args.site.now.left - 1) = omega (arith, c.if-site-eq0.false) in
    let chosen = selections_seen c.in_ok-chosen.chosen in
    let is = named_member w names 0 first some front c.requires.names in
    let p : c.from_residual-in_err-elements.result ≡ Err stop = search rules in
    let told = seen_halt (elements_seen (frames_of c.elements_selected.new.s)) stop _ (told_broken (elements_seen (frames_of c.elements_selected.new.s)) c.elements_selected.result (Err stop) _ c.in_err-elements.ensures (c.elements_selected.ensures.exact Breaks)) in
    rw p
    (made_halts _ stop _ _
    (no_elements w c.args.site.now c.args.place names first (virtuals_seen (frames_of w) c.args.virtuals.now) some front deeper more chosen (told_broken selections_seen c.selections.result (Ok c.in_ok-chosen.chosen) _ c.in_ok-chosen.ensures (c.selections.ensures.exact Breaks)) stop
    (rw (elements_earlier w u c.selections.ensures.grows first.member is deeper c.args.place chosen) at (rw c.as_slice.ensures at told))))

pub components-returns-in_err-kind-clause-grows : goal.references::components-returns-in_err-kind-clause-grows
components-returns-in_err-kind-clause-grows t c = grows_trans _ _ _ c.selections.ensures.grows (grows_trans _ _ _ c.elements_selected.ensures.grows c.in_err-kind.ensures.grows)

pub components-returns-in_err-kind-clause-kept : goal.references::components-returns-in_err-kind-clause-kept
components-returns-in_err-kind-clause-kept t c = kept_still _ _ c.kind_of_elements.ensures.grows _ c.elements_selected.ensures.kept

pub components-returns-in_err-kind-clause-there : goal.references::components-returns-in_err-kind-clause-there
components-returns-in_err-kind-clause-there t c =
    there_still _ _ (grows_trans _ _ _ c.selections.ensures.grows (grows_trans _ _ _ c.elements_selected.ensures.grows c.in_err-kind.ensures.grows)) _ c.requires.there

pub components-returns-in_err-kind-clause-exact : goal.references::components-returns-in_err-kind-clause-exact
components-returns-in_err-kind-clause-exact t c =
    let w = c.args.s.now in
    let u = c.selections.new.s in
    let v = c.elements_selected.new.s in
    let names = c.args.names.now in
    let first = get_or names 0 c.index-names-0.result in
    let front : first ≡ get_or names 0 first = ap (get_or names 0) c.index-names-0.is in
    let last = get_or names (length names - 1) c.index-names-names.result in
    let back : last ≡ get_or names (length names - 1) last = ap (get_or names (length names - 1)) c.index-names-names.is in
    let deeper = c.args.site.now.left - 1 in
    let stop = c.in_err-kind.field-0.0 in
    let some : 0 < length names = grind (arith, common_steps, c.is_empty.ensures, c.if-is_empty.false) in
    let more : c.args.site.now.left ≡ suc (c.args.site.now.left - 1) = omega (arith, c.if-site-eq0.false) in
    let chosen = selections_seen c.in_ok-chosen.chosen in
    let is = named_member w names 0 first some front c.requires.names in
    let ends = named_member w names (length names - 1) last (omega (arith, some)) back c.requires.names in
    let grown = grows_trans w u v c.selections.ensures.grows c.elements_selected.ensures.grows in
    let elements = elements_seen (frames_of v) c.in_ok-elements.elements in
    let all = sym (elements_earlier w u c.selections.ensures.grows first.member is deeper c.args.place chosen) ∙ (rw c.as_slice.ensures at (told_broken (elements_seen (frames_of c.elements_selected.new.s)) c.elements_selected.result (Ok c.in_ok-elements.elements) _ c.in_ok-elements.ensures (c.elements_selected.ensures.exact Breaks))) in
    let told = rw c.as_slice-2.ensures at c.in_err-kind.ensures.exact in
    let p : c.from_residual-in_err-kind.result ≡ Err stop = search rules in
    rw p
    (made_halts _ stop _ _
    (no_kind w c.args.site.now c.args.place names first (virtuals_seen (frames_of w) c.args.virtuals.now) some front deeper more chosen (told_broken selections_seen c.selections.result (Ok c.in_ok-chosen.chosen) _ c.in_ok-chosen.ensures (c.selections.ensures.exact Breaks)) elements all last back stop
    (rw (kind_earlier w v grown last.member ends c.args.site.now.context c.args.place elements) at told)))

pub components-returns-in_err-dims-clause-grows : goal.references::components-returns-in_err-dims-clause-grows
components-returns-in_err-dims-clause-grows t c = grows_trans _ _ _ c.selections.ensures.grows (grows_trans _ _ _ c.elements_selected.ensures.grows c.in_ok-kind.ensures.grows)

pub components-returns-in_err-dims-clause-there : goal.references::components-returns-in_err-dims-clause-there
components-returns-in_err-dims-clause-there t c =
    there_still _ _ (grows_trans _ _ _ c.selections.ensures.grows (grows_trans _ _ _ c.elements_selected.ensures.grows c.in_ok-kind.ensures.grows)) _ c.requires.there

pub components-returns-in_err-dims-clause-kept : goal.references::components-returns-in_err-dims-clause-kept
components-returns-in_err-dims-clause-kept t c = kept_still _ _ c.kind_of_elements.ensures.grows _ c.elements_selected.ensures.kept

pub components-returns-in_err-vars-clause-grows : goal.references::components-returns-in_err-vars-clause-grows
components-returns-in_err-vars-clause-grows t c = grows_trans _ _ _ c.selections.ensures.grows (grows_trans _ _ _ c.elements_selected.ensures.grows c.in_ok-kind.ensures.grows)

pub components-returns-in_err-vars-clause-there : goal.references::components-returns-in_err-vars-clause-there
components-returns-in_err-vars-clause-there t c =
    let grown = grows_trans _ _ _ c.selections.ensures.grows (grows_trans _ _ _ c.elements_selected.ensures.grows c.in_ok-kind.ensures.grows) in
    c.in_err-vars.ensures.there _ (there_still _ _ grown _ c.requires.there) (rw c.as_slice-3.ensures (are_elements_later _ _ c.in_ok-kind.ensures.grows _ (if_told c.elements_selected.result c.in_ok-elements.elements _ c.in_ok-elements.ensures c.elements_selected.ensures.there)))

pub components-returns-in_err-vars-clause-kept : goal.references::components-returns-in_err-vars-clause-kept
components-returns-in_err-vars-clause-kept t c = kept_still _ _ c.kind_of_elements.ensures.grows _ c.elements_selected.ensures.kept

pub components-returns-clause-grows : goal.references::components-returns-clause-grows
components-returns-clause-grows t c = grows_trans _ _ _ c.selections.ensures.grows (grows_trans _ _ _ c.elements_selected.ensures.grows c.in_ok-kind.ensures.grows)

pub components-returns-clause-there : goal.references::components-returns-clause-there
components-returns-clause-there t c =
    let grown = grows_trans _ _ _ c.selections.ensures.grows (grows_trans _ _ _ c.elements_selected.ensures.grows c.in_ok-kind.ensures.grows) in
    c.in_ok-vars.ensures.there _ (there_still _ _ grown _ c.requires.there) (rw c.as_slice-3.ensures (are_elements_later _ _ c.in_ok-kind.ensures.grows _ (if_told c.elements_selected.result c.in_ok-elements.elements _ c.in_ok-elements.ensures c.elements_selected.ensures.there)))

pub components-returns-clause-kept : goal.references::components-returns-clause-kept
components-returns-clause-kept t c = kept_still _ _ c.kind_of_elements.ensures.grows _ c.elements_selected.ensures.kept

pub components-returns-clause-exact : goal.references::components-returns-clause-exact
components-returns-clause-exact t c =
    let w = c.args.s.now in
    let u = c.selections.new.s in
    let v = c.elements_selected.new.s in
    let x = c.kind_of_elements.new.s in
    let names = c.args.names.now in
    let first = get_or names 0 c.index-names-0.result in
    let front : first ≡ get_or names 0 first = ap (get_or names 0) c.index-names-0.is in
    let last = get_or names (length names - 1) c.index-names-names.result in
    let back : last ≡ get_or names (length names - 1) last = ap (get_or names (length names - 1)) c.index-names-names.is in
    let deeper = c.args.site.now.left - 1 in
    let some : 0 < length names = grind (arith, common_steps, c.is_empty.ensures, c.if-is_empty.false) in
    let more : c.args.site.now.left ≡ suc (c.args.site.now.left - 1) = omega (arith, c.if-site-eq0.false) in
    let chosen = selections_seen c.in_ok-chosen.chosen in
    let is = named_member w names 0 first some front c.requires.names in
    let ends = named_member w names (length names - 1) last (omega (arith, some)) back c.requires.names in
    let grown = grows_trans w u v c.selections.ensures.grows c.elements_selected.ensures.grows in
    let grown_on = grows_trans w v x grown c.in_ok-kind.ensures.grows in
    let elements = elements_seen (frames_of v) c.in_ok-elements.elements in
    let all = sym (elements_earlier w u c.selections.ensures.grows first.member is deeper c.args.place chosen) ∙ (rw c.as_slice.ensures at (told_broken (elements_seen (frames_of c.elements_selected.new.s)) c.elements_selected.result (Ok c.in_ok-elements.elements) _ c.in_ok-elements.ensures (c.elements_selected.ensures.exact Breaks))) in
    let kinds = sym (kind_earlier w v grown last.member ends c.args.site.now.context c.args.place elements) ∙ (rw c.as_slice-2.ensures at c.in_ok-kind.ensures.exact) in
    let made = all_made w c.args.site.now c.args.place names first (virtuals_seen (frames_of w) c.args.virtuals.now) some front deeper more chosen (told_broken selections_seen c.selections.result (Ok c.in_ok-chosen.chosen) _ c.in_ok-chosen.ensures (c.selections.ensures.exact Breaks)) elements all last back
    c.in_ok-kind.kind c.are_constant.result kinds (c.are_constant.ensures (part_in w c.args.site.now) (frames_of w)) in
    let put = rw c.as_slice-3.ensures at (c.in_ok-vars.ensures.exact (frames_of x)) in
    record {
      is = made_as_put w v x _ c.args.virtuals.now c.put_variables.new.virtuals c.in_ok-elements.elements (record { place = c.args.place; kind = c.in_ok-kind.kind; constant = c.are_constant.result }) c.in_ok-vars.vars _ _ _ made
          (same_virtuals w x grown_on c.args.virtuals.now c.requires.there)
          (elements_later v x c.in_ok-kind.ensures.grows c.in_ok-elements.elements (if_told c.elements_selected.result c.in_ok-elements.elements _ c.in_ok-elements.ensures c.elements_selected.ensures.there))
          (ap (λ h. h.0) c.in_ok-dims.ensures)
          (ap (λ h. h.1) c.in_ok-dims.ensures)
          put.0
          put.1;
    }

pub name-returns-in_err-names-clause-there : goal.references::name-returns-in_err-names-clause-there
name-returns-in_err-names-clause-there t c = there_still _ _ c.in_err-names.ensures.grows _ c.requires.there

pub name-returns-in_err-names-clause-kept : goal.references::name-returns-in_err-names-clause-kept
name-returns-in_err-names-clause-kept t c = kept_still _ _ c.in_err-names.ensures.grows _ c.requires.kept

pub name-components-requires : goal.references::name-components-requires
name-components-requires t c = (
  search rules,
  (
    frame_stays _ _ _ c.in_ok-names.ensures.grows c.requires.frame,
    (
      rw c.as_slice.ensures (rw c.in-Components.is at c.in_ok-names.ensures.there),
      (there_still _ _ c.in_ok-names.ensures.grows _ c.requires.there, kept_still _ _ c.in_ok-names.ensures.grows _ c.requires.kept),
    ),
  ),
)

pub name-returns-in-Components-clause-exact : goal.references::name-returns-in-Components-clause-exact
name-returns-in-Components-clause-exact t c =
    made_as _ _ _ _ _
    (named_components c.args.s.now c.named.new.s c.in_ok-names.ensures.grows c.args.site.now c.requires.frame c.args.place c.args.reference.now c.in-Components.names c.args.virtuals.now c.requires.there
    (rw c.in-Components.is at c.in_ok-names.ensures.exact))
    (rw c.as_slice.ensures at c.components.ensures.exact)

pub name-returns-in-Other-clause-there : goal.references::name-returns-in-Other-clause-there
name-returns-in-Other-clause-there t c = there_still _ _ c.in_ok-names.ensures.grows _ c.requires.there

pub name-returns-in-Other-clause-kept : goal.references::name-returns-in-Other-clause-kept
name-returns-in-Other-clause-kept t c = kept_still _ _ c.in_ok-names.ensures.grows _ c.requires.kept

pub name-returns-in-Other-clause-exact : goal.references::name-returns-in-Other-clause-exact
name-returns-in-Other-clause-exact t c =
    named_other c.args.s.now c.named.new.s c.in_ok-names.ensures.grows c.args.site.now c.args.place c.args.reference.now c.in-Other.found c.in-Other.at _ c.args.virtuals.now c.requires.there
    (rw c.in-Other.is at c.in_ok-names.ensures.exact) c.other.ensures

pub components-elements_selected-requires : goal.references::components-elements_selected-requires
components-elements_selected-requires t c =
    let w = c.args.s.now in
    let names = c.args.names.now in
    let first = get_or names 0 c.index-names-0.result in
    let front : first ≡ get_or names 0 first = ap (get_or names 0) c.index-names-0.is in
    let some : 0 < length names = grind (arith, common_steps, c.is_empty.ensures, c.if-is_empty.false) in
    let is = named_member w names 0 first some front c.requires.names in
    (search rules, (is_member_later w c.selections.new.s first.member c.selections.ensures.grows is, c.selections.ensures.kept))

pub components-kind_of_elements-requires-clause-member : goal.references::components-kind_of_elements-requires-clause-member
components-kind_of_elements-requires-clause-member t c =
    let w = c.args.s.now in
    let names = c.args.names.now in
    let last = get_or names (length names - 1) c.index-names-names.result in
    let back : last ≡ get_or names (length names - 1) last = ap (get_or names (length names - 1)) c.index-names-names.is in
    let some : 0 < length names = grind (arith, common_steps, c.is_empty.ensures, c.if-is_empty.false) in
    let ends = named_member w names (length names - 1) last (omega (arith, some)) back c.requires.names in
    is_member_later w c.elements_selected.new.s last.member (grows_trans w c.selections.new.s c.elements_selected.new.s c.selections.ensures.grows c.elements_selected.ensures.grows) ends

pub elements_selected-returns-clause-there : goal.references::elements_selected-returns-clause-there
elements_selected-returns-clause-there t c =
    elim c.if-is_inside.branch [
      | references::elements_selected-then-is_inside+in_ok-below w ↦ rw (w.s-is, w.made-is) w.in_ok-below.ensures.there
      | references::elements_selected-else-is_inside w ↦ rw (w.s-is, w.made-is, c.new-made.ensures) tt
    ]

pub elements_selected-returns-clause-exact : goal.references::elements_selected-returns-clause-exact
elements_selected-returns-clause-exact t c = λ asking.
    elim c.if-is_inside.branch [
      | references::elements_selected-then-is_inside+in_ok-below w ↦
          rw (w.s-is, w.made-is, sym c.is_inside.ensures ∙ w.if-is_inside.true) (sym (more_of_none _) ∙ (rw c.new-made.ensures at (w.in_ok-below.ensures.exact asking)))
      | references::elements_selected-else-is_inside w ↦ rw (w.s-is, w.made-is, c.new-made.ensures, sym c.is_inside.ensures ∙ w.if-is_inside.false) refl
    ]

-- ---- what grows

pub components-returns-then-site-eq0-clause-grows : goal.references::components-returns-then-site-eq0-clause-grows
components-returns-then-site-eq0-clause-grows t c = grows_refl c.args.s.now

pub components-returns-in_err-elements-clause-grows : goal.references::components-returns-in_err-elements-clause-grows
components-returns-in_err-elements-clause-grows t c = grows_trans _ _ _ c.selections.ensures.grows c.elements_selected.ensures.grows

pub name-returns-in-Components-clause-grows : goal.references::name-returns-in-Components-clause-grows
name-returns-in-Components-clause-grows t c = grows_trans _ _ _ c.named.ensures.grows c.components.ensures.grows
