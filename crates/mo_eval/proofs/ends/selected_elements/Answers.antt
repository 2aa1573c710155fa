use Rattle.std.proofs.Common.{◌≡◌, ◌-◌, List, Ok, Err, ap, arith, get_or, rules, sym, ◌∙◌}
use Rattle.mo_flat.specs.declared.array.Subscript.{Subscript}
use Rattle.mo_scope.specs.Worlds.{frames_of}
use Rattle.mo_names.proofs.Later.{grows_trans, is_member_later}
use Rattle.mo_typing.specs.Dims.{Dims}
use Rattle.mo_eval.specs.Ends.{Selects}
use Rattle.mo_eval.specs.steps.Absence.{Removes, stop_for}
use Rattle.mo_eval.specs.steps.Ending.{selected_seen}
use Rattle.mo_eval.specs.steps.Selecting.{elements_seen, selections_seen}
use Rattle.mo_eval.proofs.Earlier.{seen_halt}
use Rattle.mo_eval.proofs.Ending.{all_chosen, elements_before, no_choice, no_elements}
use Rattle.mo_eval.proofs.Referring.{named_member}
use Rattle.mo_eval.proofs.ends.selected_elements.Goals as goal

pub returns-in_err-chosen-clause-exact : goal.returns-in_err-chosen-clause-exact
returns-in_err-chosen-clause-exact c =
    let w = c.args.s.now in
    let names = c.args.names.now in
    let first = get_or names 0 c.index-names-0.result in
    let front : first ≡ get_or names 0 first = ap (get_or names 0) c.index-names-0.is in
    let deeper = c.args.site.now.left - 1 in
    let less : deeper ≡ 255 = omega (arith, c.requires.left) in
    let absent = c.in_err-chosen.field-0.0 in
    let stop = stop_for Removes absent in
    let p : c.from_residual.result ≡ Err absent = search rules in
    rw p
    (no_choice w c.args.site.now c.args.place names first c.requires.some front c.requires.left deeper less (selected_seen (frames_of c.selections.new.s)) stop
    (seen_halt selections_seen stop _ (c.in_err-chosen.ensures.exact Removes)))

pub elements_selected-requires-clause-member : goal.elements_selected-requires-clause-member
elements_selected-requires-clause-member c =
    let w = c.args.s.now in
    let names = c.args.names.now in
    let first = get_or names 0 c.index-names-0.result in
    let front : first ≡ get_or names 0 first = ap (get_or names 0) c.index-names-0.is in
    is_member_later w c.selections.new.s first.member c.selections.ensures.grows (named_member w names 0 first c.requires.some front c.requires.names)

pub returns-in_err-elements-clause-exact : goal.returns-in_err-elements-clause-exact
returns-in_err-elements-clause-exact c =
    let w = c.args.s.now in
    let names = c.args.names.now in
    let first = get_or names 0 c.index-names-0.result in
    let front : first ≡ get_or names 0 first = ap (get_or names 0) c.index-names-0.is in
    let u = c.selections.new.s in
    let is = named_member w names 0 first c.requires.some front c.requires.names in
    let deeper = c.args.site.now.left - 1 in
    let less : deeper ≡ 255 = omega (arith, c.requires.left) in
    let chosen = selections_seen c.in_ok-chosen.chosen in
    let before = elements_before w u c.selections.ensures.grows first.member is deeper c.args.place chosen in
    let absent = c.in_err-elements.field-0.0 in
    let stop = stop_for Removes absent in
    let p : c.from_residual-in_err-elements.result ≡ Err absent = search rules in
    let told = seen_halt (elements_seen (frames_of c.elements_selected.new.s)) stop _ (c.in_err-elements.ensures.exact Removes) in
    rw p
    (no_elements w c.args.site.now c.args.place names first c.requires.some front c.requires.left deeper less chosen (c.in_ok-chosen.ensures.exact Removes) (selected_seen (frames_of c.elements_selected.new.s)) stop
    (rw before at (rw c.as_slice.ensures at told)))

pub returns-clause-exact : goal.returns-clause-exact
returns-clause-exact c =
    let w = c.args.s.now in
    let names = c.args.names.now in
    let first = get_or names 0 c.index-names-0.result in
    let front : first ≡ get_or names 0 first = ap (get_or names 0) c.index-names-0.is in
    let u = c.selections.new.s in
    let is = named_member w names 0 first c.requires.some front c.requires.names in
    let deeper = c.args.site.now.left - 1 in
    let less : deeper ≡ 255 = omega (arith, c.requires.left) in
    let chosen = selections_seen c.in_ok-chosen.chosen in
    let before = elements_before w u c.selections.ensures.grows first.member is deeper c.args.place chosen in
    let elements = elements_seen (frames_of c.elements_selected.new.s) c.in_ok-elements.elements in
    let all = sym before ∙ (rw c.as_slice.ensures at (c.in_ok-elements.ensures.exact Removes)) in
    all_chosen w c.args.site.now c.args.place names first c.requires.some front c.requires.left deeper less chosen (c.in_ok-chosen.ensures.exact Removes) elements all
    ∙ ap (λ (handed : Dims × List Subscript). Ok (Selects handed.0 handed.1 elements)) (sym c.in_ok-dims.ensures)

pub returns-in_err-elements-clause-grows : goal.returns-in_err-elements-clause-grows
returns-in_err-elements-clause-grows c = grows_trans _ _ _ c.in_ok-chosen.ensures.grows c.in_err-elements.ensures.grows

pub returns-in_err-dims-clause-grows : goal.returns-in_err-dims-clause-grows
returns-in_err-dims-clause-grows c = grows_trans _ _ _ c.in_ok-chosen.ensures.grows c.in_ok-elements.ensures.grows

pub returns-clause-grows : goal.returns-clause-grows
returns-clause-grows c = grows_trans _ _ _ c.in_ok-chosen.ensures.grows c.in_ok-elements.ensures.grows
