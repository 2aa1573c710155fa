use Rattle.std.proofs.Common.{◌≡◌, ◌∙◌, Err, Ok, Some, ap, sym, refl, rules}
use Rattle.std.specs.Prelude.{option_map}
use Rattle.mo_scope.specs.Worlds.{frames_of, table_in}
use Rattle.mo_names.specs.Sights.{member_of}
use Rattle.mo_eval.specs.References.{component_behind}
use Rattle.mo_values.specs.Selected.{selected}
use Rattle.mo_eval.specs.steps.Parts.{as_identifier}
use Rattle.mo_eval.specs.steps.Selecting.{next_among}
use Rattle.mo_eval.proofs.Chosen.{no_first, some_first}
use Rattle.mo_eval.proofs.Earlier.{seen_as, seen_halts_seen}
use Rattle.mo_names.proofs.Later.{grows_refl}
use Rattle.mo_eval.proofs.selections.next_selected.Goals as goal

pub returns-in_default-clause-exact : goal.returns-in_default-clause-exact
returns-in_default-clause-exact c = λ f.
    let member = member_of (frames_of c.args.s.now) c.args.member.now in
    let made : c.in_ok-indices.indices ≡ selected c.args.selection.now.dims c.args.selection.now.subs = rw (c.as_slice.ensures, c.as_slice-2.ensures) at c.in_ok-indices.ensures in
    ap (next_among (table_in c.args.s.now) member (as_identifier f c.args.next.now)) (sym made ∙ no_first c.in_ok-indices.indices (rw c.in_default.is at c.get.ensures))

pub returns-in_err-behind-clause-exact : goal.returns-in_err-behind-clause-exact
returns-in_err-behind-clause-exact c = λ f.
    let end = c.component_behind.new.s in
    let T = table_in c.args.s.now in
    let member = member_of (frames_of c.args.s.now) c.args.member.now in
    let next = as_identifier f c.args.next.now in
    let index = c.in-Some.index.now in
    let made : c.in_ok-indices.indices ≡ selected c.args.selection.now.dims c.args.selection.now.subs = rw (c.as_slice.ensures, c.as_slice-2.ensures) at c.in_ok-indices.ensures in
    let first = ap (next_among T member next) (sym made ∙ some_first c.in_ok-indices.indices index (rw c.in-Some.is at c.get.ensures)) in
    let view = option_map (member_of (frames_of end)) in
    let stop = c.in_err-behind.field-0.0 in
    let p : c.from_residual-in_err-behind.result ≡ Err stop = search rules in
    rw p
    (seen_as view (Err stop) _ _ (sym first)
    (seen_halts_seen (member_of (frames_of end)) view stop (component_behind T next.place member index next.name) (λ behind. Ok (Some behind)) (rw c.as_slice-3.ensures at c.in_err-behind.ensures.exact)))

pub returns-clause-exact : goal.returns-clause-exact
returns-clause-exact c = λ f.
    let T = table_in c.args.s.now in
    let member = member_of (frames_of c.args.s.now) c.args.member.now in
    let next = as_identifier f c.args.next.now in
    let index = c.in-Some.index.now in
    let made : c.in_ok-indices.indices ≡ selected c.args.selection.now.dims c.args.selection.now.subs = rw (c.as_slice.ensures, c.as_slice-2.ensures) at c.in_ok-indices.ensures in
    let first = ap (next_among T member next) (sym made ∙ some_first c.in_ok-indices.indices index (rw c.in-Some.is at c.get.ensures)) in
    let told : component_behind T next.place member index next.name ≡ Ok (member_of (frames_of c.component_behind.new.s) c.in_ok-behind.behind) = rw c.as_slice-3.ensures at c.in_ok-behind.ensures.exact in
    first ∙ rw told refl

pub returns-in_err-indices-clause-grows : goal.returns-in_err-indices-clause-grows
returns-in_err-indices-clause-grows c = grows_refl _

pub returns-in_default-clause-grows : goal.returns-in_default-clause-grows
returns-in_default-clause-grows c = grows_refl _
