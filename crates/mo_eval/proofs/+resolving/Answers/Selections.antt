-- What is answered of the calls of selections.rt.
use Rattle.mo_eval.proofs.Along.{all_selected, going_halts, going_on, rest_of, selecting_halts}
use Rattle.mo_eval.proofs.Earlier.{halt_seen, halts_seen, of_member}
use Rattle.mo_eval.proofs.Growing.{gives_as, gives_halt, same_asked}
use Rattle.mo_eval.proofs.Grown.{kept_still}
use Rattle.mo_eval.proofs.Referring.{named_member}
use Rattle.mo_eval.proofs.Removing.{dims_for, is_there_for, removed_for, there_stops}
use Rattle.mo_eval.proofs.Subscripting.{behind_nothing}
use Rattle.mo_eval.specs.References.{dims_at, read_subscripts, there}
use Rattle.mo_eval.specs.steps.Sites.{elements_in, part_in}
use Rattle.mo_eval.specs.Values.{component_dims, reading}
use Rattle.mo_eval.specs.declared.absent.Absent.TheVariants.{Stopped}
use Rattle.mo_eval.specs.steps.Absence.{stop_for}
use Rattle.mo_eval.specs.steps.Naming.{name_seen}
use Rattle.mo_eval.specs.steps.Selecting.{reading_at, reading_in, selection_seen, selections_seen}
use Rattle.mo_flat.specs.declared.array.Subscript.{Subscript}
use Rattle.mo_names.proofs.Later.{grows_refl, grows_trans, is_member_later, is_frame_later}
use Rattle.mo_names.specs.Sights.{member_of}
use Rattle.mo_scope.specs.Worlds.{frames_of, table_in}
use Rattle.std.proofs.Common.{Err, List, Ok, [], arith, false, map, refl, rules, sym, true, ℕ, ◌++◌, ◌+◌, ◌∙◌, ◌∷◌, ◌≡◌}
use Rattle.std.proofs.lemmas.List.{map-append}
use Rattle.std.specs.Option.{option_map}
use Rattle.std.specs.Prelude.{option_map as mapped, option_map as option_map_of_prelude}
use Rattle.mo_eval.proofs.+resolving.Goals as goal

pub there-returns-in_err-there-clause-exact : goal.selections::there-returns-in_err-there-clause-exact
there-returns-in_err-there-clause-exact t c = λ asking.
    let stop = c.in_err-there.field-0.0 in
    let p : c.from_residual.result ≡ Err (Stopped stop) = search rules in
    rw p (there_stops asking (reading_at c.args.s.now c.args.deeper) c.args.place (member_of (frames_of c.args.s.now) c.args.member.now) stop c.in_err-there.ensures.exact)

pub there-returns-then-not-there-clause-exact : goal.selections::there-returns-then-not-there-clause-exact
there-returns-then-not-there-clause-exact t c = λ asking.
    let no : c.in_ok-there.there ≡ false = search rules in
    removed_for asking (reading_at c.args.s.now c.args.deeper) c.args.place (member_of (frames_of c.args.s.now) c.args.member.now) (rw no at c.in_ok-there.ensures.exact)

pub there-returns-clause-exact : goal.selections::there-returns-clause-exact
there-returns-clause-exact t c = λ asking.
    let yes : c.in_ok-there.there ≡ true = search rules in
    is_there_for asking (reading_at c.args.s.now c.args.deeper) c.args.place (member_of (frames_of c.args.s.now) c.args.member.now) (rw yes at c.in_ok-there.ensures.exact)

pub dims_there-returns-in_err-there-clause-exact : goal.selections::dims_there-returns-in_err-there-clause-exact
dims_there-returns-in_err-there-clause-exact t c = λ asking.
    let absent = c.in_err-there.field-0.0 in
    let stop = stop_for asking absent in
    let member = member_of (frames_of c.args.s.now) c.args.member.now in
    let reading = reading_in asking c.args.s.now c.args.deeper in
    let p : c.from_residual.result ≡ Err absent = search rules in
    rw p (gives_halt stop (there reading c.args.place member) (λ _. reading.dims member) (c.in_err-there.ensures.exact asking))

pub dims_there-returns-in_err-dims-clause-exact : goal.selections::dims_there-returns-in_err-dims-clause-exact
dims_there-returns-in_err-dims-clause-exact t c = λ asking.
    let stop = c.in_err-dims.field-0.0 in
    let p : c.from_residual-in_err-dims.result ≡ Err (Stopped stop) = search rules in
    let member = member_of (frames_of c.args.s.now) c.args.member.now in
    rw (p, c.in_ok-there.ensures.exact asking)
    (gives_as {A = List ℕ} (Err stop) _ _
    (of_member (λ table member. component_dims table c.args.deeper member) c.args.s.now c.there.new.s c.in_ok-there.ensures.grows c.args.member.now c.requires.member ∙ sym (dims_for asking (reading_at c.args.s.now c.args.deeper) member))
    c.in_err-dims.ensures.exact)

pub dims_there-returns-clause-exact : goal.selections::dims_there-returns-clause-exact
dims_there-returns-clause-exact t c = λ asking.
    let member = member_of (frames_of c.args.s.now) c.args.member.now in
    rw (c.in_ok-there.ensures.exact asking)
    (gives_as {A = List ℕ} (Ok c.in_ok-dims.field-0) _ _
    (of_member (λ table member. component_dims table c.args.deeper member) c.args.s.now c.there.new.s c.in_ok-there.ensures.grows c.args.member.now c.requires.member ∙ sym (dims_for asking (reading_at c.args.s.now c.args.deeper) member))
    c.in_ok-dims.ensures.exact)

pub dims_at-returns-in-Some-clause-exact : goal.selections::dims_at-returns-in-Some-clause-exact
dims_at-returns-in-Some-clause-exact t c = λ asking f. rw c.in-Some.is (c.dims_there.ensures.exact asking)

pub dims_at-returns-in_err-n-in-None-clause-kept : goal.selections::dims_at-returns-in_err-n-in-None-clause-kept
dims_at-returns-in_err-n-in-None-clause-kept t c = kept_still _ _ c.count_of_dims.ensures.grows _ c.requires.kept

pub dims_at-returns-in_err-nothings-in-None-clause-kept : goal.selections::dims_at-returns-in_err-nothings-in-None-clause-kept
dims_at-returns-in_err-nothings-in-None-clause-kept t c = kept_still _ _ c.count_of_dims.ensures.grows _ c.requires.kept

pub dims_at-returns-in_ok-nothings-in-None-clause-kept : goal.selections::dims_at-returns-in_ok-nothings-in-None-clause-kept
dims_at-returns-in_ok-nothings-in-None-clause-kept t c = kept_still _ _ c.count_of_dims.ensures.grows _ c.requires.kept

pub selection_at-returns-in_err-dims-clause-exact : goal.selections::selection_at-returns-in_err-dims-clause-exact
selection_at-returns-in_err-dims-clause-exact t c = λ asking.
    let absent = c.in_err-dims.field-0.0 in
    let part = part_in c.args.s.now c.args.site.now in
    let p : c.from_residual.result ≡ Err absent = search rules in
    rw p (halts_seen selection_seen (stop_for asking absent) (dims_at (table_in c.args.s.now) (reading_in asking c.args.s.now c.args.deeper) (mapped (member_of (frames_of c.args.s.now)) c.args.member.now) (name_seen part (frames_of c.args.s.now) c.args.name.now)) _ (c.in_err-dims.ensures.exact asking part))

pub selection_at-returns-in_err-subs-clause-exact : goal.selections::selection_at-returns-in_err-subs-clause-exact
selection_at-returns-in_err-subs-clause-exact t c = λ asking.
    let stop = c.in_err-subs.field-0.0 in
    let part = part_in c.args.s.now c.args.site.now in
    let subs = c.args.name.now.part.now.subs in
    let dims = c.in_ok-dims.dims in
    let same = same_asked (λ read part. read_subscripts read dims (map (option_map part) subs)) c.args.s.now c.dims_at.new.s c.args.site.now c.in_ok-dims.ensures.grows c.requires.frame in
    let p : c.from_residual-in_err-subs.result ≡ Err (Stopped stop) = search rules in
    rw (p, c.in_ok-dims.ensures.exact asking part)
    (halts_seen selection_seen stop (read_subscripts (elements_in c.args.s.now c.args.site.now.left) dims (map (option_map part) subs)) _
    (gives_as {A = List Subscript} (Err stop) _ _ same (rw (c.as_slice.ensures, c.as_slice-2.ensures) at c.in_err-subs.ensures.exact)))

pub selection_at-returns-clause-exact : goal.selections::selection_at-returns-clause-exact
selection_at-returns-clause-exact t c = λ asking.
    let part = part_in c.args.s.now c.args.site.now in
    let subs = c.args.name.now.part.now.subs in
    let dims = c.in_ok-dims.dims in
    let same = same_asked (λ read part. read_subscripts read dims (map (option_map part) subs)) c.args.s.now c.dims_at.new.s c.args.site.now c.in_ok-dims.ensures.grows c.requires.frame in
    let told : read_subscripts (elements_in c.args.s.now c.args.site.now.left) dims (map (option_map part) subs) ≡ Ok c.in_ok-subs.subs =
    gives_as {A = List Subscript} (Ok c.in_ok-subs.subs) _ _ same (rw (c.as_slice.ensures, c.as_slice-2.ensures) at c.in_ok-subs.ensures.exact) in
    rw (c.in_ok-dims.ensures.exact asking part, told) refl

pub selections-loop-i-init : goal.selections::selections-loop-i-init
selections-loop-i-init t c = record { grows = grows_refl c.args.s.now; member = c.requires.first; is = λ asking. rw c.new-made.ensures (behind_nothing _); kept = c.requires.kept }

pub selections-returns-in_err-selection-clause-exact : goal.selections::selections-returns-in_err-selection-clause-exact
selections-returns-in_err-selection-clause-exact t c = λ asking.
    let s = c.args.s.now in
    let absent = c.in_err-selection.field-0.0 in
    let stop = stop_for asking absent in
    let p : c.from_residual.result ≡ Err absent = search rules in
    rw p
    (halt_seen selections_seen stop _
    (selecting_halts s c.loop-i.s c.selection_at.new.s c.loop-i.invariant.grows c.in_err-selection.ensures.grows c.args.site.now c.requires.frame asking c.args.deeper c.args.names.now c.requires.names c.loop-i.i c.index-names-i.result c.loop-i-test.true c.index-names-i.is
    c.loop-i.member c.loop-i.invariant.member c.loop-i.made _ (c.loop-i.invariant.is asking) selection_seen stop (c.in_err-selection.ensures.exact asking)))

pub selections-returns-in_err-member-clause-exact : goal.selections::selections-returns-in_err-member-clause-exact
selections-returns-in_err-member-clause-exact t c = λ asking.
    let s = c.args.s.now in
    let stop = c.in_err-member.field-0.0 in
    let view = option_map_of_prelude (member_of (frames_of c.member_behind.new.s)) in
    let told = rw (rest_of c.args.names.now (c.loop-i.i + 1) (omega (arith, c.loop-i-test.true))) at (c.in_err-member.ensures.exact (part_in s c.args.site.now)) in
    let p : c.from_residual-in_err-member.result ≡ Err (Stopped stop) = search rules in
    rw p
    (halt_seen selections_seen stop _
    (going_halts s c.loop-i.s c.selection_at.new.s c.loop-i.invariant.grows c.in_ok-selection.ensures.grows c.args.site.now c.requires.frame asking c.args.deeper c.args.names.now c.requires.names c.loop-i.i c.index-names-i.result c.loop-i-test.true c.index-names-i.is
    c.loop-i.member c.loop-i.invariant.member c.loop-i.made _ (c.loop-i.invariant.is asking) (selection_seen c.in_ok-selection.selection) (c.in_ok-selection.ensures.exact asking) view stop told))

pub selections-returns-in_err-member-clause-kept : goal.selections::selections-returns-in_err-member-clause-kept
selections-returns-in_err-member-clause-kept t c = kept_still _ _ c.member_behind.ensures.grows _ c.selection_at.ensures.kept

pub selections-returns-in_err-push-clause-kept : goal.selections::selections-returns-in_err-push-clause-kept
selections-returns-in_err-push-clause-kept t c = kept_still _ _ c.member_behind.ensures.grows _ c.selection_at.ensures.kept

pub selections-loop-i-preserved : goal.selections::selections-loop-i-preserved
selections-loop-i-preserved t c =
    let s = c.args.s.now in
    let mid = c.selection_at.new.s in
    let end = c.member_behind.new.s in
    let made = c.loop-i.made in
    let selection = c.in_ok-selection.selection in
    let told = rw (rest_of c.args.names.now (c.loop-i.i + 1) (omega (arith, c.loop-i-test.true))) at (c.in_ok-member.ensures.exact (part_in s c.args.site.now)) in
    let pushed : c.push.new.self ≡ made ++ selection ∷ [] = c.in_ok-push.ensures.ok in
    record {
      grows = grows_trans s c.loop-i.s end c.loop-i.invariant.grows (grows_trans c.loop-i.s mid end c.in_ok-selection.ensures.grows c.in_ok-member.ensures.grows);
      member = c.in_ok-member.ensures.there;
      is = λ asking. rw pushed
          (going_on s c.loop-i.s mid c.loop-i.invariant.grows c.in_ok-selection.ensures.grows c.args.site.now c.requires.frame asking c.args.deeper c.args.names.now c.requires.names c.loop-i.i c.index-names-i.result c.loop-i-test.true c.index-names-i.is
          c.loop-i.member c.loop-i.invariant.member made _ (c.loop-i.invariant.is asking) (selection_seen selection) (c.in_ok-selection.ensures.exact asking) (option_map_of_prelude (member_of (frames_of end)) c.in_ok-member.member) (made ++ selection ∷ []) (map-append selection_seen made (selection ∷ []))
          told);
      kept = kept_still _ _ c.member_behind.ensures.grows _ c.selection_at.ensures.kept;
    }

pub selections-returns-clause-exact : goal.selections::selections-returns-clause-exact
selections-returns-clause-exact t c = λ asking.
    all_selected c.args.s.now c.args.site.now asking c.args.deeper _ c.args.names.now c.loop-i.i c.loop-i.made _ (omega arith) (c.loop-i.invariant.is asking)

pub selections-selection_at-requires : goal.selections::selections-selection_at-requires
selections-selection_at-requires t c =
    let s = c.args.s.now in
    let now = c.loop-i.s in
    let name = c.index-names-i.result in
    let grows = c.loop-i.invariant.grows in
    let is = named_member s c.args.names.now c.loop-i.i name c.loop-i-test.true c.index-names-i.is c.requires.names in (
      search rules,
      (
        c.requires.depth,
        (
          is_frame_later s now c.args.site.now.at.now.frame.0 grows c.requires.frame,
          (c.loop-i.invariant.member, (is_member_later s now name.member grows is, c.loop-i.invariant.kept)),
        ),
      ),
    )

-- ---- what grows

pub selection_at-returns-in_err-subs-clause-grows : goal.selections::selection_at-returns-in_err-subs-clause-grows
selection_at-returns-in_err-subs-clause-grows t c = grows_trans _ _ _ c.dims_at.ensures.grows c.read_subscripts.ensures.grows

pub selection_at-returns-clause-grows : goal.selections::selection_at-returns-clause-grows
selection_at-returns-clause-grows t c = grows_trans _ _ _ c.dims_at.ensures.grows c.read_subscripts.ensures.grows

pub selections-returns-in_err-selection-clause-grows : goal.selections::selections-returns-in_err-selection-clause-grows
selections-returns-in_err-selection-clause-grows t c = grows_trans _ _ _ c.loop-i.invariant.grows c.selection_at.ensures.grows

pub selections-returns-in_err-member-clause-grows : goal.selections::selections-returns-in_err-member-clause-grows
selections-returns-in_err-member-clause-grows t c = grows_trans _ _ _ (grows_trans _ _ _ c.loop-i.invariant.grows c.selection_at.ensures.grows) c.member_behind.ensures.grows

pub selections-returns-in_err-push-clause-grows : goal.selections::selections-returns-in_err-push-clause-grows
selections-returns-in_err-push-clause-grows t c = grows_trans _ _ _ (grows_trans _ _ _ c.loop-i.invariant.grows c.selection_at.ensures.grows) c.member_behind.ensures.grows
