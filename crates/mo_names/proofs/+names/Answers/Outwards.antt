-- What is answered of names that are looked up in a frame and outwards.
use Rattle.mo_names.proofs.Circling.{then_ok, in_frame_is, around_less, err_on}
use Rattle.mo_names.proofs.HandedOn.{any_met_told, ends_give, go_next, goes_on_around, outwards_told}
use Rattle.mo_names.proofs.Later.{grows_trans, grows_refl, is_frame_later, table_later}
use Rattle.mo_names.proofs.Outcomes.{gives_same}
use Rattle.mo_names.proofs.WalkOutwards.{around_told, imports_told, past_told}
use Rattle.mo_names.specs.steps.Parts.{imports_of}
use Rattle.mo_names.specs.Past.{Goes_on}
use Rattle.mo_names.specs.Sights.{asks, met_seen, found_at}
use Rattle.mo_names.specs.steps.Lookup.{imports_met, met_or}
use Rattle.mo_scope.proofs.Numbered.{is_no_top}
use Rattle.mo_scope.specs.Frames.{Frame, class_of}
use Rattle.mo_scope.specs.Lookup.{Asking, found_element, found_from}
use Rattle.mo_scope.specs.Rows.{Table, row_at}
use Rattle.mo_scope.specs.Worlds.{frame_at, frames_of, table_in}
use Rattle.std.proofs.Common.{true, false, ap, arith, sym, ◌∙◌, Some, None, Ok, refl}
use Rattle.std.specs.Prelude.{option_map}
use Rattle.mo_names.proofs.+names.Goals as goal

pub found_element-returns-clause-value : goal.circle::found_element-returns-clause-value
found_element-returns-clause-value t c =
    gives_same _ c.element_given.result _ _
    (any_met_told c.args.s.now c.reached-any.new.s c.args.ask.now c.args.bare c.args.frame.0 c.args.name.now c.reached-any.ensures.grows c.requires c.if-bare.false)
    (c.element_given.ensures.value _ c.reached-any.ensures.value)

pub found_element-reached-any-requires : goal.circle::found_element-reached-any-requires
found_element-reached-any-requires t c = (omega arith, c.requires)

pub found_element-element_given-requires-clause-frame : goal.circle::found_element-element_given-requires-clause-frame
found_element-element_given-requires-clause-frame t c = is_frame_later _ _ _ c.reached-any.ensures.grows c.requires

pub found_element-returns-clause-grows : goal.circle::found_element-returns-clause-grows
found_element-returns-clause-grows t c = grows_trans _ _ _ c.reached-any.ensures.grows c.element_given.ensures.grows

pub found_element-element_given-requires-clause-any : goal.circle::found_element-element_given-requires-clause-any
found_element-element_given-requires-clause-any t c = c.reached-any.ensures.stand

pub found_element-returns-then-bare-clause-grows : goal.circle::found_element-returns-then-bare-clause-grows
found_element-returns-then-bare-clause-grows t c = c.own_met.ensures.grows

pub found_element-returns-then-bare-clause-stand : goal.circle::found_element-returns-then-bare-clause-stand
found_element-returns-then-bare-clause-stand t c = c.own_met.ensures.stand

pub found_element-returns-clause-stand : goal.circle::found_element-returns-clause-stand
found_element-returns-clause-stand t c = c.element_given.ensures.stand

pub found_in-returns-in-Err-clause-value : goal.circle::found_in-returns-in-Err-clause-value
found_in-returns-in-Err-clause-value t c =
    let A : Asking = asks (table_in c.args.s.now) c.args.ask.now in
    let F : Frame = frame_at c.args.s.now c.args.frame.0 in
    err_on (option_map (found_at c.found_element.new.s)) (option_map (met_seen (frames_of c.found_element.new.s))) c.in-Err.stop (found_element (table_in c.args.s.now) A c.args.bare F c.args.ask.now.place c.args.name.now)
    (λ found. met_or c.args.near found (imports_met (table_in c.args.s.now) A c.args.ask.now.place c.args.name.now (imports_of (row_at (table_in c.args.s.now) (class_of F))))) _
    c.in-Err.ensures.value
    (in_frame_is (table_in c.args.s.now) A c.args.bare c.args.near F c.args.ask.now.place c.args.name.now)

pub found_in-returns-in-Ok-Some-clause-value : goal.circle::found_in-returns-in-Ok-Some-clause-value
found_in-returns-in-Ok-Some-clause-value t c =
    let A : Asking = asks (table_in c.args.s.now) c.args.ask.now in
    let F : Frame = frame_at c.args.s.now c.args.frame.0 in
    sym (then_ok (found_element (table_in c.args.s.now) A c.args.bare F c.args.ask.now.place c.args.name.now)
    (λ found. met_or c.args.near found (imports_met (table_in c.args.s.now) A c.args.ask.now.place c.args.name.now (imports_of (row_at (table_in c.args.s.now) (class_of F)))))
    (Some (found_at c.found_element.new.s c.in-Ok-Some.found)) _
    (in_frame_is (table_in c.args.s.now) A c.args.bare c.args.near F c.args.ask.now.place c.args.name.now)
    (c.in-Ok-Some.ensures.value ∙ ap (λ o. Ok (option_map (found_at c.found_element.new.s) o)) c.in-Ok-Some.field-0-is))

pub found_in-returns-in-Ok-None-clause-value : goal.circle::found_in-returns-in-Ok-None-clause-value
found_in-returns-in-Ok-None-clause-value t c =
    let A : Asking = asks (table_in c.args.s.now) c.args.ask.now in
    let F : Frame = frame_at c.args.s.now c.args.frame.0 in
    gives_same _ c.met_by_imports.result _ _
    (imports_told c.args.s.now c.found_element.new.s c.args.ask.now c.args.frame.0 c.args.name.now c.in-Ok-None.ensures.grows c.requires
    ∙ then_ok (found_element (table_in c.args.s.now) A c.args.bare F c.args.ask.now.place c.args.name.now)
    (λ found. met_or c.args.near found (imports_met (table_in c.args.s.now) A c.args.ask.now.place c.args.name.now (imports_of (row_at (table_in c.args.s.now) (class_of F)))))
    None _
    (in_frame_is (table_in c.args.s.now) A c.args.bare c.args.near F c.args.ask.now.place c.args.name.now)
    (c.in-Ok-None.ensures.value ∙ ap (λ o. Ok (option_map (found_at c.found_element.new.s) o)) c.in-Ok-None.field-0-is))
    c.met_by_imports.ensures.value

pub found_in-found_element-requires : goal.circle::found_in-found_element-requires
found_in-found_element-requires t c = (omega arith, c.requires)

pub found_in-met_by_imports-requires : goal.circle::found_in-met_by_imports-requires
found_in-met_by_imports-requires t c = (omega arith, is_frame_later _ _ _ c.in-Ok-None.ensures.grows c.requires)

pub found_in-returns-in-Ok-None-clause-grows : goal.circle::found_in-returns-in-Ok-None-clause-grows
found_in-returns-in-Ok-None-clause-grows t c = grows_trans _ _ _ c.in-Ok-None.ensures.grows c.met_by_imports.ensures.grows

pub found_in-returns-in-Err-clause-grows : goal.circle::found_in-returns-in-Err-clause-grows
found_in-returns-in-Err-clause-grows t c = c.in-Err.ensures.grows

pub found_in-returns-in-Ok-Some-clause-grows : goal.circle::found_in-returns-in-Ok-Some-clause-grows
found_in-returns-in-Ok-Some-clause-grows t c = c.in-Ok-Some.ensures.grows

pub found_in-returns-in-Ok-None-clause-stand : goal.circle::found_in-returns-in-Ok-None-clause-stand
found_in-returns-in-Ok-None-clause-stand t c = c.met_by_imports.ensures.stand

pub found_from-returns-in-Ends-clause-value : goal.bases::found_from-returns-in-Ends-clause-value
found_from-returns-in-Ends-clause-value t c =
    let A : Asking = asks (table_in c.args.s.now) c.args.ask.now in
    ends_give (frames_of c.next_past.new.s) c.in-Ends.met _ (go_next (table_in c.args.s.now) A c.args.ask.now.place c.args.name.now) _ (λ met. refl)
    (rw c.in-Ends.is at (c.next_past.ensures.value _ c.found_in-here.ensures.value))
    (outwards_told c.args.s.now c.loop-met.s c.found_in-here.new.s c.args.ask.now false false c.loop-met.frame.0 c.args.name.now _
    c.loop-met.invariant.grows c.found_in-here.ensures.grows c.loop-met.invariant.stand (is_no_top c.loop-met.s c.loop-met.frame.0 c.loop-met.invariant.stand) c.loop-met.invariant.left)

pub found_from-loop-met-preserved : goal.bases::found_from-loop-met-preserved
found_from-loop-met-preserved t c = record {
  grows = grows_trans c.args.s.now c.loop-met.s c.next_past.new.s c.loop-met.invariant.grows (grows_trans c.loop-met.s c.found_in-here.new.s c.next_past.new.s c.found_in-here.ensures.grows c.next_past.ensures.grows);
  stand = rw c.in-Around.is at c.next_past.ensures.stand;
  left =
      let A : Asking = asks (table_in c.args.s.now) c.args.ask.now in
      then_ok _ (go_next (table_in c.args.s.now) A c.args.ask.now.place c.args.name.now) (Goes_on (frame_at c.next_past.new.s c.in-Around.outer.0)) _
      (outwards_told c.args.s.now c.loop-met.s c.found_in-here.new.s c.args.ask.now false false c.loop-met.frame.0 c.args.name.now _
      c.loop-met.invariant.grows c.found_in-here.ensures.grows c.loop-met.invariant.stand (is_no_top c.loop-met.s c.loop-met.frame.0 c.loop-met.invariant.stand) c.loop-met.invariant.left)
      (rw c.in-Around.is at (c.next_past.ensures.value _ c.found_in-here.ensures.value));
}

pub found_from-loop-met-smaller : goal.bases::found_from-loop-met-smaller
found_from-loop-met-smaller t c =
    let F : Frame = frame_at c.loop-met.s c.loop-met.frame.0 in
    around_less (table_in c.args.s.now) c.args.ask.now.place F (frame_at c.next_past.new.s c.in-Around.outer.0) c.args.name.now (is_no_top c.loop-met.s c.loop-met.frame.0 c.loop-met.invariant.stand)
    (sym (past_told c.args.s.now c.loop-met.s c.found_in-here.new.s c.args.ask.now.place c.loop-met.frame.0 c.args.name.now c.loop-met.invariant.grows c.found_in-here.ensures.grows c.loop-met.invariant.stand)
    ∙ goes_on_around _ _ _ (rw c.in-Around.is at (c.next_past.ensures.value _ c.found_in-here.ensures.value)))

pub found_from-found_in-here-requires : goal.bases::found_from-found_in-here-requires
found_from-found_in-here-requires t c = (omega arith, c.loop-met.invariant.stand)

pub found_from-next_past-requires-clause-frame : goal.bases::found_from-next_past-requires-clause-frame
found_from-next_past-requires-clause-frame t c = is_frame_later _ _ _ c.found_in-here.ensures.grows c.loop-met.invariant.stand

pub found_from-returns-in-Ends-clause-grows : goal.bases::found_from-returns-in-Ends-clause-grows
found_from-returns-in-Ends-clause-grows t c = grows_trans _ _ _ c.loop-met.invariant.grows (grows_trans _ _ _ c.found_in-here.ensures.grows c.next_past.ensures.grows)

pub found_from-loop-met-init : goal.bases::found_from-loop-met-init
found_from-loop-met-init t c = record {
  grows = grows_refl c.args.s.now;
  stand = c.requires;
  left = refl;
}

pub found_from-next_past-requires-clause-here : goal.bases::found_from-next_past-requires-clause-here
found_from-next_past-requires-clause-here t c = c.found_in-here.ensures.stand

pub found_around-found_from-met-requires : goal.bases::found_around-found_from-met-requires
found_around-found_from-met-requires t c = (omega arith, c.requires)

pub found_around-kept_outwards-requires-clause-frame : goal.bases::found_around-kept_outwards-requires-clause-frame
found_around-kept_outwards-requires-clause-frame t c = is_frame_later _ _ _ c.found_from-met.ensures.grows c.requires

pub found_around-kept_outwards-requires-clause-is : goal.bases::found_around-kept_outwards-requires-clause-is
found_around-kept_outwards-requires-clause-is t c =
    gives_same _ c.found_from-met.result _ _ (sym (around_told c.args.s.now c.found_from-met.new.s c.args.ask.now c.args.frame.0 c.args.name.now c.found_from-met.ensures.grows c.requires)) c.found_from-met.ensures.value

pub found_around-kept_outwards-requires-clause-stands : goal.bases::found_around-kept_outwards-requires-clause-stands
found_around-kept_outwards-requires-clause-stands t c = c.found_from-met.ensures.stand

pub found_around-returns-in-Some-clause-grows : goal.bases::found_around-returns-in-Some-clause-grows
found_around-returns-in-Some-clause-grows t c = grows_refl c.args.s.now

pub found_around-returns-in-Some-clause-value : goal.bases::found_around-returns-in-Some-clause-value
found_around-returns-in-Some-clause-value t c = c.in-Some.ensures.is

pub found_around-returns-in-Some-clause-stand : goal.bases::found_around-returns-in-Some-clause-stand
found_around-returns-in-Some-clause-stand t c = c.in-Some.ensures.stand

pub found_around-returns-in-None-clause-grows : goal.bases::found_around-returns-in-None-clause-grows
found_around-returns-in-None-clause-grows t c = grows_trans _ _ _ c.found_from-met.ensures.grows c.kept_outwards.ensures.grows

pub found_around-returns-in-None-clause-value : goal.bases::found_around-returns-in-None-clause-value
found_around-returns-in-None-clause-value t c =
    gives_same _ c.kept_outwards.result _ _ (around_told c.args.s.now c.found_from-met.new.s c.args.ask.now c.args.frame.0 c.args.name.now c.found_from-met.ensures.grows c.requires) c.kept_outwards.ensures.value

pub found_around-returns-in-None-clause-stand : goal.bases::found_around-returns-in-None-clause-stand
found_around-returns-in-None-clause-stand t c = c.kept_outwards.ensures.stand

pub found_near-found_in-here-requires : goal.bases::found_near-found_in-here-requires
found_near-found_in-here-requires t c = (omega arith, c.requires)

pub found_near-next_past-requires-clause-frame : goal.bases::found_near-next_past-requires-clause-frame
found_near-next_past-requires-clause-frame t c = is_frame_later _ _ _ c.found_in-here.ensures.grows c.requires

pub found_near-next_past-requires-clause-here : goal.bases::found_near-next_past-requires-clause-here
found_near-next_past-requires-clause-here t c = c.found_in-here.ensures.stand

pub found_near-found_around-requires : goal.bases::found_near-found_around-requires
found_near-found_around-requires t c = (omega arith, rw c.in-Around.is at c.next_past.ensures.stand)

pub found_near-returns-in-Ends-clause-grows : goal.bases::found_near-returns-in-Ends-clause-grows
found_near-returns-in-Ends-clause-grows t c = grows_trans _ _ _ c.found_in-here.ensures.grows c.next_past.ensures.grows

pub found_near-returns-in-Ends-clause-value : goal.bases::found_near-returns-in-Ends-clause-value
found_near-returns-in-Ends-clause-value t c =
    let A : Asking = asks (table_in c.args.s.now) c.args.ask.now in
    ends_give (frames_of c.next_past.new.s) c.in-Ends.met _ (go_next (table_in c.args.s.now) A c.args.ask.now.place c.args.name.now) _ (λ met. refl)
    (rw c.in-Ends.is at (c.next_past.ensures.value _ c.found_in-here.ensures.value))
    (outwards_told c.args.s.now c.args.s.now c.found_in-here.new.s c.args.ask.now c.args.bare true c.args.frame.0 c.args.name.now _
    (grows_refl c.args.s.now) c.found_in-here.ensures.grows c.requires (is_no_top c.args.s.now c.args.frame.0 c.requires) refl)

pub found_near-returns-in-Around-clause-grows : goal.bases::found_near-returns-in-Around-clause-grows
found_near-returns-in-Around-clause-grows t c = grows_trans _ _ _ (grows_trans _ _ _ c.found_in-here.ensures.grows c.next_past.ensures.grows) c.found_around.ensures.grows

pub found_near-returns-in-Around-clause-value : goal.bases::found_near-returns-in-Around-clause-value
found_near-returns-in-Around-clause-value t c =
    let T : Table = table_in c.args.s.now in
    let F : Frame = frame_at c.next_past.new.s c.in-Around.outer.0 in
    gives_same _ c.found_around.result _ _
    (ap (λ t. found_from t (asks t c.args.ask.now) false false F c.args.ask.now.place c.args.name.now) (table_later c.args.s.now c.next_past.new.s (grows_trans _ _ _ c.found_in-here.ensures.grows c.next_past.ensures.grows))
    ∙ then_ok _ (go_next T (asks T c.args.ask.now) c.args.ask.now.place c.args.name.now) (Goes_on F) _
    (outwards_told c.args.s.now c.args.s.now c.found_in-here.new.s c.args.ask.now c.args.bare true c.args.frame.0 c.args.name.now _
    (grows_refl c.args.s.now) c.found_in-here.ensures.grows c.requires (is_no_top c.args.s.now c.args.frame.0 c.requires) refl)
    (rw c.in-Around.is at (c.next_past.ensures.value _ c.found_in-here.ensures.value)))
    c.found_around.ensures.value

pub found_near-returns-in-Around-clause-stand : goal.bases::found_near-returns-in-Around-clause-stand
found_near-returns-in-Around-clause-stand t c = c.found_around.ensures.stand

pub found_first-found_near-requires : goal.bases::found_first-found_near-requires
found_first-found_near-requires t c = (omega arith, c.requires)

pub found_first-returns-in-Some-clause-grows : goal.bases::found_first-returns-in-Some-clause-grows
found_first-returns-in-Some-clause-grows t c = grows_refl c.args.s.now

pub found_first-returns-then-top-clause-grows : goal.bases::found_first-returns-then-top-clause-grows
found_first-returns-then-top-clause-grows t c = c.met_at_top.ensures.grows

pub found_first-returns-then-top-clause-stand : goal.bases::found_first-returns-then-top-clause-stand
found_first-returns-then-top-clause-stand t c = c.met_at_top.ensures.stand

pub found_first-returns-in-None-clause-grows : goal.bases::found_first-returns-in-None-clause-grows
found_first-returns-in-None-clause-grows t c = c.found_near.ensures.grows

pub found_first-returns-in-None-clause-stand : goal.bases::found_first-returns-in-None-clause-stand
found_first-returns-in-None-clause-stand t c = c.found_near.ensures.stand
