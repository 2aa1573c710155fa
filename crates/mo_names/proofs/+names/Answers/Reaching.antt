-- What is answered of the elements of frames, of what is reached among them, and of what stands behind a class.
use Rattle.mo_names.proofs.Circling.{is_busy_still, none_left, walked_further}
use Rattle.mo_names.proofs.HandedOn.{behind_told, inherited_told, open_told, walked_told}
use Rattle.mo_names.proofs.Later.{grows_trans, grows_refl, is_frame_later}
use Rattle.mo_names.proofs.Outcomes.{gives_same}
use Rattle.mo_names.specs.Sights.{walk_at}
use Rattle.mo_scope.specs.Frames.{Frame, class_of}
use Rattle.mo_scope.specs.Lookup.{contains, walked_class, asking_at}
use Rattle.mo_scope.specs.Rows.{row_at}
use Rattle.mo_scope.specs.Worlds.{frame_at, table_in}
use Rattle.std.proofs.Common.{◌-◌, ◌<◌, ◌++◌, ◌∷◌, [], List, ℕ, ap, arith, sym, ◌≡◌, ◌∙◌}
use Rattle.std.proofs.lemmas.Result.{err_from_is_err_and}
use Rattle.mo_names.proofs.+names.Goals as goal

-- One step further.
pub walked-returns-then-ask-eq0-clause-value : goal.circle::walked-returns-then-ask-eq0-clause-value
walked-returns-then-ask-eq0-clause-value t c =
    rw c.stop.ensures (none_left (table_in c.args.s.now) c.args.ask.now.left c.args.ask.now.busy.now c.args.ask.now.place (frame_at c.args.s.now c.args.frame.0) c.if-ask-eq0.true)

pub walked-returns-then-is_busy-clause-value : goal.circle::walked-returns-then-is_busy-clause-value
walked-returns-then-is_busy-clause-value t c =
    rw c.stop-then-is_busy.ensures (is_busy_still (table_in c.args.s.now) c.args.ask.now.left c.args.ask.now.busy.now c.args.ask.now.place (frame_at c.args.s.now c.args.frame.0)
    (ap (contains c.args.ask.now.busy.now) (sym c.class_of-class.ensures.is) ∙ sym c.is_busy.ensures ∙ c.if-is_busy.true))

pub walked-returns-clause-value : goal.circle::walked-returns-clause-value
walked-returns-clause-value t c =
    let F : Frame = frame_at c.args.s.now c.args.frame.0 in
    let same : c.as_slice.result.now ≡ c.args.ask.now.busy.now ++ class_of F ∷ [] = c.as_slice.ensures ∙ c.in_ok-busy.ensures ∙ ap (λ (n : ℕ). c.args.ask.now.busy.now ++ n ∷ []) c.class_of-class.ensures.is in
    let some : 0 < c.args.ask.now.left = omega arith in
    gives_same (walk_at c.walked_class.new.s) c.walked_class.result _ _
    (ap (λ (b : List ℕ). walked_class (table_in c.args.s.now) (asking_at (table_in c.args.s.now) (c.args.ask.now.left - 1) b) F (row_at (table_in c.args.s.now) (class_of F))) same
    ∙ walked_further (table_in c.args.s.now) c.args.ask.now.left c.args.ask.now.busy.now c.args.ask.now.place F some
    (ap (contains c.args.ask.now.busy.now) (sym c.class_of-class.ensures.is) ∙ sym c.is_busy.ensures ∙ c.if-is_busy.false))
    c.walked_class.ensures.value

pub walked-returns-then-ask-eq0-clause-grows : goal.circle::walked-returns-then-ask-eq0-clause-grows
walked-returns-then-ask-eq0-clause-grows t c = grows_refl c.args.s.now

pub walked-returns-then-is_busy-clause-grows : goal.circle::walked-returns-then-is_busy-clause-grows
walked-returns-then-is_busy-clause-grows t c = grows_refl c.args.s.now

pub walked-returns-in_err-depth-clause-grows : goal.circle::walked-returns-in_err-depth-clause-grows
walked-returns-in_err-depth-clause-grows t c = grows_refl c.args.s.now

pub walked-returns-in_err-busy-clause-grows : goal.circle::walked-returns-in_err-busy-clause-grows
walked-returns-in_err-busy-clause-grows t c = grows_refl c.args.s.now

pub walked-returns-clause-grows : goal.circle::walked-returns-clause-grows
walked-returns-clause-grows t c = c.walked_class.ensures.grows

pub walked-returns-clause-stand : goal.circle::walked-returns-clause-stand
walked-returns-clause-stand t c = c.walked_class.ensures.stand

pub walked_and_kept-walk_given-requires-clause-is : goal.circle::walked_and_kept-walk_given-requires-clause-is
walked_and_kept-walk_given-requires-clause-is t c =
    gives_same _ c.walked-walk.result _ _ (sym (walked_told c.args.s.now c.walked-walk.new.s c.args.ask.now c.args.frame.0 c.walked-walk.ensures.grows c.requires)) c.walked-walk.ensures.value

pub walked_and_kept-returns-clause-value : goal.circle::walked_and_kept-returns-clause-value
walked_and_kept-returns-clause-value t c =
    gives_same _ c.walk_given.result _ _ (walked_told c.args.s.now c.walked-walk.new.s c.args.ask.now c.args.frame.0 c.walked-walk.ensures.grows c.requires) c.walk_given.ensures.value

pub walked_and_kept-walked-walk-requires : goal.circle::walked_and_kept-walked-walk-requires
walked_and_kept-walked-walk-requires t c = (omega arith, c.requires)

pub walked_and_kept-walk_given-requires-clause-frame : goal.circle::walked_and_kept-walk_given-requires-clause-frame
walked_and_kept-walk_given-requires-clause-frame t c = is_frame_later _ _ _ c.walked-walk.ensures.grows c.requires

pub walked_and_kept-returns-clause-grows : goal.circle::walked_and_kept-returns-clause-grows
walked_and_kept-returns-clause-grows t c = grows_trans _ _ _ c.walked-walk.ensures.grows c.walk_given.ensures.grows

pub walked_and_kept-walk_given-requires-clause-stands : goal.circle::walked_and_kept-walk_given-requires-clause-stands
walked_and_kept-walk_given-requires-clause-stands t c = c.walked-walk.ensures.stand

pub walked_and_kept-returns-clause-stand : goal.circle::walked_and_kept-returns-clause-stand
walked_and_kept-returns-clause-stand t c = c.walk_given.ensures.stand

pub reached-returns-in-None-clause-value : goal.circle::reached-returns-in-None-clause-value
reached-returns-in-None-clause-value t c =
    gives_same _ c.reached_given.result _ _
    (inherited_told c.args.s.now c.walked_and_kept-walk.new.s c.args.ask.now c.args.frame.0 c.args.name.now c.walked_and_kept-walk.ensures.grows (c.reached_at_hand.ensures.inherited c.in-None.is))
    (c.reached_given.ensures.value _ c.walked_and_kept-walk.ensures.value)

pub reached-walked_and_kept-walk-requires : goal.circle::reached-walked_and_kept-walk-requires
reached-walked_and_kept-walk-requires t c = (omega arith, c.requires)

pub reached-returns-in-Some-clause-grows : goal.circle::reached-returns-in-Some-clause-grows
reached-returns-in-Some-clause-grows t c = grows_refl c.args.s.now

pub reached-reached_given-requires : goal.circle::reached-reached_given-requires
reached-reached_given-requires t c = c.walked_and_kept-walk.ensures.stand

pub reached-returns-in-None-clause-grows : goal.circle::reached-returns-in-None-clause-grows
reached-returns-in-None-clause-grows t c = c.walked_and_kept-walk.ensures.grows

pub reached-returns-in-None-clause-stand : goal.circle::reached-returns-in-None-clause-stand
reached-returns-in-None-clause-stand t c = c.reached_given.ensures.stand

pub is_package-returns-clause-value : goal.circle::is_package-returns-clause-value
is_package-returns-clause-value t c =
    gives_same _ c.are_open_given.result _ _
    (open_told (table_in c.args.s.now) c.args.ask.now (frame_at c.args.s.now c.args.frame.0)
    (ap (contains c.args.ask.now.busy.now) (sym c.class_of.ensures.is) ∙ sym c.is_busy.ensures ∙ c.if-is_busy.false))
    (c.are_open_given.ensures _ c.walked_and_kept-walk.ensures.value)

pub is_package-walked_and_kept-walk-requires : goal.circle::is_package-walked_and_kept-walk-requires
is_package-walked_and_kept-walk-requires t c = (omega arith, c.requires)

pub is_package-returns-in-Some-clause-grows : goal.circle::is_package-returns-in-Some-clause-grows
is_package-returns-in-Some-clause-grows t c = grows_refl c.args.s.now

pub is_package-returns-then-is_busy-clause-grows : goal.circle::is_package-returns-then-is_busy-clause-grows
is_package-returns-then-is_busy-clause-grows t c = grows_refl c.args.s.now

pub is_package-returns-clause-grows : goal.circle::is_package-returns-clause-grows
is_package-returns-clause-grows t c = c.walked_and_kept-walk.ensures.grows

pub counted-is_package-requires : goal.circle::counted-is_package-requires
counted-is_package-requires t c = (omega arith, c.requires.frame)

pub counted-returns-in_err-is_package-clause-grows : goal.circle::counted-returns-in_err-is_package-clause-grows
counted-returns-in_err-is_package-clause-grows t c = c.in_err-is_package.ensures.grows

pub counted_given-returns-in_err-counted-in-Ok-Element-clause-grows : goal.circle::counted_given-returns-in_err-counted-in-Ok-Element-clause-grows
counted_given-returns-in_err-counted-in-Ok-Element-clause-grows t c = c.in_err-counted-in-Ok-Element.ensures.grows

pub counted_given-returns-in_ok-counted-in-Ok-Element-clause-grows : goal.circle::counted_given-returns-in_ok-counted-in-Ok-Element-clause-grows
counted_given-returns-in_ok-counted-in-Ok-Element-clause-grows t c = c.in_ok-counted-in-Ok-Element.ensures.grows

pub counted_given-returns-in-Ok-Other-clause-grows : goal.circle::counted_given-returns-in-Ok-Other-clause-grows
counted_given-returns-in-Ok-Other-clause-grows t c = grows_refl c.args.s.now

pub counted_given-returns-in-Ok-Absent-clause-grows : goal.circle::counted_given-returns-in-Ok-Absent-clause-grows
counted_given-returns-in-Ok-Absent-clause-grows t c = grows_refl c.args.s.now

pub counted_given-returns-in-Err-clause-grows : goal.circle::counted_given-returns-in-Err-clause-grows
counted_given-returns-in-Err-clause-grows t c = grows_refl c.args.s.now

pub counted_given-returns-in_err-counted-in-Ok-Element-clause-stand : goal.circle::counted_given-returns-in_err-counted-in-Ok-Element-clause-stand
counted_given-returns-in_err-counted-in-Ok-Element-clause-stand t c =
    let p = err_from_is_err_and c.from_residual.result c.from_residual.ensures.1 in
    rw p.1 tt

pub behind_class-returns-clause-value : goal.circle::behind_class-returns-clause-value
behind_class-returns-clause-value t c =
    gives_same _ c.behind_given.result _ _
    (behind_told c.args.s.now c.reached-any.new.s c.counted_given-counts.new.s c.args.ask.now c.args.place c.args.component c.args.frame.0 c.args.name.now c.reached-any.ensures.grows c.counted_given-counts.ensures.grows c.requires)
    (c.behind_given.ensures.value _ (c.counted_given-counts.ensures.value _ c.reached-any.ensures.value))

pub behind_class-reached-any-requires : goal.circle::behind_class-reached-any-requires
behind_class-reached-any-requires t c = (omega arith, c.requires)

pub behind_class-counted_given-counts-requires : goal.circle::behind_class-counted_given-counts-requires
behind_class-counted_given-counts-requires t c = (omega arith, (is_frame_later _ _ _ c.reached-any.ensures.grows c.requires, c.reached-any.ensures.stand))

pub behind_class-behind_given-requires-clause-frame : goal.circle::behind_class-behind_given-requires-clause-frame
behind_class-behind_given-requires-clause-frame t c = is_frame_later _ _ _ c.counted_given-counts.ensures.grows (is_frame_later _ _ _ c.reached-any.ensures.grows c.requires)

pub behind_class-returns-clause-grows : goal.circle::behind_class-returns-clause-grows
behind_class-returns-clause-grows t c = grows_trans _ _ _ c.reached-any.ensures.grows (grows_trans _ _ _ c.counted_given-counts.ensures.grows c.behind_given.ensures.grows)

pub behind_class-behind_given-requires-clause-any : goal.circle::behind_class-behind_given-requires-clause-any
behind_class-behind_given-requires-clause-any t c = c.counted_given-counts.ensures.stand

pub behind_class-returns-clause-stand : goal.circle::behind_class-returns-clause-stand
behind_class-returns-clause-stand t c = c.behind_given.ensures.stand
