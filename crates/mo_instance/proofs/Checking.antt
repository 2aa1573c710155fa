-- The checks of a frame and of its bases, in later worlds and one after another.
use Rattle.std.proofs.Common.{◌≡◌, ℕ, ◌<◌, Bool, true, false, List, [], ◌∷◌, ◌++◌, length, map, reverse, drop, Option, Some, Ok, Err, refl, ap, sym, subst, ◌∙◌, arith}
use Rattle.std.specs.Prelude.{slice_get, unwrap_or}
use Rattle.std.proofs.lemmas.List.{reverse-append}
use Rattle.mo_syntax.specs.Outcome.{Outcome, and_then}
use Rattle.mo_syntax.specs.declared.meaning.FrameId.{FrameId}
use Rattle.mo_syntax.specs.declared.place.Place.{Place}
use Rattle.mo_scope.specs.Rows.{Table, row_at}
use Rattle.mo_scope.specs.Frames.{Frame, Source, class_of, sources_of}
use Rattle.mo_scope.specs.Arguments.{second_pass}
use Rattle.mo_scope.specs.Lookup.{Walked}
use Rattle.mo_scope.specs.Names.{clauses_of, walk_of}
use Rattle.mo_scope.specs.Redeclarations.{Checked, each_checked, fine, redeclared_checked, redeclarations_checked}
use Rattle.mo_scope.specs.Sizes.{first_base}
use Rattle.mo_scope.specs.Worlds.{World, Grows, IsFrame, frame_at, frame_in, frames_of, table_in}
use Rattle.mo_names.specs.declared.walk.Walk.{Walk}
use Rattle.mo_names.specs.Sights.{AreThrough, frames_through}
use Rattle.mo_names.proofs.Ends.{final_is}
use Rattle.mo_names.proofs.Later.{frame_later, table_later, through_later}
use Rattle.mo_instance.specs.Checks.{added_to, base_passed, before_last, frame_checked, frame_passed, in_profile, is_partial_short, partial_base, replaces_inherited, type_checked, whole_class}
use Rattle.mo_instance.specs.steps.Checks.{frame_passes, through_passed}
use Rattle.mo_instance.specs.steps.FirstPass.{is_replaced_by}
use Rattle.mo_instance.specs.Passes.{first_pass, inherits}
use Rattle.mo_instance.specs.steps.Walks.{IsWalkOrNone, walk_or_none}
use Rattle.mo_instance.proofs.Later.{walk_or_none_later}

-- one check after another, then what was found
joined : {A : Type 0} (a b c d e : Checked) (found : A) →
    and_then (and_then a (λ _. and_then b (λ _. and_then c (λ _. and_then d (λ _. e))))) (λ _. Ok found) ≡ and_then a (λ _. and_then b (λ _. and_then c (λ _. and_then d (λ _. and_then e (λ _. Ok found)))))
joined (Ok a) (Ok b) (Ok c) (Ok d) e found = refl
joined (Ok a) (Ok b) (Ok c) (Err x) e found = refl
joined (Ok a) (Ok b) (Err x) d e found = refl
joined (Ok a) (Err x) c d e found = refl
joined (Err x) b c d e found = refl

module _ (table : Table) (is_replaced : List ℕ → Bool) (added : List Source) (frame : Frame) where
  abbrev rest : Walked → Outcome Walked
  rest walked =
      and_then (in_profile table frame) (λ _.
      and_then (first_pass table frame is_replaced walked added) (λ _.
      and_then (second_pass table (sources_of frame)) (λ _.
      and_then (redeclarations_checked table walked frame) (λ _.
      and_then (replaces_inherited table frame) (λ _. Ok walked)))))

  -- the redeclarations find the elements that were found
  pub passes_are : (walked : Walked) → walk_of table frame ≡ Ok walked → and_then (frame_passes table is_replaced added frame walked) (λ _. Ok walked) ≡ frame_passed table is_replaced added frame
  passes_are walked found =
      joined (in_profile table frame) (first_pass table frame is_replaced walked added) (second_pass table (sources_of frame)) (redeclared_checked table frame) (replaces_inherited table frame) walked
      ∙ ap (λ (checked : Checked).
      and_then (in_profile table frame) (λ _.
      and_then (first_pass table frame is_replaced walked added) (λ _.
      and_then (second_pass table (sources_of frame)) (λ _.
      and_then checked (λ _.
      and_then (replaces_inherited table frame) (λ _. Ok walked))))))
      (ap (λ (o : Outcome Walked). and_then o (λ walked. redeclarations_checked table walked frame)) found)
      ∙ sym (ap (λ (o : Outcome Walked). and_then o rest) found)

-- ---- the frames on the way to a base

-- the last frame but one of a way
pub last_but_one : (frame : Frame) (way : List Frame) (outer base : Frame) → before_last frame ((way ++ outer ∷ []) ++ base ∷ []) ≡ outer
last_but_one frame [] outer base = refl
last_but_one frame (x ∷ []) outer base = refl
last_but_one frame (x ∷ y ∷ way) outer base = last_but_one x (y ∷ way) outer base

pub before_is : (F : List Frame) (frame : FrameId) (through : List FrameId) (outer : FrameId) → 0 < length through → outer ≡ unwrap_or (slice_get through 1) frame →
    before_last (frame_in F frame.0) (frames_through F through) ≡ frame_in F outer.0
before_is F frame [] outer some is = absurd (omega (arith, some))
before_is F frame (x ∷ []) outer some is = ap (λ (f : FrameId). frame_in F f.0) (sym is)
before_is F frame (x ∷ y ∷ through) outer some is =
    ap (before_last (frame_in F frame.0))
    (reverse-append (frame_in F x.0 ∷ []) (frame_in F y.0 ∷ map (λ (f : FrameId). frame_in F f.0) through)
    ∙ ap (λ fs. fs ++ frame_in F x.0 ∷ []) (reverse-append (frame_in F y.0 ∷ []) (map (λ (f : FrameId). frame_in F f.0) through)))
    ∙ last_but_one (frame_in F frame.0) (reverse (map (λ (f : FrameId). frame_in F f.0) through)) (frame_in F y.0) (frame_in F x.0)
    ∙ ap (λ (f : FrameId). frame_in F f.0) (sym is)

pub before_exists : (world : World) (frame : FrameId) (through : List FrameId) (outer : FrameId) → AreThrough world through → IsFrame world frame.0 → outer ≡ unwrap_or (slice_get through 1) frame → IsFrame world outer.0
before_exists world frame [] outer are is same = subst (λ (f : FrameId). IsFrame world f.0) (sym same) is
before_exists world frame (x ∷ []) outer are is same = subst (λ (f : FrameId). IsFrame world f.0) (sym same) is
before_exists world frame (x ∷ y ∷ through) outer are is same = subst (λ (f : FrameId). IsFrame world f.0) (sym same) are.1.0

pub end_exists : (world : World) (through : List FrameId) (base : FrameId) → AreThrough world through → Some base ≡ slice_get through 0 → IsFrame world base.0
end_exists world [] base are is = absurd cc
end_exists world (x ∷ through) base are is = let same : base ≡ x = cc in subst (λ (f : FrameId). IsFrame world f.0) (sym same) are.0

-- the checks of a base at the end of a way
pub base_is : (table : Table) (F : List Frame) (frame : FrameId) (through : List FrameId) (outer base : FrameId) → 0 < length through → outer ≡ unwrap_or (slice_get through 1) frame → Some base ≡ slice_get through 0 →
    base_passed table (frame_in F outer.0) (frame_in F base.0) ≡ through_passed table (frame_in F frame.0) (frames_through F through)
base_is table F frame through outer base some is at =
    ap (λ (f : Frame). base_passed table f (frame_in F base.0)) (sym (before_is F frame through outer some is))
    ∙ ap (base_passed table (before_last (frame_in F frame.0) (frames_through F through))) (sym (final_is F through base at))

pub passes_before : (u v : World) (o : Option Walk) (passed frame : ℕ) (walked : Walked) → Grows u v → IsFrame u frame → IsWalkOrNone u o →
    frame_passes (table_in v) (is_replaced_by (walk_or_none (frames_of v) o)) (drop passed (sources_of (frame_at v frame))) (frame_at v frame) walked
    ≡ frame_passes (table_in u) (is_replaced_by (walk_or_none (frames_of u) o)) (drop passed (sources_of (frame_at u frame))) (frame_at u frame) walked
passes_before u v o passed frame walked g is walks =
    ap (λ (t : Table). frame_passes t (is_replaced_by (walk_or_none (frames_of v) o)) (drop passed (sources_of (frame_at v frame))) (frame_at v frame) walked) (table_later u v g)
    ∙ ap (λ (f : Frame). frame_passes (table_in u) (is_replaced_by (walk_or_none (frames_of v) o)) (drop passed (sources_of f)) f walked) (frame_later u v frame g is)
    ∙ ap (λ (w : Option Walked). frame_passes (table_in u) (is_replaced_by w) (drop passed (sources_of (frame_at u frame))) (frame_at u frame) walked) (walk_or_none_later u v o g walks)

pub through_before : (u v : World) (frame : ℕ) (through : List FrameId) → Grows u v → IsFrame u frame → AreThrough u through →
    through_passed (table_in v) (frame_at v frame) (frames_through (frames_of v) through) ≡ through_passed (table_in u) (frame_at u frame) (frames_through (frames_of u) through)
through_before u v frame through g is are =
    ap (λ (t : Table). through_passed t (frame_at v frame) (frames_through (frames_of v) through)) (table_later u v g)
    ∙ ap (λ (f : Frame). through_passed (table_in u) f (frames_through (frames_of v) through)) (frame_later u v frame g is)
    ∙ ap (through_passed (table_in u) (frame_at u frame)) (through_later u v through g are)

-- ---- a frame and its bases

module _ (table : Table) (place : Place) (frame : Frame) where
  abbrev pub bases_checked : Walked → Outcome Walked
  bases_checked walked = and_then (each_checked (through_passed table frame) walked.bases) (λ _. Ok walked)

  pub whole_passed : whole_class table place frame ≡ fine → and_then (frame_passed table (λ name. false) (sources_of frame) frame) bases_checked ≡ frame_checked table place frame
  whole_passed is = sym (ap (λ (o : Checked). and_then o (λ _. and_then (frame_passed table (λ name. false) (sources_of frame) frame) bases_checked)) is)

  pub bases_left : (walked : Walked) → whole_class table place frame ≡ fine → frame_passed table (λ name. false) (sources_of frame) frame ≡ Ok walked →
      bases_checked walked ≡ frame_checked table place frame
  bases_left walked is found = sym (ap (λ (o : Outcome Walked). and_then o bases_checked) found) ∙ whole_passed is

pub bases_before : (u v : World) (frame : ℕ) (bases : List (List Frame)) → Grows u v → IsFrame u frame →
    each_checked (through_passed (table_in v) (frame_at v frame)) bases ≡ each_checked (through_passed (table_in u) (frame_at u frame)) bases
bases_before u v frame bases g is =
    ap (λ (t : Table). each_checked (through_passed t (frame_at v frame)) bases) (table_later u v g)
    ∙ ap (λ (f : Frame). each_checked (through_passed (table_in u) f) bases) (frame_later u v frame g is)

pub base_before : (u v : World) (frame base : ℕ) (walked : Walked) (passed : ℕ) → Grows u v → IsFrame u frame → IsFrame u base → walk_of (table_in u) (frame_at u frame) ≡ Ok walked →
    passed ≡ length (sources_of (frame_at v frame)) →
    and_then (frame_passed (table_in v) (inherits walked) (drop passed (sources_of (frame_at v base))) (frame_at v base)) (λ _. fine) ≡ base_passed (table_in u) (frame_at u frame) (frame_at u base)
base_before u v frame base walked passed g is there found counted =
    ap (λ (t : Table). and_then (frame_passed t (inherits walked) (drop passed (sources_of (frame_at v base))) (frame_at v base)) (λ _. fine)) (table_later u v g)
    ∙ ap (λ (b : Frame). and_then (frame_passed (table_in u) (inherits walked) (drop passed (sources_of b)) b) (λ _. fine)) (frame_later u v base g there)
    ∙ ap (λ n. and_then (frame_passed (table_in u) (inherits walked) (drop n (sources_of (frame_at u base))) (frame_at u base)) (λ _. fine)) (counted ∙ ap (λ (f : Frame). length (sources_of f)) (frame_later u v frame g is))
    ∙ sym (ap (λ (o : Outcome Walked). and_then o (λ walked. and_then (frame_passed (table_in u) (inherits walked) (added_to (frame_at u frame) (frame_at u base)) (frame_at u base)) (λ _. fine))) found)

pub near_before : (u v : World) (frame base : ℕ) → Grows u v → IsFrame u frame → IsFrame u base → base_passed (table_in v) (frame_at v frame) (frame_at v base) ≡ base_passed (table_in u) (frame_at u frame) (frame_at u base)
near_before u v frame base g is there =
    ap (λ (t : Table). base_passed t (frame_at v frame) (frame_at v base)) (table_later u v g)
    ∙ ap (λ (f : Frame). base_passed (table_in u) f (frame_at v base)) (frame_later u v frame g is)
    ∙ ap (λ (f : Frame). base_passed (table_in u) (frame_at u frame) f) (frame_later u v base g there)

-- ---- the class of a component's type

module _ (table : Table) (frame : Frame) where
  pub whole_base : is_partial_short (row_at table (class_of frame)) ≡ false → partial_base table frame ≡ fine
  whole_base is = rw is refl

  pub base_asked : is_partial_short (row_at table (class_of frame)) ≡ true →
      and_then (first_base table frame (clauses_of table frame)) (λ _. fine) ≡ partial_base table frame
  base_asked is = rw is refl

pub type_left : (u v : World) (place : Place) (frame : ℕ) → Grows u v → IsFrame u frame → partial_base (table_in u) (frame_at u frame) ≡ fine →
    frame_checked (table_in v) place (frame_at v frame) ≡ type_checked (table_in u) place (frame_at u frame)
type_left u v place frame g there is =
    ap (λ (t : Table). frame_checked t place (frame_at v frame)) (table_later u v g)
    ∙ ap (λ (f : Frame). frame_checked (table_in u) place f) (frame_later u v frame g there)
    ∙ sym (ap (λ (o : Checked). and_then o (λ _. frame_checked (table_in u) place (frame_at u frame))) is)
