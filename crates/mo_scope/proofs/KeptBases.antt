-- What is kept of bases that were entered.
use Rattle.std.proofs.Common.{◌≡◌, ◌⊎◌, ℕ, inl, inr, Bool, true, false, cond, nat_eq, ◌&&◌, Option, Some, None, refl, ap, sym, subst, ◌∙◌, eqb-true}
use Rattle.std.specs.Prelude.{IfSome, option_map}
use Rattle.mo_syntax.specs.declared.meaning.FrameId.{FrameId}
use Rattle.mo_scope.specs.Entries.{number_of}
use Rattle.mo_scope.specs.Frames.{Frame, class_of}
use Rattle.mo_scope.specs.KeptBases.{AreEnteredBases, EntersBase, IsEnteredBase, IsThatBase, OldOrBase, is_base_key}
use Rattle.mo_scope.specs.Lookup.{base_frame}
use Rattle.mo_scope.specs.Rows.{row_at, table_of}
use Rattle.mo_scope.specs.Worlds.{World, Grows, IsFrame, frame_at, row_of_frame, table_in}
use Rattle.mo_scope.proofs.Entering.{both_true}
use Rattle.mo_scope.proofs.Numbered.{frames_stay, is_frame_grown}

-- ---- what is held

pub none_entered : (world : World) (held : (frame at class : ℕ) → Option ℕ) → ((frame at class : ℕ) → held frame at class ≡ None) → AreEnteredBases world held
none_entered world held none frame at class base is = absurd (let no : held frame at class ≡ None = none frame at class in cc)

pub no_base_more : (old new : (frame at class : ℕ) → Option ℕ) (frame at class base : ℕ) → ((f p c : ℕ) → new f p c ≡ old f p c) → OldOrBase old new frame at class base
no_base_more old new frame at class base same f p c b is = inl (sym (same f p c) ∙ is)

pub one_base_more : (old new : (frame at class : ℕ) → Option ℕ) (frame at class base : ℕ) → ((f p c : ℕ) → new f p c ≡ cond (is_base_key frame at class f p c) (Some base) (old f p c)) →
    OldOrBase old new frame at class base
one_base_more old new frame at class base change f p c b is = by (is_base_key frame at class f p c) refl
  where
    changed : (key : Bool) → is_base_key frame at class f p c ≡ key → cond key (Some base) (old f p c) ≡ Some b
    changed key k = sym (change f p c ∙ ap (λ t. cond t (Some base) (old f p c)) k) ∙ is

    by : (key : Bool) → is_base_key frame at class f p c ≡ key → (old f p c ≡ Some b) ⊎ IsThatBase frame at class base f p c b
    by true k =
        let here : Some base ≡ Some b = changed true k in
        let first : (nat_eq frame f ≡ true) × ((nat_eq at p && nat_eq class c) ≡ true) = both_true (nat_eq frame f) (nat_eq at p && nat_eq class c) k in
        let then : (nat_eq at p ≡ true) × (nat_eq class c ≡ true) = both_true (nat_eq at p) (nat_eq class c) first.1 in
        inr (record {
          same_frame = sym (eqb-true frame f first.0);
          same_place = sym (eqb-true at p then.0);
          same_class = sym (eqb-true class c then.1);
          same_base = (let same : base ≡ b = cc in sym same);
        })
    by false k = inl (changed false k)

pub bases_more : (world : World) (old new : (frame at class : ℕ) → Option ℕ) (frame at class base : ℕ) → AreEnteredBases world old → OldOrBase old new frame at class base →
    IsFrame world frame → IsFrame world class → IsFrame world base → EntersBase world frame at class base → AreEnteredBases world new
bases_more world old new frame at class base all change home around real enters f p c b is =
    elim (change f p c b is) [
      | inl before ↦ all f p c b before
      | inr that ↦ made that
    ]
  where
    made : IsThatBase frame at class base f p c b → IsEnteredBase world f p c b
    made that =
        subst (λ x. IsEnteredBase world x p c b) (sym that.same_frame)
        (subst (λ x. IsEnteredBase world frame x c b) (sym that.same_place)
        (subst (λ x. IsEnteredBase world frame at x b) (sym that.same_class)
        (subst (λ x. IsEnteredBase world frame at class x) (sym that.same_base)
        (record { frame_is = home; class_is = around; base_is = real; enters = enters }))))

-- ---- in later worlds

pub row_grown : (old new : World) (frame : ℕ) → Grows old new → IsFrame old frame → row_of_frame new frame ≡ row_of_frame old frame
row_grown old new frame grows at =
    ap (λ files. row_at (table_of files) (class_of (frame_at new frame))) grows.files
    ∙ ap (λ (f : Frame). row_at (table_in old) (class_of f)) (frames_stay old new grows frame at)

enters_grown : (old new : World) (frame at class base : ℕ) → Grows old new → IsEnteredBase old frame at class base → EntersBase new frame at class base
enters_grown old new frame at class base grows one row clause is stands =
    ap (λ (f : Frame). base_frame f row clause (frame_at new class)) (frames_stay old new grows frame one.frame_is)
    ∙ ap (λ (f : Frame). base_frame (frame_at old frame) row clause f) (frames_stay old new grows class one.class_is)
    ∙ one.enters row clause (sym (row_grown old new frame grows one.frame_is) ∙ is) stands
    ∙ sym (frames_stay old new grows base one.base_is)

pub bases_grown : (old new : World) (held : (frame at class : ℕ) → Option ℕ) → Grows old new → AreEnteredBases old held → AreEnteredBases new held
bases_grown old new held grows all frame at class base is =
    let one : IsEnteredBase old frame at class base = all frame at class base is in
    record {
      frame_is = is_frame_grown old new frame grows one.frame_is;
      class_is = is_frame_grown old new class grows one.class_is;
      base_is = is_frame_grown old new base grows one.base_is;
      enters = enters_grown old new frame at class base grows one;
    }

-- ---- what is asked

-- what is held is what it is entered as
pub base_enters : (inner world : World) (held : (frame at class : ℕ) → Option ℕ) (frame at class : ℕ) (result : Option FrameId) → inner ≡ world → AreEnteredBases inner held →
    option_map number_of result ≡ held frame at class → IfSome result (λ base. EntersBase world frame at class base.0)
base_enters inner world held frame at class None is all found = tt
base_enters inner world held frame at class (Some base) is all found = subst (λ w. EntersBase w frame at class base.0) is (all frame at class base.0 (sym found)).enters

pub base_exists : (inner world : World) (held : (frame at class : ℕ) → Option ℕ) (frame at class : ℕ) (result : Option FrameId) → inner ≡ world → AreEnteredBases inner held →
    option_map number_of result ≡ held frame at class → IfSome result (λ base. IsFrame world base.0)
base_exists inner world held frame at class None is all found = tt
base_exists inner world held frame at class (Some base) is all found = subst (λ w. IsFrame w base.0) is (all frame at class base.0 (sym found)).base_is

pub ruleset keeping = (no_base_more, one_base_more)
