-- What is kept of names that were found to be classes.
use Rattle.std.proofs.Common.{◌≡◌, ℕ, inl, inr, Bool, true, false, List, [], ◌∷◌, ◌++◌, Some, Ok, ap, sym, subst, ◌∙◌}
use Rattle.mo_syntax.specs.declared.meaning.FrameId.{FrameId}
use Rattle.mo_syntax.specs.declared.place.Place.{Place}
use Rattle.mo_scope.specs.declared.found_classes.FoundClass.{FoundClass}
use Rattle.mo_scope.specs.declared.found_classes.AskedName.{AskedName}
use Rattle.mo_scope.specs.Frames.{Frame}
use Rattle.mo_scope.specs.Lookup.{Class, asking_at, behind_class, found_from}
use Rattle.mo_scope.specs.KeptClasses.{AreFound, FindsClass, IsAskedSo, IsFoundClass, IsMade, OldOrMade}
use Rattle.mo_scope.specs.Rows.{table_of}
use Rattle.mo_scope.specs.Worlds.{World, Grows, IsFrame, frame_at, table_in}
use Rattle.mo_scope.proofs.Kept.{none_held, none_more, one_more}
use Rattle.mo_scope.proofs.Numbered.{frames_stay, is_frame_grown}

-- ---- what is held

pub none_found : (world : World) (classes : List FoundClass) → classes ≡ [] → AreFound world classes
none_found world classes none = none_held (IsFoundClass world) classes none

pub nothing_more : (old new : List FoundClass) (asked : AskedName) (class : FrameId) (replaceable : Bool) → new ≡ old → OldOrMade old new asked class replaceable
nothing_more old new asked class replaceable same = none_more (λ held. IsMade held asked class replaceable) old new same

pub one_class_more : (old new : List FoundClass) (made : FoundClass) (asked : AskedName) (class : FrameId) (replaceable : Bool) → new ≡ old ++ made ∷ [] → IsMade made asked class replaceable → OldOrMade old new asked class replaceable
one_class_more old new made asked class replaceable pushed is_made = one_more (λ held. IsMade held asked class replaceable) old new made pushed is_made

-- ---- in later worlds

finds_grown : (old new : World) (behind : Bool) (left : ℕ) (busy : List ℕ) (frame : ℕ) (place : Place) (name : List ℕ) (class : ℕ) (replaceable : Bool) → Grows old new → IsFrame old frame → IsFrame old class →
    FindsClass old behind left busy frame place name class replaceable → FindsClass new behind left busy frame place name class replaceable
finds_grown old new true left busy frame place name class replaceable grows at real finds =
    ap (λ files. behind_class (table_of files) (asking_at (table_of files) left busy) place place (Some place) (frame_at new frame) name) grows.files
    ∙ ap (λ (f : Frame). behind_class (table_in old) (asking_at (table_in old) left busy) place place (Some place) f name) (frames_stay old new grows frame at)
    ∙ finds
    ∙ ap (λ (f : Frame). Ok (Class f replaceable)) (sym (frames_stay old new grows class real))
finds_grown old new false left busy frame place name class replaceable grows at real finds =
    ap (λ files. found_from (table_of files) (asking_at (table_of files) left busy) false false (frame_at new frame) place name) grows.files
    ∙ ap (λ (f : Frame). found_from (table_in old) (asking_at (table_in old) left busy) false false f place name) (frames_stay old new grows frame at)
    ∙ finds
    ∙ ap (λ (f : Frame). Ok (record { found = Class f replaceable; near = false })) (sym (frames_stay old new grows class real))

pub found_grown : (old new : World) (classes : List FoundClass) → Grows old new → AreFound old classes → AreFound new classes
found_grown old new classes grows all found held =
    let one : IsFoundClass old found = all found held in
    record {
      frame = is_frame_grown old new found.frame.0 grows one.frame;
      class = is_frame_grown old new found.class.0 grows one.class;
      finds = finds_grown old new found.behind found.left found.busy found.frame.0 found.place found.name found.class.0 found.replaceable grows one.frame one.class one.finds;
    }

-- ---- what is asked

-- what was found for a name is what it finds
pub found_asked : (world : World) (found : FoundClass) (asked : AskedName) → IsAskedSo found asked → IsFoundClass world found →
    FindsClass world asked.behind asked.left asked.busy.now asked.frame.0 asked.place asked.name.now found.class.0 found.replaceable
found_asked world found asked same one =
    let place : found.place ≡ asked.place = ap (λ n. record { file = n; byte = found.place.byte }) same.file ∙ ap (λ n. record { file = asked.place.file; byte = n }) same.byte in
    subst (λ behind. FindsClass world behind asked.left asked.busy.now asked.frame.0 asked.place asked.name.now found.class.0 found.replaceable) same.behind
    (subst (λ left. FindsClass world found.behind left asked.busy.now asked.frame.0 asked.place asked.name.now found.class.0 found.replaceable) same.left
    (subst (λ busy. FindsClass world found.behind found.left busy asked.frame.0 asked.place asked.name.now found.class.0 found.replaceable) same.busy
    (subst (λ frame. FindsClass world found.behind found.left found.busy frame asked.place asked.name.now found.class.0 found.replaceable) same.frame
    (subst (λ (place : Place). FindsClass world found.behind found.left found.busy found.frame.0 place asked.name.now found.class.0 found.replaceable) place
    (subst (λ name. FindsClass world found.behind found.left found.busy found.frame.0 found.place name found.class.0 found.replaceable) same.name one.finds)))))

-- what a name finds is what was found for it
made_found : (world : World) (made : FoundClass) (asked : AskedName) (class : FrameId) (replaceable : Bool) → IsMade made asked class replaceable → IsFrame world asked.frame.0 → IsFrame world class.0 →
    FindsClass world asked.behind asked.left asked.busy.now asked.frame.0 asked.place asked.name.now class.0 replaceable → IsFoundClass world made
made_found world made asked class replaceable is frame real finds =
    let place : asked.place ≡ made.place = ap (λ n. record { file = n; byte = asked.place.byte }) (sym is.so.file) ∙ ap (λ n. record { file = made.place.file; byte = n }) (sym is.so.byte) in
    record {
      frame = subst (IsFrame world) (sym is.so.frame) frame;
      class = subst (λ (f : FrameId). IsFrame world f.0) (sym is.finds) real;
      finds =
          subst (λ behind. FindsClass world behind made.left made.busy made.frame.0 made.place made.name made.class.0 made.replaceable) (sym is.so.behind)
          (subst (λ left. FindsClass world asked.behind left made.busy made.frame.0 made.place made.name made.class.0 made.replaceable) (sym is.so.left)
          (subst (λ busy. FindsClass world asked.behind asked.left busy made.frame.0 made.place made.name made.class.0 made.replaceable) (sym is.so.busy)
          (subst (λ frame. FindsClass world asked.behind asked.left asked.busy.now frame made.place made.name made.class.0 made.replaceable) (sym is.so.frame)
          (subst (λ (place : Place). FindsClass world asked.behind asked.left asked.busy.now asked.frame.0 place made.name made.class.0 made.replaceable) place
          (subst (λ name. FindsClass world asked.behind asked.left asked.busy.now asked.frame.0 asked.place name made.class.0 made.replaceable) (sym is.so.name)
          (subst (λ (f : FrameId). FindsClass world asked.behind asked.left asked.busy.now asked.frame.0 asked.place asked.name.now f.0 made.replaceable) (sym is.finds)
          (subst (λ kind. FindsClass world asked.behind asked.left asked.busy.now asked.frame.0 asked.place asked.name.now class.0 kind) (sym is.kind) finds)))))));
    }

pub found_more : (world : World) (old new : List FoundClass) (asked : AskedName) (class : FrameId) (replaceable : Bool) → AreFound world old → OldOrMade old new asked class replaceable →
    IsFrame world asked.frame.0 → IsFrame world class.0 → FindsClass world asked.behind asked.left asked.busy.now asked.frame.0 asked.place asked.name.now class.0 replaceable → AreFound world new
found_more world old new asked class replaceable all change frame real finds found held =
    elim (change found held) [
      | inl before ↦ all found before
      | inr made ↦ made_found world found asked class replaceable made frame real finds
    ]

pub ruleset keeping = (nothing_more, one_class_more)
