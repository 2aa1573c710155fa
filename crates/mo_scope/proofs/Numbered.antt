-- The frames that numbers stand for.
use Rattle.std.proofs.Common.{◌≡◌, ℕ, zero, suc, ◌+◌, ◌<◌, ◌⊎◌, inl, inr, Ok, List, [], ◌∷◌, ◌++◌, length, map, get_or, Option, Some, None, refl, ap, sym, subst, ◌∙◌, arith, length-append, length-set, set, Bor}
use Rattle.std.proofs.Math.ListN.{get_or-append}
use Rattle.std.specs.Prelude.{slice_get, option_map, option_copied, IfSome, IsNone, IsTrue, Bool, false}
use Rattle.std.proofs.lemmas.Option.{slice_get-map, slice_get_read}
use Rattle.std.proofs.lemmas.List.{length-map, map-append}
use Rattle.mo_syntax.specs.declared.class.FileTree.{FileTree}
use Rattle.std.proofs.lemmas.Grind.{common_steps}
use Rattle.mo_scope.specs.Frames.{Frame, Top, In, Source, gathered, listed, sources_of, is_top}
use Rattle.mo_scope.specs.Rows.{number_of_classes, table_of}
use Rattle.mo_scope.specs.Names.{elements_of}
use Rattle.mo_syntax.specs.SoundTree.{IsSoundTree}
use Rattle.mo_scope.specs.Worlds.{SourceEntry, FrameEntry, MemberEntry, World, Grows, AreFrames, IsFrame, IsFrameOrNone, IsEntry, IsSound, IsTable, kept_table, table_in, frame_in, frame_or_top, source_in, sources_in, member_in, frame_of_entry, frames_from, frames_of, frame_at}

-- frames that are alike below a number
abbrev pub Alike : List Frame → List Frame → ℕ → Type 0
Alike F G n = (m : ℕ) → m < n → frame_in F m ≡ frame_in G m

alike_source : (F G : List Frame) (n : ℕ) → Alike F G n → (s : SourceEntry) → s.frame < n → source_in F s ≡ source_in G s
alike_source F G n alike s below = ap (λ frame. record { piece = s.piece; scope = record { frame = frame; iterations = s.iterations } }) (alike s.frame below)

pub alike_sources : (F G : List Frame) (n : ℕ) → Alike F G n → (xs : List SourceEntry) → ((k : ℕ) (s : SourceEntry) → slice_get xs k ≡ Some s → s.frame < n) → sources_in F xs ≡ sources_in G xs
alike_sources F G n alike [] below = refl
alike_sources F G n alike (x ∷ xs) below =
    ap (λ y. y ∷ sources_in F xs) (alike_source F G n alike x (below zero x refl))
    ∙ ap (λ ys. source_in G x ∷ ys) (alike_sources F G n alike xs (λ k s at. below (suc k) s at))

pub alike_option : (F G : List Frame) (n : ℕ) → Alike F G n → (o : Option ℕ) → ((m : ℕ) → o ≡ Some m → m < n) → frame_or_top F o ≡ frame_or_top G o
alike_option F G n alike None below = refl
alike_option F G n alike (Some m) below = alike m (below m refl)

pub alike_entry : (F G : List Frame) (c n : ℕ) → Alike F G n → (e : FrameEntry) → IsEntry c n e → frame_of_entry F e ≡ frame_of_entry G e
alike_entry F G c n alike e is =
    ap (λ s. In e.class (gathered s) (frame_or_top F e.outer) e.at (frame_or_top F e.owner)) (alike_sources F G n alike e.sources is.sources)
    ∙ ap (λ o. In e.class (gathered (sources_in G e.sources)) o e.at (frame_or_top F e.owner)) (alike_option F G n alike e.outer is.outer)
    ∙ ap (λ o. In e.class (gathered (sources_in G e.sources)) (frame_or_top G e.outer) e.at o) (alike_option F G n alike e.owner is.owner)

pub alike_members : (F G : List Frame) (n : ℕ) → Alike F G n → (xs : List MemberEntry) → ((k : ℕ) (m : MemberEntry) → slice_get xs k ≡ Some m → m.home < n) → map (member_in F) xs ≡ map (member_in G) xs
alike_members F G n alike [] below = refl
alike_members F G n alike (x ∷ xs) below =
    ap (λ home. record { name = x.name; home = home; item = x.item; hidden = x.hidden; declares = x.declares } ∷ map (member_in F) xs) (alike x.home (below zero x refl))
    ∙ ap (λ ys. member_in G x ∷ ys) (alike_members F G n alike xs (λ k m at. below (suc k) m at))

-- ---- one after another

pub frames_from_append : (F : List Frame) (xs ys : List FrameEntry) → frames_from F (xs ++ ys) ≡ frames_from (frames_from F xs) ys
frames_from_append F [] ys = refl
frames_from_append F (x ∷ xs) ys = frames_from_append (F ++ frame_of_entry F x ∷ []) xs ys

one_more : (F : List Frame) (f : Frame) → length (F ++ f ∷ []) ≡ length F + 1
one_more F f = grind (arith, common_steps)

pub length_frames_from : (F : List Frame) (xs : List FrameEntry) → length (frames_from F xs) ≡ length F + length xs
length_frames_from F [] = omega arith
length_frames_from F (x ∷ xs) =
    length_frames_from (F ++ frame_of_entry F x ∷ []) xs ∙ omega (arith, one_more F (frame_of_entry F x))

pub frames_from_keeps : (F : List Frame) (xs : List FrameEntry) → Alike (frames_from F xs) F (length F)
frames_from_keeps F [] m below = refl
frames_from_keeps F (x ∷ xs) m below =
    frames_from_keeps (F ++ frame_of_entry F x ∷ []) xs m (omega (arith, one_more F (frame_of_entry F x)))
    ∙ get_or-append F (frame_of_entry F x ∷ []) Top m below

at_end : (F : List Frame) (f : Frame) → frame_in (F ++ f ∷ []) (length F) ≡ f
at_end [] f = refl
at_end (x ∷ F) f = at_end F f

pub frames_from_at : (F : List Frame) (xs : List FrameEntry) (c k : ℕ) (e : FrameEntry) → slice_get xs k ≡ Some e → IsEntry c (length F + k) e →
    frame_in (frames_from F xs) (length F + k) ≡ frame_of_entry (frames_from F xs) e
frames_from_at F [] c k e at is = cc
frames_from_at F (x ∷ xs) c zero e at is =
    let all : List Frame = frames_from (F ++ frame_of_entry F x ∷ []) xs in
    let same : x ≡ e = grind arith in
    ap (frame_in all) (omega arith)
    ∙ frames_from_keeps (F ++ frame_of_entry F x ∷ []) xs (length F) (omega (arith, one_more F (frame_of_entry F x)))
    ∙ at_end F (frame_of_entry F x)
    ∙ ap (frame_of_entry F) same
    ∙ alike_entry F all c (length F + zero) (λ m below.
    sym (frames_from_keeps F (x ∷ xs) m (omega arith))) e is
frames_from_at F (x ∷ xs) c (suc k) e at is =
    let moved : length F + suc k ≡ length (F ++ frame_of_entry F x ∷ []) + k = omega (arith, one_more F (frame_of_entry F x)) in
    ap (frame_in (frames_from (F ++ frame_of_entry F x ∷ []) xs)) moved
    ∙ frames_from_at (F ++ frame_of_entry F x ∷ []) xs c k e at (subst (λ n. IsEntry c n e) moved is)

-- ---- in a world

pub length_frames_of : (w : World) → length (frames_of w) ≡ length w.entries
unfolding frames_of
length_frames_of w = length_frames_from [] w.entries ∙ omega arith

pub frame_at_entry : (w : World) (c n : ℕ) (e : FrameEntry) → slice_get w.entries n ≡ Some e → IsEntry c n e → frame_at w n ≡ frame_of_entry (frames_of w) e
unfolding frames_of
frame_at_entry w c n e at is =
    let from_zero : n ≡ zero + n = omega arith in
    ap (frame_in (frames_from [] w.entries)) from_zero
    ∙ frames_from_at [] w.entries c n e at (subst (λ k. IsEntry c k e) from_zero is)

-- each old number keeps its frame
pub is_frame_grown : (old new : World) (n : ℕ) → Grows old new → IsFrame old n → IsFrame new n
is_frame_grown old new n grows at =
    let long : length new.entries ≡ length old.entries + length grows.more = ap length grows.entries ∙ length-append old.entries grows.more in
    omega (arith, at, long)

pub frames_stay : (old new : World) → Grows old new → Alike (frames_of new) (frames_of old) (length old.entries)
unfolding frames_of
frames_stay old new grows m below =
    ap (λ xs. frame_in (frames_from [] xs) m) grows.entries
    ∙ ap (λ F. frame_in F m) (frames_from_append [] old.entries grows.more)
    ∙ frames_from_keeps (frames_from [] old.entries) grows.more m (omega (arith, length_frames_from [] old.entries))

-- ---- in a sound world

pub entry_sound : (inner w : World) → inner ≡ w → IsSound inner → (n : ℕ) (e : FrameEntry) → slice_get w.entries n ≡ Some e → IsEntry (number_of_classes (table_in w)) n e
entry_sound inner w same sound n e at = (subst IsSound same sound).entries n e at

pub entry_is : (inner w : World) → inner ≡ w → IsSound inner → (n : ℕ) (e : FrameEntry) → slice_get w.entries n ≡ Some e → frame_at w n ≡ frame_of_entry (frames_of w) e
entry_is inner w same sound n e at = frame_at_entry w (number_of_classes (table_in w)) n e at (entry_sound inner w same sound n e at)

pub read_at : {A : Type 0} (f : A → FrameEntry) (w : World) (xs : List A) (n : ℕ) (x : A) → map f xs ≡ w.entries → n < length w.entries → x ≡ get_or xs n x → slice_get w.entries n ≡ Some (f x)
read_at f w xs n x same below is =
    let long : n < length xs = subst (λ k. n < k) (sym (ap length same) ∙ length-map xs f) below in
    ap (λ ys. slice_get ys n) (sym same) ∙ slice_get-map f xs n ∙ ap (option_map f) (slice_get_read xs (length xs) n x refl long is)

-- ---- one more frame

absurd_none : {A : Type 0} {B : Type 0} (a : A) → None ≡ Some a → B
absurd_none a e = cc

pub at_append : {A : Type 0} (xs : List A) (y : A) (n : ℕ) (x : A) → slice_get (xs ++ y ∷ []) n ≡ Some x → (slice_get xs n ≡ Some x) ⊎ ((n ≡ length xs) × (y ≡ x))
at_append [] y zero x at = inr (refl, grind arith)
at_append [] y (suc n) x at = absurd_none x at
at_append (z ∷ xs) y zero x at = inl at
at_append (z ∷ xs) y (suc n) x at = elim (at_append xs y n x at) [ inl same ↦ inl same | inr last ↦ inr (ap suc last.0, last.1) ]

get_append : {A : Type 0} (xs : List A) (y d : A) (n : ℕ) (x : A) → get_or (xs ++ y ∷ []) n d ≡ x → (get_or xs n d ≡ x) ⊎ ((n ≡ length xs) × (y ≡ x))
get_append [] y d zero x at = inr (refl, at)
get_append [] y d (suc n) x at = inl at
get_append (z ∷ xs) y d zero x at = inl at
get_append (z ∷ xs) y d (suc n) x at = elim (get_append xs y d n x at) [ inl same ↦ inl same | inr last ↦ inr (ap suc last.0, last.1) ]

pub table_grown : (old new : World) → Grows old new → (n : ℕ) (ms : List MemberEntry) → IsTable old n ms → n < length old.entries → IsTable new n ms
table_grown old new grows n ms is below = record {
  elements =
      ap (λ fs. elements_of (table_of fs) (frame_at new n)) grows.files
      ∙ ap (elements_of (table_in old)) (frames_stay old new grows n below)
      ∙ is.elements
      ∙ ap Ok (sym (alike_members (frames_of new) (frames_of old) (length old.entries) (frames_stay old new grows) ms is.homes));
  homes = λ k m at. let h : m.home < length old.entries = is.homes k m at in
      let long : length new.entries ≡ length old.entries + length grows.more = ap length grows.entries ∙ length-append old.entries grows.more in
      omega (arith, h, long);
}

pub sound_grown : (old new : World) (e : FrameEntry) → IsSound old → new.files ≡ old.files → new.entries ≡ old.entries ++ e ∷ [] → new.tables ≡ old.tables ++ None ∷ [] →
    IsEntry (number_of_classes (table_in old)) (length old.entries) e → IsSound new
sound_grown old new e sound files entries tables is =
    let grows : Grows old new = record { files = files; more = e ∷ []; entries = entries } in
    let classes : number_of_classes (table_in new) ≡ number_of_classes (table_in old) = ap (λ fs. number_of_classes (table_of fs)) files in
    record {
      tree = subst IsSoundTree (sym files) sound.tree;
      entries = λ n x at.
          elim (at_append old.entries e n x (ap (λ xs. slice_get xs n) (sym entries) ∙ at)) [
            | inl same ↦ subst (λ c. IsEntry c n x) (sym classes) (sound.entries n x same)
            | inr last ↦ subst (λ c. IsEntry c n x) (sym classes) (subst (IsEntry (number_of_classes (table_in old)) n) last.1 (subst (λ k. IsEntry (number_of_classes (table_in old)) k e) (sym last.0) is))
          ];
      counted = ap length tables ∙ length-append old.tables (None ∷ []) ∙ ap (λ k. k + 1) sound.counted ∙ sym (ap length entries ∙ length-append old.entries (e ∷ []));
      kept = λ n ms at.
          elim (get_append old.tables None None n (Some ms) (ap (λ xs. get_or xs n None) (sym tables) ∙ at)) [
            | inl same ↦ table_grown old new grows n ms (sound.kept n ms same) (omega (arith, kept_within old.tables n ms same, sound.counted))
            | inr last ↦ absurd_none ms last.1
          ];
    }
  where
    kept_within : (xs : List (Option (List MemberEntry))) (n : ℕ) (ms : List MemberEntry) → get_or xs n None ≡ Some ms → n < length xs
    kept_within [] zero ms at = absurd_none ms at
    kept_within [] (suc n) ms at = absurd_none ms at
    kept_within (x ∷ xs) zero ms at = omega arith
    kept_within (x ∷ xs) (suc n) ms at = omega (arith, kept_within xs n ms at)

-- ---- reading

pub listed_gathered : (xs : List Source) → listed (gathered xs) ≡ xs
listed_gathered [] = refl
listed_gathered (x ∷ xs) = ap (λ ys. x ∷ ys) (listed_gathered xs)

pub sources_of_entry : (w : World) (n : ℕ) (e : FrameEntry) → frame_at w n ≡ frame_of_entry (frames_of w) e → sources_in (frames_of w) e.sources ≡ sources_of (frame_at w n)
sources_of_entry w n e is = sym (ap sources_of is ∙ listed_gathered (sources_in (frames_of w) e.sources))

no_top : (F : List Frame) (xs : List FrameEntry) (k : ℕ) → k < length xs → is_top (frame_in (frames_from F xs) (length F + k)) ≡ false
no_top F [] k below = absurd (search arith)
no_top F (x ∷ xs) zero below =
    ap (λ n. is_top (frame_in (frames_from (F ++ frame_of_entry F x ∷ []) xs) n)) (omega arith)
    ∙ ap is_top (frames_from_keeps (F ++ frame_of_entry F x ∷ []) xs (length F) (omega (arith, one_more F (frame_of_entry F x))))
    ∙ ap is_top (at_end F (frame_of_entry F x))
no_top F (x ∷ xs) (suc k) below =
    let moved : length F + suc k ≡ length (F ++ frame_of_entry F x ∷ []) + k = omega (arith, one_more F (frame_of_entry F x)) in
    ap (λ n. is_top (frame_in (frames_from (F ++ frame_of_entry F x ∷ []) xs) n)) moved
    ∙ no_top (F ++ frame_of_entry F x ∷ []) xs k (omega (arith, below))

pub is_no_top : (w : World) (n : ℕ) → n < length w.entries → is_top (frame_at w n) ≡ false
unfolding frames_of
is_no_top w n below =
    let from_zero : n ≡ zero + n = omega arith in
    ap (λ k. is_top (frame_in (frames_from [] w.entries) k)) from_zero ∙ no_top [] w.entries n below

pub top_where_none : (w : World) (o : Option ℕ) (f : Frame) → frame_or_top (frames_of w) o ≡ f → ((m : ℕ) → o ≡ Some m → m < length w.entries) →
    (IsNone o → IsTrue (is_top f)) × (IsTrue (is_top f) → IsNone o)
top_where_none w None f is below = (λ none. subst (λ g. IsTrue (is_top g)) is refl, λ top. refl)
top_where_none w (Some m) f is below =
    (λ none. cc, λ top. absurd (same_not (ap is_top is) (is_no_top w m (below m refl)) top))
  where
    same_not : {a b : Bool} → a ≡ b → a ≡ false → IsTrue b → ⊥
    same_not {a} {b} same not_b is_b = grind arith

-- the option is seen through a function, as frame numbers are
pub behind : {A : Type 0} (number : A → ℕ) (w : World) (o : Option A) (f : Frame) (n : ℕ) → frame_or_top (frames_of w) (option_map number o) ≡ f → n < length w.entries →
    ((m : ℕ) → option_map number o ≡ Some m → m < n) → (IsNone o → IsTrue (is_top f)) × (IsTrue (is_top f) → IsNone o)
behind number w None f n is below before = top_where_none w None f is (λ m at. omega (arith, before m at))
behind number w (Some a) f n is below before =
    let known : (IsNone (Some (number a)) → IsTrue (is_top f)) × (IsTrue (is_top f) → IsNone (Some (number a))) =
    top_where_none w (Some (number a)) f is (λ m at. omega (arith, before m at, below)) in
    (λ none. cc, λ top. absurd (some_no_none (number a) (known.1 top)))
  where
    some_no_none : (m : ℕ) → IsNone (Some m) → ⊥
    some_no_none m none = cc

pub below_frame : (w : World) (n : ℕ) (xs : List SourceEntry) → n < length w.entries → ((k : ℕ) (s : SourceEntry) → slice_get xs k ≡ Some s → s.frame < n) →
    (k : ℕ) (s : SourceEntry) → slice_get xs k ≡ Some s → s.frame < length w.entries
below_frame w n xs below before k s at = omega (arith, before k s at, below)

-- ---- a frame that is pushed

abbrev pub world : {A : Type 0} (seen : A → FrameEntry) (kept : A → Option (List MemberEntry)) (files : List FileTree) (xs : List A) → World
world seen kept files xs = record { files = files; entries = map seen xs; tables = map kept xs }

entries_pushed : {A B : Type 0} (f : A → B) (xs ys : List A) (x : A) → ys ≡ xs ++ x ∷ [] → map f ys ≡ map f xs ++ f x ∷ []
entries_pushed f xs ys x pushed = ap (map f) pushed ∙ map-append f xs (x ∷ [])

pub grows_pushed : {A : Type 0} (seen : A → FrameEntry) (kept : A → Option (List MemberEntry)) (files : List FileTree) (xs ys : List A) (x : A) (w : World) →
    world seen kept files xs ≡ w → ys ≡ xs ++ x ∷ [] → Grows w (world seen kept files ys)
grows_pushed seen kept files xs ys x w is pushed =
    subst (λ v. Grows v (world seen kept files ys)) is (record { files = refl; more = seen x ∷ []; entries = entries_pushed seen xs ys x pushed })

pub grows_refl : (w : World) → Grows w w
grows_refl w = record { files = refl; more = []; entries = sym (append_nil w.entries) }
  where
    append_nil : (xs : List FrameEntry) → xs ++ [] ≡ xs
    append_nil [] = refl
    append_nil (x ∷ xs) = ap (λ ys. x ∷ ys) (append_nil xs)

-- frames that are as they were
pub grows_same : {A : Type 0} (seen : A → FrameEntry) (kept : A → Option (List MemberEntry)) (files : List FileTree) (xs ys : List A) (w : World) →
    world seen kept files xs ≡ w → ys ≡ xs → Grows w (world seen kept files ys)
grows_same seen kept files xs ys w is back =
    subst (λ zs. Grows w (world seen kept files zs)) (sym back) (subst (λ v. Grows v (world seen kept files xs)) is (grows_refl (world seen kept files xs)))

pub tables_pushed : {A : Type 0} (seen : A → FrameEntry) (kept : A → Option (List MemberEntry)) (files : List FileTree) (xs ys : List A) (x : A) (w : World) →
    world seen kept files xs ≡ w → ys ≡ xs ++ x ∷ [] → kept x ≡ None → map kept ys ≡ w.tables ++ None ∷ []
tables_pushed seen kept files xs ys x w is pushed none =
    entries_pushed kept xs ys x pushed ∙ ap (λ k. map kept xs ++ k ∷ []) none ∙ ap (λ v. v.tables ++ None ∷ []) is

pub sound_pushed : {A : Type 0} (seen : A → FrameEntry) (kept : A → Option (List MemberEntry)) (files : List FileTree) (xs ys : List A) (x : A) (w : World) →
    world seen kept files xs ≡ w → IsSound (world seen kept files xs) → ys ≡ xs ++ x ∷ [] → kept x ≡ None →
    (seen x).class < number_of_classes (table_in w) → AreFrames w (seen x).sources → IsFrameOrNone w (seen x).outer → IsFrameOrNone w (seen x).owner → IsSound (world seen kept files ys)
sound_pushed seen kept files xs ys x w is sound pushed none class sources outer owner =
    sound_grown w (world seen kept files ys) (seen x) (subst IsSound is sound) (ap (λ v. v.files) is)
    (entries_pushed seen xs ys x pushed ∙ ap (λ v. v.entries ++ seen x ∷ []) is)
    (entries_pushed kept xs ys x pushed ∙ ap (λ k. map kept xs ++ k ∷ []) none ∙ ap (λ v. v.tables ++ None ∷ []) is)
    (record { class = class; sources = sources; outer = outer; owner = owner })

pub frame_pushed : {A : Type 0} (seen : A → FrameEntry) (kept : A → Option (List MemberEntry)) (files : List FileTree) (xs ys : List A) (x : A) (w : World) (n : ℕ) →
    world seen kept files xs ≡ w → ys ≡ xs ++ x ∷ [] → n ≡ length xs → frame_at (world seen kept files ys) n ≡ frame_of_entry (frames_of w) (seen x)
unfolding frames_of
frame_pushed seen kept files xs ys x w n is pushed at =
    ap (λ es. frame_in (frames_from [] es) n) (entries_pushed seen xs ys x pushed)
    ∙ ap (λ F. frame_in F n) (frames_from_append [] (map seen xs) (seen x ∷ []))
    ∙ ap (frame_in (frames_from [] (map seen xs) ++ frame_of_entry (frames_from [] (map seen xs)) (seen x) ∷ []))
    (at ∙ sym (length-map xs seen) ∙ sym (length_frames_from [] (map seen xs) ∙ omega arith))
    ∙ at_end (frames_from [] (map seen xs)) (frame_of_entry (frames_from [] (map seen xs)) (seen x))
    ∙ ap (λ v. frame_of_entry (frames_from [] v.entries) (seen x)) is

-- ---- a table that is kept

get_set : {A : Type 0} (xs : List A) (n k : ℕ) (y d x : A) → get_or (set xs n y) k d ≡ x → (get_or xs k d ≡ x) ⊎ ((k ≡ n) × (y ≡ x))
get_set [] n k y d x at = inl at
get_set (z ∷ xs) zero zero y d x at = inr (refl, at)
get_set (z ∷ xs) zero (suc k) y d x at = inl at
get_set (z ∷ xs) (suc n) zero y d x at = inl at
get_set (z ∷ xs) (suc n) (suc k) y d x at = elim (get_set xs n k y d x at) [ inl same ↦ inl same | inr here ↦ inr (ap suc here.0, here.1) ]

abbrev pub with_table : World → ℕ → List MemberEntry → World
with_table w n ms = record { files = w.files; entries = w.entries; tables = set w.tables n (Some ms) }

pub sound_kept : (w : World) (n : ℕ) (ms : List MemberEntry) → IsSound w → IsTable w n ms → IsSound (with_table w n ms)
unfolding frames_of
sound_kept w n ms sound is = record {
  tree = sound.tree;
  entries = sound.entries;
  counted = length-set w.tables n (Some ms) ∙ sound.counted;
  kept = λ k other at.
      elim (get_set w.tables n k (Some ms) None (Some other) at) [
        | inl same ↦ let old : IsTable w k other = sound.kept k other same in record { elements = old.elements; homes = old.homes }
        | inr here ↦ let same : ms ≡ other = grind (arith, here.1) in
            let moved : IsTable w k other = subst (λ l. IsTable w k l) same (subst (λ m. IsTable w m ms) (sym here.0) is) in
            record { elements = moved.elements; homes = moved.homes }
      ];
}

map_set : {A B : Type 0} (f : A → B) (xs : List A) (n : ℕ) (y : A) → map f (set xs n y) ≡ set (map f xs) n (f y)
map_set f [] n y = refl
map_set f (z ∷ xs) zero y = refl
map_set f (z ∷ xs) (suc n) y = ap (λ ys. f z ∷ ys) (map_set f xs n y)

map_set_same : {A B : Type 0} (f : A → B) (xs : List A) (n : ℕ) (x y : A) → x ≡ get_or xs n x → f y ≡ f x → map f (set xs n y) ≡ map f xs
map_set_same f [] n x y at same = refl
map_set_same f (z ∷ xs) zero x y at same = ap (λ v. v ∷ map f xs) (same ∙ ap f at)
map_set_same f (z ∷ xs) (suc n) x y at same = ap (λ ys. f z ∷ ys) (map_set_same f xs n x y at same)

pub kept_set : {A : Type 0} (seen : A → FrameEntry) (kept : A → Option (List MemberEntry)) (files : List FileTree) (xs : List A) (n : ℕ) (old new : A) (ms : List MemberEntry) (w : World) →
    world seen kept files xs ≡ w → old ≡ get_or xs n old → seen new ≡ seen old → kept new ≡ Some ms → world seen kept files (set xs n new) ≡ with_table w n ms
kept_set seen kept files xs n old new ms w is at same keeps =
    ap (λ es. record { files = files; entries = es; tables = map kept (set xs n new) }) (map_set_same seen xs n old new at same)
    ∙ ap (λ ts. record { files = files; entries = map seen xs; tables = ts }) (map_set kept xs n new ∙ ap (set (map kept xs) n) keeps)
    ∙ ap (λ v. with_table v n ms) is

pub grows_set : {A : Type 0} (seen : A → FrameEntry) (kept : A → Option (List MemberEntry)) (files : List FileTree) (xs : List A) (n : ℕ) (old new : A) →
    old ≡ get_or xs n old → seen new ≡ seen old → Grows (world seen kept files xs) (world seen kept files (set xs n new))
unfolding grows_refl
grows_set seen kept files xs n old new at same = record { files = refl; more = []; entries = map_set_same seen xs n old new at same ∙ (grows_refl (world seen kept files xs)).entries }

pub sound_set : {A : Type 0} (seen : A → FrameEntry) (kept : A → Option (List MemberEntry)) (files : List FileTree) (xs : List A) (n : ℕ) (old new : A) (ms : List MemberEntry) (w : World) →
    world seen kept files xs ≡ w → IsSound (world seen kept files xs) → old ≡ get_or xs n old → seen new ≡ seen old → kept new ≡ Some ms → IsTable w n ms → IsSound (world seen kept files (set xs n new))
sound_set seen kept files xs n old new ms w is sound at same keeps table =
    subst IsSound (sym (kept_set seen kept files xs n old new ms w is at same keeps)) (sound_kept w n ms (subst IsSound is sound) table)

-- ---- the table of an entry

get_map : {A B : Type 0} (f : A → B) (xs : List A) (n : ℕ) (x : A) (d : B) → n < length xs → x ≡ get_or xs n x → get_or (map f xs) n d ≡ f x
get_map f [] n x d below at = absurd (search arith)
get_map f (z ∷ xs) zero x d below at = ap f (sym at)
get_map f (z ∷ xs) (suc n) x d below at = get_map f xs n x d (omega (arith, below)) at

pub table_at : {A : Type 0} (kept : A → Option (List MemberEntry)) (seen : A → FrameEntry) (w : World) (xs : List A) (n : ℕ) (x : A) → map kept xs ≡ w.tables → map seen xs ≡ w.entries → n < length w.entries →
    x ≡ get_or xs n x → kept_table w n ≡ kept x
table_at kept seen w xs n x tables entries below at =
    let long : n < length xs = subst (λ k. n < k) (sym (ap length entries) ∙ length-map xs seen) below in
    ap (λ ts. get_or ts n None) (sym tables) ∙ get_map kept xs n x None long at

pub table_sound : (inner w : World) → inner ≡ w → IsSound inner → (n : ℕ) (t : Option (List MemberEntry)) → kept_table w n ≡ t → (ms : List MemberEntry) → t ≡ Some ms → IsTable w n ms
table_sound inner w same sound n t is ms at = (subst IsSound same sound).kept n ms (is ∙ at)

pub if_kept : {A : Type 0} (P : A → Type 0) (o : Option (Bor A)) (t : Option A) → option_copied o ≡ t → ((a : A) → t ≡ Some a → P a) → IfSome o (λ b. P b.now)
if_kept P None t same all = tt
if_kept P (Some b) t same all = all b.now (sym same)
