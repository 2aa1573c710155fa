-- Frames keep their numbers, so what the values of the code are stays the same in later worlds.
use Rattle.std.proofs.Common.{◌≡◌, ℕ, ◌<◌, List, [], ◌∷◌, ◌++◌, map, reverse, Option, Some, None, option_map, refl, ap, sym, subst, ◌∙◌, append_assoc}
use Rattle.std.proofs.lemmas.List.{append-nil}
use Rattle.mo_syntax.specs.declared.meaning.FrameId.{FrameId}
use Rattle.mo_scope.specs.declared.row.Member.{Member as MemberAt}
use Rattle.mo_scope.specs.Rows.{class_number, number_of_classes, table_of}
use Rattle.mo_scope.specs.Frames.{Frame, Member}
use Rattle.mo_scope.specs.Lookup.{Component, Class}
use Rattle.mo_scope.specs.Own.{IsOwnElement}
use Rattle.mo_scope.specs.Places.{Every}
use Rattle.mo_scope.specs.Sights.{declares_seen}
use Rattle.mo_scope.specs.Worlds.{World, Grows, IsFrame, frame_in, frames_of, table_in}
use Rattle.mo_scope.proofs.Numbered.{frames_stay, is_frame_grown}
use Rattle.mo_names.specs.declared.found.Found.{Found as FoundAt}
use Rattle.mo_names.specs.declared.found.Found.TheVariants.{Component as component_at, Class as class_at, Literal as literal_at, Iteration as iteration_at, Function as function_at, Time as time_at}
use Rattle.mo_names.specs.declared.join.Added.{Added}
use Rattle.mo_names.specs.declared.walk.Inherited.{Inherited as InheritedAt}
use Rattle.mo_names.specs.declared.walk.Walk.{Walk}
use Rattle.mo_names.specs.Sights.{member_of, found_in, frames_through, inherited_seen, walk_seen, IsMember, IsFound, AreThrough, IsBase, IsInherited, IsLeaf, IsWalk, IsAdded, added_seen}

-- ---- growing

pub grows_refl : (w : World) → Grows w w
grows_refl w = record { files = refl; more = []; entries = sym (append-nil w.entries) }

pub grows_trans : (u v w : World) → Grows u v → Grows v w → Grows u w
grows_trans u v w a b = record {
  files = b.files ∙ a.files;
  more = a.more ++ b.more;
  entries = b.entries ∙ ap (λ xs. xs ++ b.more) a.entries ∙ append_assoc u.entries a.more b.more;
}

pub table_later : (u v : World) → Grows u v → table_in v ≡ table_in u
table_later u v g = ap table_of g.files

pub frame_later : (u v : World) (n : ℕ) → Grows u v → IsFrame u n → frame_in (frames_of v) n ≡ frame_in (frames_of u) n
frame_later u v n g at = frames_stay u v g n at

pub is_frame_later : (u v : World) (n : ℕ) → Grows u v → IsFrame u n → IsFrame v n
is_frame_later u v n g at = is_frame_grown u v n g at

-- ---- elements

pub member_later : (u v : World) (m : MemberAt) → Grows u v → IsMember u m → member_of (frames_of v) m ≡ member_of (frames_of u) m
member_later u v m g is =
    ap (λ (home : Frame). record { name = m.name.now; home = home; item = m.item; hidden = m.hidden; declares = declares_seen m.declares })
    (frame_later u v m.home.0 g is.home)

pub is_member_later : (u v : World) (m : MemberAt) → Grows u v → IsMember u m → IsMember v m
is_member_later u v m g is = record {
  home = is_frame_later u v m.home.0 g is.home;
  class = subst (λ t. class_number (declares_seen m.declares) < number_of_classes t) (sym (table_later u v g)) is.class;
  own = subst (λ t. IsOwnElement t (member_of (frames_of v) m)) (sym (table_later u v g)) (subst (IsOwnElement (table_in u)) (sym (member_later u v m g is)) is.own);
}

-- ---- what is found

pub is_found_later : (u v : World) (f : FoundAt) → Grows u v → IsFound u f → IsFound v f
is_found_later u v (component_at frame m) g is = (is_frame_later u v frame.0 g is.0, is_member_later u v m g is.1)
is_found_later u v (class_at frame r) g is = is_frame_later u v frame.0 g is
is_found_later u v (literal_at class place) g is = tt
is_found_later u v (iteration_at value) g is = tt
is_found_later u v (function_at code) g is = tt
is_found_later u v time_at g is = tt

pub found_later : (u v : World) (f : FoundAt) → Grows u v → IsFound u f → found_in (frames_of v) f ≡ found_in (frames_of u) f
found_later u v (component_at frame m) g is =
    ap (λ (x : Frame). Component x (member_of (frames_of v) m)) (frame_later u v frame.0 g is.0)
    ∙ ap (λ (x : Member). Component (frame_in (frames_of u) frame.0) x) (member_later u v m g is.1)
found_later u v (class_at frame r) g is = ap (λ (x : Frame). Class x r) (frame_later u v frame.0 g is)
found_later u v (literal_at class place) g is = refl
found_later u v (iteration_at value) g is = refl
found_later u v (function_at code) g is = refl
found_later u v time_at g is = refl

-- ---- base frames

pub are_through_later : (u v : World) (xs : List FrameId) → Grows u v → AreThrough u xs → AreThrough v xs
are_through_later u v [] g are = tt
are_through_later u v (x ∷ xs) g are = (is_frame_later u v x.0 g are.0, are_through_later u v xs g are.1)

through_later' : (u v : World) (xs : List FrameId) → Grows u v → AreThrough u xs → map (λ (frame : FrameId). frame_in (frames_of v) frame.0) xs ≡ map (λ (frame : FrameId). frame_in (frames_of u) frame.0) xs
through_later' u v [] g are = refl
through_later' u v (x ∷ xs) g are =
    ap (λ (y : Frame). y ∷ map (λ (frame : FrameId). frame_in (frames_of v) frame.0) xs) (frame_later u v x.0 g are.0)
    ∙ ap (λ (ys : List Frame). frame_in (frames_of u) x.0 ∷ ys) (through_later' u v xs g are.1)

pub through_later : (u v : World) (xs : List FrameId) → Grows u v → AreThrough u xs → frames_through (frames_of v) xs ≡ frames_through (frames_of u) xs
through_later u v xs g are = ap reverse (through_later' u v xs g are)

-- ---- lists

every_later : {A : Type 0} (P Q : A → Type 0) → ((x : A) → P x → Q x) → (xs : List A) → Every P xs → Every Q xs
every_later P Q f [] are = tt
every_later P Q f (x ∷ xs) are = (f x are.0, every_later P Q f xs are.1)

map_later : {A B : Type 0} (P : A → Type 0) (f g : A → B) → ((x : A) → P x → f x ≡ g x) → (xs : List A) → Every P xs → map f xs ≡ map g xs
map_later P f g same [] are = refl
map_later P f g same (x ∷ xs) are = ap (λ y. y ∷ map f xs) (same x are.0) ∙ ap (λ ys. g x ∷ ys) (map_later P f g same xs are.1)

pub is_inherited_later : (u v : World) → Grows u v → (i : InheritedAt) → IsInherited u i → IsInherited v i
is_inherited_later u v g i is = record { member = is_member_later u v i.member g is.member; through = are_through_later u v i.through g is.through }

pub inherited_later : (u v : World) → Grows u v → (i : InheritedAt) → IsInherited u i → inherited_seen (frames_of v) i ≡ inherited_seen (frames_of u) i
inherited_later u v g i is =
    ap (λ (m : Member). record { member = m; through = frames_through (frames_of v) i.through }) (member_later u v i.member g is.member)
    ∙ ap (λ (t : List Frame). record { member = member_of (frames_of u) i.member; through = t }) (through_later u v i.through g is.through)

is_leaf_later : (u v : World) → Grows u v → (leaf : Option FrameId) → IsLeaf u leaf → IsLeaf v leaf
is_leaf_later u v g None is = tt
is_leaf_later u v g (Some frame) is = is_frame_later u v frame.0 g is

leaf_later : (u v : World) → Grows u v → (leaf : Option FrameId) → IsLeaf u leaf → option_map (λ (frame : FrameId). frame_in (frames_of v) frame.0) leaf ≡ option_map (λ (frame : FrameId). frame_in (frames_of u) frame.0) leaf
leaf_later u v g None is = refl
leaf_later u v g (Some frame) is = ap (λ (x : Frame). Some x) (frame_later u v frame.0 g is)

-- ---- walks

pub is_base_later : (u v : World) → Grows u v → (xs : List FrameId) → IsBase u xs → IsBase v xs
is_base_later u v g xs is = record { frames = are_through_later u v xs g is.frames; some = is.some }

pub is_walk_later : (u v : World) (walk : Walk) → Grows u v → IsWalk u walk → IsWalk v walk
is_walk_later u v walk g is = record {
  members = every_later (IsInherited u) (IsInherited v) (is_inherited_later u v g) walk.members is.members;
  bases = every_later (IsBase u) (IsBase v) (is_base_later u v g) walk.bases is.bases;
  sections = every_later (IsBase u) (IsBase v) (is_base_later u v g) walk.sections is.sections;
  leaf = is_leaf_later u v g walk.leaf is.leaf;
  names = is.names;
}

pub walk_later : (u v : World) (walk : Walk) → Grows u v → IsWalk u walk → walk_seen (frames_of v) walk ≡ walk_seen (frames_of u) walk
walk_later u v walk g is =
    let members : map (inherited_seen (frames_of v)) walk.members ≡ map (inherited_seen (frames_of u)) walk.members = map_later (IsInherited u) _ _ (inherited_later u v g) walk.members is.members in
    let bases : map (frames_through (frames_of v)) walk.bases ≡ map (frames_through (frames_of u)) walk.bases = map_later (IsBase u) _ _ (λ xs base. through_later u v xs g base.frames) walk.bases is.bases in
    let sections : map (frames_through (frames_of v)) walk.sections ≡ map (frames_through (frames_of u)) walk.sections = map_later (IsBase u) _ _ (λ xs base. through_later u v xs g base.frames) walk.sections is.sections in
    let leaf : option_map (λ (frame : FrameId). frame_in (frames_of v) frame.0) walk.leaf ≡ option_map (λ (frame : FrameId). frame_in (frames_of u) frame.0) walk.leaf = leaf_later u v g walk.leaf is.leaf in
    cc

-- ---- lists of elements and bases

pub are_inherited_later : (u v : World) (held : List InheritedAt) → Grows u v → Every (IsInherited u) held → Every (IsInherited v) held
are_inherited_later u v held g are = every_later (IsInherited u) (IsInherited v) (is_inherited_later u v g) held are

pub all_inherited_later : (u v : World) (held : List InheritedAt) → Grows u v → Every (IsInherited u) held → map (inherited_seen (frames_of v)) held ≡ map (inherited_seen (frames_of u)) held
all_inherited_later u v held g are = map_later (IsInherited u) _ _ (inherited_later u v g) held are

pub are_bases_later : (u v : World) (bases : List (List FrameId)) → Grows u v → Every (IsBase u) bases → Every (IsBase v) bases
are_bases_later u v bases g are = every_later (IsBase u) (IsBase v) (is_base_later u v g) bases are

pub all_bases_later : (u v : World) (bases : List (List FrameId)) → Grows u v → Every (IsBase u) bases → map (frames_through (frames_of v)) bases ≡ map (frames_through (frames_of u)) bases
all_bases_later u v bases g are = map_later (IsBase u) _ _ (λ xs base. through_later u v xs g base.frames) bases are

-- ---- what a base has

pub is_added_later : (u v : World) (added : Added) → Grows u v → IsAdded u added → IsAdded v added
is_added_later u v added g is = record {
  members = every_later (IsInherited u) (IsInherited v) (is_inherited_later u v g) added.members is.members;
  bases = every_later (IsBase u) (IsBase v) (is_base_later u v g) added.bases is.bases;
  sections = every_later (IsBase u) (IsBase v) (is_base_later u v g) added.sections is.sections;
  leaf = is_leaf_later u v g added.leaf is.leaf;
}

pub added_later : (u v : World) (added : Added) → Grows u v → IsAdded u added → added_seen (frames_of v) added ≡ added_seen (frames_of u) added
added_later u v added g is =
    let members : map (inherited_seen (frames_of v)) added.members ≡ map (inherited_seen (frames_of u)) added.members = map_later (IsInherited u) _ _ (inherited_later u v g) added.members is.members in
    let bases : map (frames_through (frames_of v)) added.bases ≡ map (frames_through (frames_of u)) added.bases = map_later (IsBase u) _ _ (λ xs base. through_later u v xs g base.frames) added.bases is.bases in
    let sections : map (frames_through (frames_of v)) added.sections ≡ map (frames_through (frames_of u)) added.sections = map_later (IsBase u) _ _ (λ xs base. through_later u v xs g base.frames) added.sections is.sections in
    let leaf : option_map (λ (frame : FrameId). frame_in (frames_of v) frame.0) added.leaf ≡ option_map (λ (frame : FrameId). frame_in (frames_of u) frame.0) added.leaf = leaf_later u v g added.leaf is.leaf in
    cc

pub ruleset later = (grows_refl, grows_trans, table_later, frame_later, is_frame_later, member_later, is_member_later, found_later, is_found_later, is_walk_later, walk_later)
