-- Walks of frames by those of frames that differ from them in path and owner alone.
use Rattle.std.proofs.Common.{◌≡◌, ℕ, ◌+◌, ◌<◌, ◌≤◌, Bool, false, drop, get_or, List, [], ◌∷◌, ◌++◌, length, map, reverse, Option, Some, None, refl, sym, ap, subst, ◌∙◌, arith, append_assoc}
use Rattle.std.specs.Prelude.{◌||◌, Result, Ok, Err, IfOk, slice_get}
use Rattle.std.specs.Result.{IsErrAnd}
use Rattle.std.specs.List.{list_any}
use Rattle.std.specs.Str.{bytes_eq}
use Rattle.std.proofs.lemmas.List.{append-nil, drop_all, map-append, reverse-append, reverse-reverse}
use Rattle.mo_syntax.specs.declared.meaning.FrameId.{FrameId}
use Rattle.mo_scope.specs.Frames.{Frame, Member, Top, In, Sources, No_source, Source_then, at_of, class_of, is_top, listed, outer_of, owner_of_base, sources_of, looked_up}
use Rattle.mo_scope.specs.declared.names.Names.{Names}
use Rattle.mo_scope.specs.declared.row.Member.{Member as MemberAt}
use Rattle.mo_scope.specs.Lookup.{Inherited, Walked}
use Rattle.mo_scope.specs.Own.{own_declared}
use Rattle.mo_scope.specs.Places.{Every}
use Rattle.mo_scope.specs.Rows.{Row, Table, row_at}
use Rattle.mo_scope.specs.Worlds.{World, Grows, IsFrame, frame_at, frame_in, frames_of, table_in}
use Rattle.mo_scope.proofs.Numbered.{is_no_top}
use Rattle.mo_scope.proofs.laws.Standing.{every_append, every_weaker}
use Rattle.mo_lookup.specs.declared.owning.Owned.{Owned}
use Rattle.mo_names.specs.declared.walk.Inherited.{Inherited as InheritedAt}
use Rattle.mo_lookup.specs.steps.Settled.{AreOwned, IsOwned}
use Rattle.mo_names.specs.Sights.{AreNames, AreThrough, IsBase, IsMember, frames_through, inherited_seen, IsInherited}
use Rattle.mo_names.specs.steps.Twins.{owned_by, owned_home, owned_inherited, owned_through, unowned}
use Rattle.mo_names.proofs.Later.{all_bases_later, all_inherited_later, are_bases_later, are_inherited_later, frame_later, grows_refl, grows_trans, is_frame_later}
use Rattle.mo_names.proofs.Reading.{at_element}

-- ---- one base

none_listed : (sources : Sources) → listed sources ≡ [] → No_source ≡ sources
none_listed No_source none = refl
none_listed (Source_then piece frame iterations others) none = absurd cc

pub owned_is : (around base : Frame) → is_top base ≡ false → sources_of base ≡ [] → In (class_of base) No_source (outer_of base) (at_of around) (owner_of_base around) ≡ owned_by around base
owned_is around Top inside none = absurd cc
owned_is around (In class sources outer at owner) inside none = ap (λ ss. In class ss outer (at_of around) (owner_of_base around)) (none_listed sources none)

is_owned_later : (u v : World) → Grows u v → (one : Owned) → IsOwned u one → IsOwned v one
is_owned_later u v g one is = record {
  around = is_frame_later u v one.around.0 g is.around;
  base = is_frame_later u v one.base.0 g is.base;
  frame = is_frame_later u v one.frame.0 g is.frame;
  is = frame_later u v one.frame.0 g is.frame ∙ is.is ∙ ap (λ f. owned_by f (frame_at u one.base.0)) (sym (frame_later u v one.around.0 g is.around)) ∙ ap (owned_by (frame_at v one.around.0)) (sym (frame_later u v one.base.0 g is.base));
}

pub are_owned_later : (u v : World) (made : List Owned) → Grows u v → AreOwned u made → AreOwned v made
are_owned_later u v made g are = every_weaker (IsOwned u) (IsOwned v) (is_owned_later u v g) made are

-- ---- base frames, from the outermost on

abbrev pub frames_at : World → List FrameId → List Frame
frames_at w frames = map (λ (frame : FrameId). frame_in (frames_of w) frame.0) frames

frames_at_later : (u v : World) (xs : List FrameId) → Grows u v → AreThrough u xs → frames_at v xs ≡ frames_at u xs
frames_at_later u v [] g are = refl
frames_at_later u v (x ∷ xs) g are =
    ap (λ (y : Frame). y ∷ frames_at v xs) (frame_later u v x.0 g are.0) ∙ ap (λ (ys : List Frame). frame_in (frames_of u) x.0 ∷ ys) (frames_at_later u v xs g are.1)

map_reverse : {A B : Type 0} (f : A → B) (xs : List A) → map f (reverse xs) ≡ reverse (map f xs)
map_reverse f [] = refl
map_reverse f (x ∷ xs) =
    ap (map f) (reverse-append (x ∷ []) xs) ∙ map-append f (reverse xs) (x ∷ []) ∙ ap (λ ys. ys ++ f x ∷ []) (map_reverse f xs) ∙ sym (reverse-append (f x ∷ []) (map f xs))

-- what is left of the base frames, the outermost at the end
left_of : (w : World) (old new : List FrameId) (base : FrameId) → old ≡ new ++ base ∷ [] → reverse (frames_at w old) ≡ frame_in (frames_of w) base.0 ∷ reverse (frames_at w new)
left_of w old new base is =
    ap (λ xs. reverse (frames_at w xs)) is ∙ ap reverse (map-append (λ (frame : FrameId). frame_in (frames_of w) frame.0) new (base ∷ []))
    ∙ reverse-append (frames_at w new) (frame_in (frames_of w) base.0 ∷ [])

-- one more base frame, as that of the one before
pub through_on : (first u v : World) (around next base : FrameId) (out old new : List FrameId) (all : List Frame) → Grows u v → AreThrough u out → old ≡ new ++ base ∷ [] →
    frame_at v next.0 ≡ owned_by (frame_at u around.0) (frame_at u base.0) → frame_at u base.0 ≡ frame_at first base.0 →
    (frames_at u out ++ owned_through (frame_at u around.0) (reverse (frames_at first old))) ≡ all →
    (frames_at v (out ++ next ∷ []) ++ owned_through (frame_at v next.0) (reverse (frames_at first new))) ≡ all
through_on first u v around next base out old new all g are is entered same rest =
    ap (λ xs. xs ++ owned_through (frame_at v next.0) (reverse (frames_at first new))) (map-append (λ (frame : FrameId). frame_in (frames_of v) frame.0) out (next ∷ []))
    ∙ ap (λ xs. (xs ++ frame_at v next.0 ∷ []) ++ owned_through (frame_at v next.0) (reverse (frames_at first new))) (frames_at_later u v out g are)
    ∙ append_assoc (frames_at u out) (frame_at v next.0 ∷ []) (owned_through (frame_at v next.0) (reverse (frames_at first new)))
    ∙ ap (λ (f : Frame). frames_at u out ++ f ∷ owned_through f (reverse (frames_at first new))) (entered ∙ ap (owned_by (frame_at u around.0)) same)
    ∙ ap (λ (xs : List Frame). frames_at u out ++ owned_through (frame_at u around.0) xs) (sym (left_of first old new base is))
    ∙ rest

pub home_on : (first u v : World) (around next base : FrameId) (old new : List FrameId) (all : Frame) → old ≡ new ++ base ∷ [] →
    frame_at v next.0 ≡ owned_by (frame_at u around.0) (frame_at u base.0) → frame_at u base.0 ≡ frame_at first base.0 →
    owned_home (frame_at u around.0) (reverse (frames_at first old)) ≡ all → owned_home (frame_at v next.0) (reverse (frames_at first new)) ≡ all
home_on first u v around next base old new all is entered same rest =
    ap (λ f. owned_home f (reverse (frames_at first new))) (entered ∙ ap (owned_by (frame_at u around.0)) same)
    ∙ ap (owned_home (frame_at u around.0)) (sym (left_of first old new base is)) ∙ rest

-- ---- some base frames, one after another

-- so far, those that are left having the outermost one at their end
pub record Owning (first now : World) (frame : ℕ) (all rest out : List FrameId) (around : ℕ) : Type 0 where
  pub grows : Grows first now
  pub left : AreThrough first rest
  pub stands : IsFrame now around
  pub made : AreThrough now out
  pub is : (frames_at now out ++ owned_through (frame_at now around) (reverse (frames_at first rest))) ≡ owned_through (frame_at first frame) (reverse (frames_at first all))
  pub home : owned_home (frame_at now around) (reverse (frames_at first rest)) ≡ owned_home (frame_at first frame) (reverse (frames_at first all))

front_of : (w : World) (new : List FrameId) (base : FrameId) → AreThrough w (new ++ base ∷ []) → AreThrough w new
front_of w [] base are = tt
front_of w (x ∷ new) base are = (are.0, front_of w new base are.1)

last_of : (w : World) (new : List FrameId) (base : FrameId) → AreThrough w (new ++ base ∷ []) → IsFrame w base.0
last_of w [] base are = are.0
last_of w (x ∷ new) base are = last_of w new base are.1

more_through : (u v : World) (out : List FrameId) (next : FrameId) → Grows u v → AreThrough u out → IsFrame v next.0 → AreThrough v (out ++ next ∷ [])
more_through u v [] next g are is = (is, tt)
more_through u v (x ∷ out) next g are is = (is_frame_later u v x.0 g are.0, more_through u v out next g are.1 is)

pub owning_begun : (w : World) (frame : ℕ) (all rest : List FrameId) → IsFrame w frame → AreThrough w all → rest ≡ all → Owning w w frame all rest [] frame
owning_begun w frame all rest exists are same = record {
  grows = grows_refl w;
  left = subst (AreThrough w) (sym same) are;
  stands = exists;
  made = tt;
  is = ap (λ xs. owned_through (frame_at w frame) (reverse (frames_at w xs))) same;
  home = ap (λ xs. owned_home (frame_at w frame) (reverse (frames_at w xs))) same;
}

pub owning_on : (first u v : World) (frame : ℕ) (all old new out : List FrameId) (around next base : FrameId) → Owning first u frame all old out around.0 → old ≡ new ++ base ∷ [] → Grows u v → IsFrame v next.0 →
    frame_at v next.0 ≡ owned_by (frame_at u around.0) (frame_at u base.0) → Owning first v frame all new (out ++ next ∷ []) next.0
owning_on first u v frame all old new out around next base so_far is g exists entered =
    let left : AreThrough first (new ++ base ∷ []) = subst (AreThrough first) is so_far.left in
    let same : frame_at u base.0 ≡ frame_at first base.0 = frame_later first u base.0 so_far.grows (last_of first new base left) in
    record {
      grows = grows_trans first u v so_far.grows g;
      left = front_of first new base left;
      stands = exists;
      made = more_through u v out next g so_far.made exists;
      is = through_on first u v around next base out old new _ g so_far.made is entered same so_far.is;
      home = home_on first u v around next base old new _ is entered same so_far.home;
    }

-- the base that is taken next exists
pub owning_base : (first u : World) (frame : ℕ) (all old new out : List FrameId) (around base : FrameId) → Owning first u frame all old out around.0 → old ≡ new ++ base ∷ [] → IsFrame u base.0
owning_base first u frame all old new out around base so_far is =
    is_frame_later first u base.0 so_far.grows (last_of first new base (subst (AreThrough first) is so_far.left))

through_turned : (w : World) (out : List FrameId) → frames_through (frames_of w) (reverse out) ≡ frames_at w out
through_turned w out = ap reverse (map_reverse (λ (frame : FrameId). frame_in (frames_of w) frame.0) out) ∙ reverse-reverse (frames_at w out)

-- where none is left
pub owning_done : (first now : World) (frame : ℕ) (all rest out : List FrameId) (around : ℕ) → Owning first now frame all rest out around → rest ≡ [] →
    frames_through (frames_of now) (reverse out) ≡ owned_through (frame_at first frame) (frames_through (frames_of first) all)
owning_done first now frame all rest out around so_far none =
    through_turned now out ∙ sym (append-nil (frames_at now out)) ∙ ap (λ xs. frames_at now out ++ owned_through (frame_at now around) (reverse (frames_at first xs))) (sym none) ∙ so_far.is

pub owning_home : (first now : World) (frame : ℕ) (all rest out : List FrameId) (around : ℕ) → Owning first now frame all rest out around → rest ≡ [] →
    frame_at now around ≡ owned_home (frame_at first frame) (frames_through (frames_of first) all)
owning_home first now frame all rest out around so_far none = ap (λ xs. owned_home (frame_at now around) (reverse (frames_at first xs))) (sym none) ∙ so_far.home

no_through : (f : Frame) (xs : List Frame) (x : Frame) {B : Type 0} → [] ≡ owned_through f (xs ++ x ∷ []) → B
no_through f [] x is = absurd cc
no_through f (y ∷ xs) x is = absurd cc

some_owned : (u v : World) (f : Frame) (base through : List FrameId) → 0 < length base → frames_through (frames_of v) through ≡ owned_through f (frames_through (frames_of u) base) → 0 < length through
some_owned u v f [] through some is = absurd (omega arith)
some_owned u v f (b ∷ base) (t ∷ through) some is = omega arith
some_owned u v f (b ∷ base) [] some is =
    no_through f (reverse (frames_at u base)) (frame_in (frames_of u) b.0) (is ∙ ap (owned_through f) (reverse-append (frame_in (frames_of u) b.0 ∷ []) (frames_at u base)))

pub is_base_owned : (u v : World) (f : Frame) (base through : List FrameId) → IsBase u base → AreThrough v through → frames_through (frames_of v) through ≡ owned_through f (frames_through (frames_of u) base) → IsBase v through
is_base_owned u v f base through is frames same = record { frames = frames; some = some_owned u v f base through is.some same }

-- ---- lists

-- the first that is left, and the others
pub next_of : {A : Type 0} (P : A → Type 0) (xs : List A) (i : ℕ) (x : A) → i < length xs → x ≡ get_or xs i x → Every P (drop i xs) → P x × Every P (drop (i + 1) xs)
next_of P xs i x below is every = subst (Every P) (at_element xs i x below is) every

-- one more that was made, of the first that was left
pub made_on : {A B C D : Type 0} (seen seen' : A → D) (g : C → D) (h : B → C) (made : List A) (xs : List B) (i : ℕ) (x : B) (y : A) (all : List D) → i < length xs → x ≡ get_or xs i x → seen' y ≡ g (h x) →
    map seen' made ≡ map seen made → (map seen made ++ map g (map h (drop i xs))) ≡ all → (map seen' (made ++ y ∷ []) ++ map g (map h (drop (i + 1) xs))) ≡ all
made_on seen seen' g h made xs i x y all below is one before rest =
    ap (λ ys. ys ++ map g (map h (drop (i + 1) xs))) (map-append seen' made (y ∷ []))
    ∙ ap (λ ys. (ys ++ seen' y ∷ []) ++ map g (map h (drop (i + 1) xs))) before
    ∙ append_assoc (map seen made) (seen' y ∷ []) (map g (map h (drop (i + 1) xs)))
    ∙ ap (λ z. map seen made ++ z ∷ map g (map h (drop (i + 1) xs))) one
    ∙ ap (λ ys. map seen made ++ map g (map h ys)) (sym (at_element xs i x below is))
    ∙ rest

-- where none is left
pub made_all : {A B C D : Type 0} (seen : A → D) (g : C → D) (h : B → C) (made : List A) (xs : List B) (i : ℕ) (all : List D) → length xs ≤ i → (map seen made ++ map g (map h (drop i xs))) ≡ all → map seen made ≡ all
made_all seen g h made xs i all past is = sym (append-nil (map seen made)) ∙ ap (λ ys. map seen made ++ map g (map h ys)) (sym (drop_all i xs past)) ∙ is

pub turned_through : (w : World) (xs : List FrameId) → AreThrough w xs → AreThrough w (reverse xs)
turned_through w [] are = tt
turned_through w (x ∷ xs) are =
    subst (AreThrough w) (sym (reverse-append (x ∷ []) xs)) (every_append (λ (frame : FrameId). IsFrame w frame.0) (reverse xs) (x ∷ []) (turned_through w xs are.1) (are.0, tt))

-- ---- elements

own_of_class : (table : Table) (home other : Frame) → class_of other ≡ class_of home → own_declared table other ≡ own_declared table home
own_of_class table home other same = by (row_at table (class_of home)) refl
  where
    by : (row : Option Row) → row_at table (class_of home) ≡ row → own_declared table other ≡ own_declared table home
    by None is = rw (same, is) refl
    by (Some row) is = rw (same, is) refl

-- an element whose home is another frame of one class
pub is_member_at : (w : World) (member : MemberAt) (home : FrameId) → IsMember w member → IsFrame w home.0 → class_of (frame_at w home.0) ≡ class_of (frame_at w member.home.0) →
    IsMember w (record { name = member.name; home = home; item = member.item; hidden = member.hidden; declares = member.declares })
is_member_at w member home is exists same = record {
  home = exists;
  class = is.class;
  own = record {
    declares = ap (λ ds. slice_get ds member.item) (own_of_class (table_in w) (frame_at w member.home.0) (frame_at w home.0) same) ∙ is.own.declares;
    name = is.own.name;
  };
}

abbrev pub name_of : InheritedAt → List ℕ
name_of inherited = inherited.member.name.now

-- the names of owned elements
pub owned_names : (w v : World) (frame : Frame) (held made : List InheritedAt) → map (inherited_seen (frames_of v)) made ≡ map (owned_inherited frame) (map (inherited_seen (frames_of w)) held) → map name_of made ≡ map name_of held
owned_names w v frame held made are = sym (names_at v made) ∙ ap (map (λ (i : Inherited). i.member.name)) are ∙ named held
  where
    names_at : (w : World) (xs : List InheritedAt) → map (λ (i : Inherited). i.member.name) (map (inherited_seen (frames_of w)) xs) ≡ map name_of xs
    names_at w [] = refl
    names_at w (x ∷ xs) = ap (λ ys. name_of x ∷ ys) (names_at w xs)

    named : (xs : List InheritedAt) → map (λ (i : Inherited). i.member.name) (map (owned_inherited frame) (map (inherited_seen (frames_of w)) xs)) ≡ map name_of xs
    named [] = refl
    named (x ∷ xs) = ap (λ ys. name_of x ∷ ys) (named xs)

-- the names of elements are the same where they are seen with the same names
pub same_names : (held made : List InheritedAt) (names : Names) → map name_of made ≡ map name_of held → AreNames held names → AreNames made names
same_names held made names same are name = are name ∙ sym (by_names held) ∙ ap (list_any (λ n. bytes_eq n name)) (sym same) ∙ by_names made
  where
    by_names : (xs : List InheritedAt) → list_any (λ n. bytes_eq n name) (map name_of xs) ≡ list_any (λ inherited. bytes_eq inherited.member.name.now name) xs
    by_names [] = refl
    by_names (x ∷ xs) = ap (λ (b : Bool). bytes_eq x.member.name.now name || b) (by_names xs)

pub owned_at : (w : World) (around : Frame) (n : ℕ) → IsFrame w n → sources_of (frame_at w n) ≡ [] →
    In (class_of (frame_at w n)) No_source (outer_of (frame_at w n)) (at_of around) (owner_of_base around) ≡ owned_by around (frame_at w n)
owned_at w around n exists none = owned_is around (frame_at w n) (is_no_top w n exists) none

pub one_more_owned : (u v : World) (made : List Owned) (one : Owned) → Grows u v → AreOwned u made → IsFrame u one.around.0 → IsFrame u one.base.0 → IsFrame v one.frame.0 →
    frame_at v one.frame.0 ≡ owned_by (frame_at u one.around.0) (frame_at u one.base.0) → AreOwned v (made ++ one ∷ [])
one_more_owned u v made one g are around base frame is =
    every_append (IsOwned v) made (one ∷ []) (are_owned_later u v made g are) (
      record {
        around = is_frame_later u v one.around.0 g around;
        base = is_frame_later u v one.base.0 g base;
        frame = frame;
        is = is ∙ ap (λ f. owned_by f (frame_at u one.base.0)) (sym (frame_later u v one.around.0 g around)) ∙ ap (owned_by (frame_at v one.around.0)) (sym (frame_later u v one.base.0 g base));
      },
      tt,
    )

-- the frame that differs from one without sources in path and owner alone
pub unowned_bare : (w : World) (n : ℕ) → IsFrame w n → sources_of (frame_at w n) ≡ [] → unowned (frame_at w n) ≡ looked_up (class_of (frame_at w n)) [] (outer_of (frame_at w n))
unowned_bare w n exists none = by (frame_at w n) (is_no_top w n exists) none
  where
    by : (f : Frame) → is_top f ≡ false → sources_of f ≡ [] → unowned f ≡ looked_up (class_of f) [] (outer_of f)
    by Top inside none = absurd cc
    by (In class sources outer at owner) inside none = ap (λ ss. In class ss outer None Top) (sym (none_listed sources none))

-- ---- answers

-- what holds of one of two answers that were joined
pub of_first : {A B E : Type 0} (first : Result A E) (second : Result B E) (r : Result (A × B) E) (P : A → Type 0) → IfOk r (λ pair. (first ≡ Ok pair.0) × (second ≡ Ok pair.1)) → IfOk first P → IfOk r (λ pair. P pair.0)
of_first first second (Ok made) P values holds = subst (λ w. IfOk w P) values.0 holds
of_first first second (Err e) P values holds = tt

pub of_second : {A B E : Type 0} (first : Result A E) (second : Result B E) (r : Result (A × B) E) (P : B → Type 0) → IfOk r (λ pair. (first ≡ Ok pair.0) × (second ≡ Ok pair.1)) → IfOk second P → IfOk r (λ pair. P pair.1)
of_second first second (Ok made) P values holds = subst (λ w. IfOk w P) values.1 holds
of_second first second (Err e) P values holds = tt

-- lists that were made, in the last world
pub members_last : {E : Type 0} (s u w : World) (n : ℕ) (held slice : List InheritedAt) (r : Result (List InheritedAt) E) → slice ≡ held → Grows u w →
    IfOk r (λ found. map (inherited_seen (frames_of u)) found ≡ map (owned_inherited (frame_at s n)) (map (inherited_seen (frames_of s)) slice)) → IfOk r (Every (IsInherited u)) →
    IfOk r (λ found. map (inherited_seen (frames_of w)) found ≡ map (owned_inherited (frame_at s n)) (map (inherited_seen (frames_of s)) held))
members_last s u w n held slice (Ok found) same g are exist =
    all_inherited_later u w found g exist ∙ are ∙ ap (λ xs. map (owned_inherited (frame_at s n)) (map (inherited_seen (frames_of s)) xs)) same
members_last s u w n held slice (Err e) same g are exist = tt

pub members_stand : {E : Type 0} (u w : World) (r : Result (List InheritedAt) E) → Grows u w → IfOk r (Every (IsInherited u)) → IfOk r (Every (IsInherited w))
members_stand u w (Ok found) g exist = are_inherited_later u w found g exist
members_stand u w (Err e) g exist = tt

pub bases_last : {E : Type 0} (s u v w : World) (n : ℕ) (bases slice : List (List FrameId)) (r : Result (List (List FrameId)) E) → slice ≡ bases → Grows s u → Grows v w → IsFrame s n → Every (IsBase s) bases →
    IfOk r (λ found. map (frames_through (frames_of v)) found ≡ map (owned_through (frame_at u n)) (map (frames_through (frames_of u)) slice)) → IfOk r (Every (IsBase v)) →
    IfOk r (λ found. map (frames_through (frames_of w)) found ≡ map (owned_through (frame_at s n)) (map (frames_through (frames_of s)) bases))
bases_last s u v w n bases slice (Ok found) same before after at stand are exist =
    all_bases_later v w found after exist ∙ are ∙ ap (λ xs. map (owned_through (frame_at u n)) (map (frames_through (frames_of u)) xs)) same
    ∙ ap (λ f. map (owned_through f) (map (frames_through (frames_of u)) bases)) (frame_later s u n before at)
    ∙ ap (map (owned_through (frame_at s n))) (all_bases_later s u bases before stand)
bases_last s u v w n bases slice (Err e) same before after at stand are exist = tt

pub bases_stand : {E : Type 0} (u w : World) (r : Result (List (List FrameId)) E) → Grows u w → IfOk r (Every (IsBase u)) → IfOk r (Every (IsBase w))
bases_stand u w (Ok found) g exist = are_bases_later u w found g exist
bases_stand u w (Err e) g exist = tt

-- an element by its home and its base frames, a walk by its parts
abbrev pub element_at : Member → Frame → List Frame → Inherited
element_at member home through = record { member = record { name = member.name; home = home; item = member.item; hidden = member.hidden; declares = member.declares }; through = through }

pub same_element : (member : Member) (home home' : Frame) (through through' : List Frame) → home ≡ home' → through ≡ through' → element_at member home through ≡ element_at member home' through'
same_element member home home' through through' is are = ap (λ f. element_at member f through) is ∙ ap (element_at member home') are

abbrev pub walk_of : List Inherited → List (List Frame) → List (List Frame) → Walked
walk_of members bases sections = record { members = members; bases = bases; sections = sections; leaf = None }

pub same_walk : (a a' : List Inherited) (b b' c c' : List (List Frame)) → a ≡ a' → b ≡ b' → c ≡ c' → walk_of a b c ≡ walk_of a' b' c'
same_walk a a' b b' c c' x y z = ap (λ xs. walk_of xs b c) x ∙ ap (λ xs. walk_of a' xs c) y ∙ ap (walk_of a' b') z

pub ruleset owned_walks = (owned_at, one_more_owned, are_owned_later)

pub ruleset through_steps = (owning_begun, owning_on, owning_base, owning_done, owning_home, are_owned_later)

pub ruleset list_steps = (made_on, is_base_owned, are_owned_later, are_inherited_later, all_inherited_later, are_bases_later, all_bases_later)

pub ruleset element_steps = (is_member_at, are_owned_later)

pub ruleset walk_steps = (same_names, owned_names, are_owned_later, are_inherited_later, all_inherited_later, are_bases_later, all_bases_later)
