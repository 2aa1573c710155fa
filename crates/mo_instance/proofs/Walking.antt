-- The walk over components, one step after another.
use Rattle.std.proofs.Common.{◌≡◌, ℕ, zero, suc, ◌+◌, ◌-◌, ◌<◌, ◌≤◌, Bool, true, false, List, [], ◌∷◌, ◌++◌, length, map, flat_map, drop, get_or, Option, Ok, Err, refl, ap, sym, subst, ◌∙◌, arith, append_assoc}
use Rattle.std.specs.Prelude.{if◌then◌else◌, nat_eq}
use Rattle.std.specs.List.{list_any}
use Rattle.std.proofs.lemmas.List.{map-append}
use Rattle.std.proofs.lemmas.Grind.{flat_map-append}
use Rattle.mo_syntax.specs.Outcome.{Outcome, and_then, breaks}
use Rattle.mo_syntax.specs.declared.place.Broken.{Broken}
use Rattle.mo_syntax.specs.declared.place.Place.{Place}
use Rattle.mo_scope.specs.Rows.{Table, is_class}
use Rattle.mo_scope.specs.Frames.{Frame, Member}
use Rattle.mo_scope.specs.Lookup.{Walked}
use Rattle.mo_scope.specs.Names.{Child, child_of_member, component_frame}
use Rattle.mo_scope.specs.Compatible.{prefix_of}
use Rattle.mo_scope.specs.Instances.{Instance, Leaf}
use Rattle.mo_scope.specs.Redeclarations.{Checked}
use Rattle.mo_scope.specs.Worlds.{World, Grows, frames_of, table_in}
use Rattle.mo_scope.specs.declared.row.Member.{Member as MemberAt}
use Rattle.mo_names.specs.declared.walk.Inherited.{Inherited as InheritedAt}
use Rattle.mo_names.specs.Sights.{IsMember, inherited_seen, member_of}
use Rattle.mo_names.proofs.Later.{member_later, table_later}
use Rattle.mo_syntax.specs.declared.rules.TheConstants.{INSTANCE_TOO_DEEP}
use Rattle.mo_typing.specs.Dims.{Dims}
use Rattle.mo_typing.proofs.Empty.{no_indices}
use Rattle.mo_typing.specs.Indices.{Index, indices, numbers_to}
use Rattle.mo_eval.specs.Values.{most_references, there_of, component_dims}
use Rattle.mo_instance.specs.Checks.{type_checked}
use Rattle.mo_instance.specs.Prefixes.{prefix_in_profile}
use Rattle.mo_instance.specs.Outer.{outer_checked}
use Rattle.mo_instance.specs.Elements.{Around, around_parts, class_place, leaf_of, instance_of, room_for_one}
use Rattle.mo_instance.specs.Instances.{Adding, Parts, Deeper, adding_each, component_entered, deeper, element_entered, entered_by, member_entered, parts_entered}
use Rattle.mo_instance.specs.steps.Instances.{component_asked, element_frame, element_in_frame, element_made, elements_to, elements_under, instance_at, is_entered, members_added}

-- ---- adding one after another

pub adding_append : {A : Type 0} (add : A → Adding) (xs ys : List A) (so_far : List Instance) →
    adding_each add (xs ++ ys) so_far ≡ and_then (adding_each add xs so_far) (adding_each add ys)
adding_append add [] ys so_far = refl
adding_append add (x ∷ xs) ys so_far = by (add x so_far) (λ more. adding_append add xs ys more)
  where
    by : (o : Outcome (List Instance)) → ((more : List Instance) → adding_each add (xs ++ ys) more ≡ and_then (adding_each add xs more) (adding_each add ys)) →
        and_then o (adding_each add (xs ++ ys)) ≡ and_then (and_then o (adding_each add xs)) (adding_each add ys)
    by (Ok more) rest = rest more
    by (Err b) rest = refl

-- ---- one element of a frame

pub member_is : (table : Table) (deep : Deeper) (around : Around) (member : Member) (so_far : List Instance) →
    and_then (is_entered table member) (λ is. if is then component_entered table deep around member so_far else Ok so_far)
    ≡ member_entered table deep around member so_far
member_is table deep around member so_far = by (is_class member.declares) member.declares.flags.outer (outer_checked table member)
  where
    by : (class outer : Bool) (checked : Checked) →
        and_then (if class then Ok false else (if outer then and_then checked (λ _. Ok false) else there_of table most_references member))
        (λ is. if is then component_entered table deep around member so_far else Ok so_far)
        ≡ (if class then Ok so_far else
        (if outer then and_then checked (λ _. Ok so_far) else
        and_then (there_of table most_references member) (λ is. if is then component_entered table deep around member so_far else Ok so_far)))
    by true outer checked = refl
    by false true (Ok u) = refl
    by false true (Err b) = refl
    by false false checked = refl

-- ---- one component

abbrev pub elements_of : Table → Deeper → Member → Around × Dims → Adding
elements_of table deep member asked so_far =
    and_then (deep member.declares.place) (λ parts. adding_each (element_entered table parts asked.0 member asked.1) (indices asked.1) so_far)

pub component_is : (table : Table) (deep : Deeper) (around : Around) (member : Member) (so_far : List Instance) →
    and_then (component_asked table around member) (λ asked. elements_of table deep member asked so_far) ≡ component_entered table deep around member so_far
component_is table deep around member so_far =
    by (prefix_in_profile member.declares.place (prefix_of table member)) (child_of_member table member []) (component_dims table most_references member)
  where
    by : (a : Checked) (b : Outcome Child) (c : Outcome Dims) →
        and_then (and_then a (λ _. and_then b (λ child. and_then c (λ dims. Ok (around_parts table around member child.class, dims))))) (λ asked. elements_of table deep member asked so_far)
        ≡ and_then a (λ _. and_then b (λ child. and_then c (λ dims. elements_of table deep member (around_parts table around member child.class, dims) so_far)))
    by (Err x) b c = refl
    by (Ok u) (Err x) c = refl
    by (Ok u) (Ok child) (Err x) = refl
    by (Ok u) (Ok child) (Ok dims) = refl

pub deeper_none : (table : Table) (left : ℕ) (place : Place) → left ≡ 0 → deeper table left place ≡ breaks INSTANCE_TOO_DEEP place
unfolding deeper
deeper_none table zero place none = refl
deeper_none table (suc left) place none = absurd (omega (arith, none))

pub deeper_some : (table : Table) (left : ℕ) (place : Place) → 0 < left → deeper table left place ≡ Ok (parts_entered table (deeper table (left - 1)))
unfolding deeper
deeper_some table zero place some = absurd (omega (arith, some))
deeper_some table (suc left) place some = ap (λ n. Ok (parts_entered table (deeper table n))) less
  where
    less : left ≡ suc left - 1
    less = omega arith

-- a component that is asked, where no more names are left
pub no_depth : (table : Table) (left : ℕ) (around : Around) (member : Member) (so_far : List Instance) (asked : Around × Dims) →
    component_asked table around member ≡ Ok asked → left ≡ 0 → component_entered table (deeper table left) around member so_far ≡ breaks INSTANCE_TOO_DEEP member.declares.place
no_depth table left around member so_far asked is none =
    sym (component_is table (deeper table left) around member so_far)
    ∙ ap (λ o. and_then o (λ asked. elements_of table (deeper table left) member asked so_far)) is
    ∙ ap (λ o. and_then o (λ parts. adding_each (element_entered table parts asked.0 member asked.1) (indices asked.1) so_far)) (deeper_none table left member.declares.place none)

pub some_depth : (table : Table) (left : ℕ) (around : Around) (member : Member) (so_far : List Instance) (asked : Around × Dims) →
    component_asked table around member ≡ Ok asked → 0 < left →
    adding_each (element_entered table (parts_entered table (deeper table (left - 1))) asked.0 member asked.1) (indices asked.1) so_far ≡ component_entered table (deeper table left) around member so_far
some_depth table left around member so_far asked is some =
    sym (
    sym (component_is table (deeper table left) around member so_far)
    ∙ ap (λ o. and_then o (λ asked. elements_of table (deeper table left) member asked so_far)) is
    ∙ ap (λ o. and_then o (λ parts. adding_each (element_entered table parts asked.0 member asked.1) (indices asked.1) so_far)) (deeper_some table left member.declares.place some)
    )

-- ---- indices

-- where all numbers are there
pub whole_index : (before : Index) (dims : Dims) → length dims ≤ length before → map (λ index. before ++ index) (indices (drop (length before) dims)) ≡ before ∷ []
whole_index before dims all = ap (λ ds. map (λ index. before ++ index) (indices ds)) (drop_past (length before) dims all) ∙ ap (λ (i : Index). i ∷ []) (nothing_behind before)
  where
    drop_past : (n : ℕ) (xs : List ℕ) → length xs ≤ n → drop n xs ≡ []
    drop_past zero [] h = refl
    drop_past zero (x ∷ xs) h = absurd (omega (arith, h))
    drop_past (suc n) [] h = refl
    drop_past (suc n) (x ∷ xs) h = drop_past n xs (omega (arith, h))

    nothing_behind : (xs : List ℕ) → xs ++ [] ≡ xs
    nothing_behind [] = refl
    nothing_behind (x ∷ xs) = ap (λ ys. x ∷ ys) (nothing_behind xs)

put_behind : (before : Index) (k : ℕ) (is : List Index) →
    map (λ index. before ++ index) (map (λ index. k ∷ index) is) ≡ map (λ index. (before ++ k ∷ []) ++ index) is
put_behind before k [] = refl
put_behind before k (i ∷ is) =
    ap (λ (x : Index). x ∷ map (λ index. before ++ index) (map (λ index. k ∷ index) is)) (sym (append_assoc before (k ∷ []) i))
    ∙ ap (λ (xs : List Index). ((before ++ k ∷ []) ++ i) ∷ xs) (put_behind before k is)

map_gathered : (f : Index → Index) (g : ℕ → List Index) (ns : List ℕ) → map f (flat_map g ns) ≡ flat_map (λ k. map f (g k)) ns
map_gathered f g [] = refl
map_gathered f g (n ∷ ns) = map-append f (g n) (flat_map g ns) ∙ ap (λ xs. map f (g n) ++ xs) (map_gathered f g ns)

drop_at : (xs : List ℕ) (i : ℕ) (x : ℕ) → i < length xs → x ≡ get_or xs i x → drop i xs ≡ x ∷ drop (suc i) xs
drop_at [] i x below is = absurd (omega (arith, below))
drop_at (y ∷ xs) zero x below is = ap (λ (z : ℕ). z ∷ xs) (sym is)
drop_at (y ∷ xs) (suc i) x below is = drop_at xs i x (omega (arith, below)) is

module _ (table : Table) (parts : Parts) (around : Around) (member : Member) (dims : Dims) (before : Index) where
  abbrev add : Index → Adding
  add = element_entered table parts around member dims

  abbrev with_next : ℕ → List Index
  with_next k = map (λ index. before ++ index) (map (λ index. k ∷ index) (indices (drop (suc (length before)) dims)))

  next_added : (n : ℕ) (so_far : List Instance) →
      elements_to table parts around member dims before (suc n) so_far
      ≡ and_then (elements_to table parts around member dims before n so_far)
      (elements_under table parts around member dims (before ++ suc n ∷ []) (drop (length (before ++ suc n ∷ [])) dims))
  next_added n so_far =
      ap (λ (is : List Index). adding_each add is so_far) (flat_map-append with_next (numbers_to n) (suc n ∷ []) ∙ ap (λ (is : List Index). flat_map with_next (numbers_to n) ++ is) last)
      ∙ adding_append add (flat_map with_next (numbers_to n)) (map (λ index. (before ++ suc n ∷ []) ++ index) (indices (drop (length (before ++ suc n ∷ [])) dims))) so_far
    where
      nothing_behind : (xs : List Index) → xs ++ [] ≡ xs
      nothing_behind [] = refl
      nothing_behind (x ∷ xs) = ap (λ ys. x ∷ ys) (nothing_behind xs)

      one_longer : (xs : List ℕ) → length (xs ++ suc n ∷ []) ≡ suc (length xs)
      one_longer [] = refl
      one_longer (x ∷ xs) = ap (λ m. suc m) (one_longer xs)

      last : flat_map with_next (suc n ∷ []) ≡ map (λ index. (before ++ suc n ∷ []) ++ index) (indices (drop (length (before ++ suc n ∷ [])) dims))
      last =
          nothing_behind (with_next (suc n)) ∙ put_behind before (suc n) (indices (drop (suc (length before)) dims))
          ∙ ap (λ m. map (λ index. (before ++ suc n ∷ []) ++ index) (indices (drop m dims))) (sym (one_longer before))

  -- one number more
  pub elements_next : (n : ℕ) (so_far : List Instance) →
      elements_to table parts around member dims before (n + 1) so_far
      ≡ and_then (elements_to table parts around member dims before n so_far)
      (elements_under table parts around member dims (before ++ (n + 1) ∷ []) (drop (length (before ++ (n + 1) ∷ [])) dims))
  elements_next n so_far =
      let one : suc n ≡ n + 1 = omega arith in
      subst (λ k. elements_to table parts around member dims before k so_far
      ≡ and_then (elements_to table parts around member dims before n so_far) (elements_under table parts around member dims (before ++ k ∷ []) (drop (length (before ++ k ∷ [])) dims)))
      one (next_added n so_far)

  -- what is broken on the way is broken
  pub elements_err : (n m : ℕ) (so_far : List Instance) (b : Broken) → n ≤ m →
      elements_to table parts around member dims before n so_far ≡ Err b → elements_to table parts around member dims before m so_far ≡ Err b
  elements_err n m so_far b below is = further (m - n) m (omega (arith, below))
    where
      further : (d k : ℕ) → k ≡ n + d → elements_to table parts around member dims before k so_far ≡ Err b
      further zero k at = let same : k ≡ n = omega (arith, at) in ap (λ k. elements_to table parts around member dims before k so_far) same ∙ is
      further (suc d) zero at = absurd (omega (arith, at))
      further (suc d) (suc k) at =
          next_added k so_far
          ∙ ap (λ o. and_then o (elements_under table parts around member dims (before ++ suc k ∷ []) (drop (length (before ++ suc k ∷ [])) dims)))
          (further d k (omega (arith, at)))

  -- all numbers of a dimension
  pub elements_all : (n : ℕ) (so_far : List Instance) → length before < length dims → n ≡ get_or dims (length before) n →
      elements_to table parts around member dims before n so_far ≡ elements_under table parts around member dims before (drop (length before) dims) so_far
  elements_all n so_far below at =
      let is : drop (length before) dims ≡ n ∷ drop (suc (length before)) dims = drop_at dims (length before) n below at in
      ap (λ (is : List Index). adding_each add is so_far) (sym (map_gathered (λ index. before ++ index) (λ k. map (λ index. k ∷ index) (indices (drop (suc (length before)) dims))) (numbers_to n)))
      ∙ ap (λ ds. adding_each add (map (λ index. before ++ index) (indices ds)) so_far) (sym is)

-- ---- one element

pub element_is : (table : Table) (parts : Parts) (around : Around) (member : Member) (dims : Dims) (index : Index) (so_far : List Instance) →
    and_then (element_made table around member dims index (length so_far)) (λ made. parts around made.1 (so_far ++ made.0 ∷ []))
    ≡ element_entered table parts around member dims index so_far
element_is table parts around member dims index so_far = by_room (room_for_one around.asked so_far)
  where
    by_leaf : (frame : Frame) (walked : Walked) (leaf : Outcome (Option Leaf)) →
        and_then {A = Instance × Walked} (and_then {A = Instance} {B = Instance × Walked} (and_then leaf (λ leaf. Ok (instance_of member dims frame leaf))) (λ instance. Ok (instance, walked))) (λ made. parts around made.1 (so_far ++ made.0 ∷ []))
        ≡ and_then leaf (λ leaf. parts around walked (so_far ++ instance_of member dims frame leaf ∷ []))
    by_leaf frame walked (Ok leaf) = refl
    by_leaf frame walked (Err b) = refl

    by_frame : (frame : Frame) (checked : Outcome Walked) →
        and_then {A = Instance × Walked} (and_then checked (λ walked. and_then {A = Instance} {B = Instance × Walked} (instance_at table around member dims frame walked) (λ instance. Ok (instance, walked)))) (λ made. parts around made.1 (so_far ++ made.0 ∷ []))
        ≡ and_then checked (λ walked. entered_by table parts around member dims frame walked so_far)
    by_frame frame (Ok walked) = by_leaf frame walked (leaf_of table around member frame walked)
    by_frame frame (Err b) = refl

    by_child : (child : Outcome Child) →
        and_then {A = Instance × Walked} (and_then {A = Place × Frame} (and_then {A = Child} {B = Place × Frame} child (λ child. Ok (class_place member child.redeclared, component_frame member index child))) (λ at. element_in_frame table around member dims at.0 at.1))
        (λ made. parts around made.1 (so_far ++ made.0 ∷ []))
        ≡ and_then child (λ child.
        and_then (type_checked table (class_place member child.redeclared) (component_frame member index child)) (λ walked.
        entered_by table parts around member dims (component_frame member index child) walked so_far))
    by_child (Ok child) = by_frame (component_frame member index child) (type_checked table (class_place member child.redeclared) (component_frame member index child))
    by_child (Err b) = refl

    by_room : (room : Checked) →
        and_then (and_then room (λ _. and_then (element_frame table member index) (λ at. element_in_frame table around member dims at.0 at.1))) (λ made. parts around made.1 (so_far ++ made.0 ∷ []))
        ≡ and_then room (λ _.
        and_then (child_of_member table member index) (λ child.
        and_then (type_checked table (class_place member child.redeclared) (component_frame member index child)) (λ walked.
        entered_by table parts around member dims (component_frame member index child) walked so_far)))
    by_room (Ok u) = by_child (child_of_member table member index)
    by_room (Err b) = refl

-- an element whose index is whole
pub under_whole : (table : Table) (parts : Parts) (around : Around) (member : Member) (dims : Dims) (before : Index) (so_far : List Instance) → length dims ≤ length before →
    element_entered table parts around member dims before so_far ≡ elements_under table parts around member dims before (drop (length before) dims) so_far
under_whole table parts around member dims before so_far all =
    sym (and_ok (element_entered table parts around member dims before so_far))
    ∙ ap (λ (is : List Index). adding_each (element_entered table parts around member dims) is so_far) (sym (whole_index before dims all))
  where
    and_ok : (o : Outcome (List Instance)) → and_then o (λ more. Ok more) ≡ o
    and_ok (Ok more) = refl
    and_ok (Err b) = refl

-- all elements of a component
pub under_all : (table : Table) (parts : Parts) (around : Around) (member : Member) (dims : Dims) (so_far : List Instance) →
    elements_under table parts around member dims [] dims so_far ≡ adding_each (element_entered table parts around member dims) (indices dims) so_far
under_all table parts around member dims so_far = ap (λ (is : List Index). adding_each (element_entered table parts around member dims) is so_far) (same (indices dims))
  where
    same : (is : List Index) → map (λ index. [] ++ index) is ≡ is
    same [] = refl
    same (i ∷ is) = ap (λ js. i ∷ js) (same is)

pub none_added : (table : Table) (parts : Parts) (around : Around) (member : Member) (dims : Dims) (so_far : List Instance) → list_any (λ n. nat_eq n 0) dims ≡ true →
    adding_each (element_entered table parts around member dims) (indices dims) so_far ≡ Ok so_far
none_added table parts around member dims so_far none = ap (λ (is : List Index). adding_each (element_entered table parts around member dims) is so_far) (no_indices dims none)

-- ---- in later worlds

pub member_before : (u v : World) (left : ℕ) (around : Around) (m : MemberAt) (so_far : List Instance) → Grows u v → IsMember u m →
    member_entered (table_in v) (deeper (table_in v) left) around (member_of (frames_of v) m) so_far ≡ member_entered (table_in u) (deeper (table_in u) left) around (member_of (frames_of u) m) so_far
member_before u v left around m so_far g is =
    ap (λ (t : Table). member_entered t (deeper t left) around (member_of (frames_of v) m) so_far) (table_later u v g)
    ∙ ap (λ (x : Member). member_entered (table_in u) (deeper (table_in u) left) around x so_far) (member_later u v m g is)

pub component_before : (u v : World) (left : ℕ) (around : Around) (m : MemberAt) (so_far : List Instance) → Grows u v → IsMember u m →
    component_entered (table_in v) (deeper (table_in v) left) around (member_of (frames_of v) m) so_far ≡ component_entered (table_in u) (deeper (table_in u) left) around (member_of (frames_of u) m) so_far
component_before u v left around m so_far g is =
    ap (λ (t : Table). component_entered t (deeper t left) around (member_of (frames_of v) m) so_far) (table_later u v g)
    ∙ ap (λ (x : Member). component_entered (table_in u) (deeper (table_in u) left) around x so_far) (member_later u v m g is)

pub under_before : (u v : World) (left : ℕ) (around : Around) (m : MemberAt) (dims : Dims) (before : Index) (behind : Dims) (so_far : List Instance) → Grows u v → IsMember u m →
    elements_under (table_in v) (parts_entered (table_in v) (deeper (table_in v) left)) around (member_of (frames_of v) m) dims before behind so_far
    ≡ elements_under (table_in u) (parts_entered (table_in u) (deeper (table_in u) left)) around (member_of (frames_of u) m) dims before behind so_far
under_before u v left around m dims before behind so_far g is =
    ap (λ (t : Table). elements_under t (parts_entered t (deeper t left)) around (member_of (frames_of v) m) dims before behind so_far) (table_later u v g)
    ∙ ap (λ (x : Member). elements_under (table_in u) (parts_entered (table_in u) (deeper (table_in u) left)) around x dims before behind so_far) (member_later u v m g is)

pub members_before : (u v : World) (left : ℕ) (around : Around) (ms : List InheritedAt) (so_far : List Instance) → Grows u v →
    members_added (table_in v) left around (map (inherited_seen (frames_of v)) ms) so_far ≡ members_added (table_in u) left around (map (inherited_seen (frames_of v)) ms) so_far
members_before u v left around ms so_far g = ap (λ (t : Table). members_added t left around (map (inherited_seen (frames_of v)) ms) so_far) (table_later u v g)
