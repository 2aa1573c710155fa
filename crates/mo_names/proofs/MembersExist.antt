-- The classes that the elements of a frame declare exist, and each element is one that the class of its home declares itself.
use Rattle.std.proofs.Common.{◌≡◌, ℕ, zero, suc, ◌+◌, ◌<◌, Bool, List, [], ◌∷◌, map, Option, Some, None, Ok, Err, refl, ap, sym, subst, ◌∙◌, arith}
use Rattle.std.specs.Prelude.{find, slice_get}
use Rattle.std.specs.List.{list_any}
use Rattle.std.specs.Str.{bytes_eq}
use Rattle.mo_syntax.specs.Outcome.{Outcome}
use Rattle.mo_syntax.specs.declared.class.FileTree.{FileTree}
use Rattle.mo_syntax.specs.declared.place.Place.{Place}
use Rattle.mo_scope.specs.declared.row.Member.{Member as MemberAt}
use Rattle.mo_scope.specs.Own.{IsOwnElement, own_declared}
use Rattle.mo_scope.specs.Rows.{Table, Row, Declares, row_at, table_of, Part, Element_of, Base_of, class_number, elements_in, number_of_classes, is_left_out}
use Rattle.mo_scope.specs.Frames.{Frame, Member, class_of}
use Rattle.mo_scope.specs.Lookup.{Inherited, Walked, Asking, base_of, contains, hidden_if, last_place, leaf_checked, leaf_of, not_counted, nothing_walked, through_base, walked, walked_class, walked_parts, with_base, with_busy, with_member, with_members}
use Rattle.mo_scope.specs.Names.{elements_of, walk_of}
use Rattle.mo_scope.specs.Places.{Every, IfAny, Answers}
use Rattle.mo_scope.specs.Sights.{member_seen}
use Rattle.mo_scope.specs.Worlds.{World, MemberEntry, AreHomes, IsFrame, PartsExist, frames_of, member_in, table_in}
use Rattle.mo_scope.proofs.RowsFound.{row_parts_exist}
use Rattle.mo_scope.proofs.laws.Standing.{any_find, every_append, every_map, every_weaker, if_answers, if_list, then_answers}
use Rattle.mo_names.specs.Sights.{IsMember}

abbrev Anywhere : Place → Type 0
Anywhere place = Unit {0}

abbrev Anything : {A : Type 0} → A → Type 0
Anything value = Unit {0}

any_answer : {A : Type 0} (o : Outcome A) → Answers Anywhere (λ (a : A). Unit {0}) o
any_answer (Ok value) = record { holds = tt }
any_answer (Err broken) = record { holds = tt }

-- the class that an element declares exists, and the element is one that the class of its home declares itself
abbrev pub Stands : Table → Member → Type 0
Stands table member = (class_number member.declares < number_of_classes table) × IsOwnElement table member

abbrev Declared : Table → Inherited → Type 0
Declared table inherited = Stands table inherited.member

abbrev AllDeclared : Table → Walked → Type 0
AllDeclared table walked = Every (Declared table) walked.members

declared_behind : (table : Table) (hidden : Bool) (base : Frame) (inherited : Inherited) → Declared table inherited → Declared table (hidden_if hidden (through_base base inherited))
declared_behind table hidden base inherited h = (h.0, record { declares = h.1.declares; name = h.1.name })

module _ (table : Table) where
  with_member_exists : (inherited : Inherited) (so_far : Walked) → Declared table inherited → AllDeclared table so_far → Answers Anywhere (AllDeclared table) (with_member inherited so_far)
  with_member_exists inherited so_far h hs =
      if_answers Anywhere (AllDeclared table) (list_any (λ other. bytes_eq other.member.name inherited.member.name) so_far.members) _ _
      (record { holds = tt })
      (record { holds = every_append (Declared table) so_far.members (inherited ∷ []) hs (h, tt) })

  with_members_exist : (members : List Inherited) (so_far : Walked) → Every (Declared table) members → AllDeclared table so_far → Answers Anywhere (AllDeclared table) (with_members members so_far)
  with_members_exist [] so_far h hs = record { holds = hs }
  with_members_exist (inherited ∷ others) so_far h hs =
      then_answers Anywhere (AllDeclared table) (AllDeclared table) (with_member inherited so_far) _ (with_member_exists inherited so_far h.0 hs)
      (λ walked hw. with_members_exist others walked h.1 hw)

  not_counted_exist : (is : Inherited → Bool) (members : List Inherited) → Every (Declared table) members → Every (Declared table) (not_counted is members)
  not_counted_exist is [] h = tt
  not_counted_exist is (x ∷ xs) h =
      if_list (Declared table) (is x) (not_counted is xs) (x ∷ not_counted is xs) (not_counted_exist is xs h.1) (h.0, not_counted_exist is xs h.1)

  with_base_exists : (hidden : Bool) (base : Frame) (walked so_far : Walked) → AllDeclared table walked → AllDeclared table so_far → Answers Anywhere (AllDeclared table) (with_base hidden base walked so_far)
  with_base_exists hidden base walked so_far hw hs =
      with_members_exist _ _
      (not_counted_exist _ _ (every_map (Declared table) (λ inherited. hidden_if hidden (through_base base inherited)) walked.members
      (every_weaker (Declared table) _ (declared_behind table hidden base) walked.members hw)))
      hs

  abbrev AskingExists : Asking → Type 0
  AskingExists asking = (place : Place) (frame : Frame) → Answers Anywhere (AllDeclared table) (asking.elements place frame)

  leaf_checked_exists : (walked : Walked) → AllDeclared table walked → Answers Anywhere (AllDeclared table) (leaf_checked walked)
  leaf_checked_exists walked h = by walked.leaf walked.members refl refl
    where
      by : (leaf : Option Frame) (members : List Inherited) → walked.leaf ≡ leaf → walked.members ≡ members → Answers Anywhere (AllDeclared table) (leaf_checked walked)
      by (Some leaf) (inherited ∷ others) is have = rw (is, have) (record { holds = tt })
      by (Some leaf) [] is have = rw (is, have) (record { holds = tt })
      by None members is have = rw is (record { holds = h })

-- ---- the elements that a class declares itself, from a number on

own_here : (all : List Declares) (item : ℕ) (left : List Declares) (declares : Declares) → ((n : ℕ) → slice_get left n ≡ slice_get all (item + n)) → slice_get left 0 ≡ Some declares → slice_get all item ≡ Some declares
own_here all item left declares own first =
    let here : item ≡ item + 0 = omega arith in
    ap (slice_get all) here ∙ sym (own 0) ∙ first

own_further : (all : List Declares) (item : ℕ) (declares : Declares) (left : List Declares) → ((n : ℕ) → slice_get (declares ∷ left) n ≡ slice_get all (item + n)) → (n : ℕ) → slice_get left n ≡ slice_get all ((item + 1) + n)
own_further all item declares left own n =
    let next : item + suc n ≡ (item + 1) + n = omega arith in
    own (suc n) ∙ ap (slice_get all) next

own_row : (table : Table) (frame : Frame) (row : Row) → row_at table (class_of frame) ≡ Some row → (n : ℕ) → slice_get (elements_in row.parts) n ≡ slice_get (own_declared table frame) (0 + n)
own_row table frame row at n =
    let same : n ≡ 0 + n = omega arith in
    ap (λ (ds : List Declares). slice_get ds n) (own_is table frame row at) ∙ ap (slice_get (own_declared table frame)) same
  where
    own_is : (table : Table) (frame : Frame) (row : Row) → row_at table (class_of frame) ≡ Some row → elements_in row.parts ≡ own_declared table frame
    own_is table frame row e = rw e refl

module _ (files : List FileTree) where
  walked_parts_exist : (asking : Asking) (frame : Frame) (row : Row) (item : ℕ) (parts : List Part) (so_far : Walked) → AskingExists (table_of files) asking →
      PartsExist (number_of_classes (table_of files)) parts → ((n : ℕ) → slice_get (elements_in parts) n ≡ slice_get (own_declared (table_of files) frame) (item + n)) → AllDeclared (table_of files) so_far →
      Answers Anywhere (AllDeclared (table_of files)) (walked_parts (table_of files) asking frame row item parts so_far)
  walked_parts_exist asking frame row item [] so_far ha h own hs = record { holds = hs }
  walked_parts_exist asking frame row item (Element_of declares ∷ parts) so_far ha h own hs =
      then_answers Anywhere (AllDeclared (table_of files)) (AllDeclared (table_of files)) (with_member _ so_far) _
      (with_member_exists (table_of files) _ so_far (h zero declares refl, record { declares = own_here (own_declared (table_of files) frame) item (elements_in (Element_of declares ∷ parts)) declares own refl; name = refl }) hs)
      (λ walked hw. walked_parts_exist asking frame row (item + 1) parts walked ha (λ k d at. h (suc k) d at) (own_further (own_declared (table_of files) frame) item declares (elements_in parts) own) hw)
  walked_parts_exist asking frame row item (Base_of clause ∷ parts) so_far ha h own hs =
      then_answers Anywhere (λ (f : Frame). Unit {0}) (AllDeclared (table_of files)) (base_of (table_of files) asking frame row clause) _ (any_answer (base_of (table_of files) asking frame row clause))
      (λ base hb. then_answers Anywhere (AllDeclared (table_of files)) (AllDeclared (table_of files)) (asking.elements (last_place clause.base.parts) base) _
      (ha (last_place clause.base.parts) base)
      (λ walked hw. then_answers Anywhere (AllDeclared (table_of files)) (AllDeclared (table_of files)) (with_base clause.hidden base walked so_far) _
      (with_base_exists (table_of files) clause.hidden base walked so_far hw hs)
      (λ joined hj. walked_parts_exist asking frame row item parts joined ha (λ k d at. h (suc k) d at) own hj)))

  walked_class_exists : (asking : Asking) (frame : Frame) → AskingExists (table_of files) asking →
      Answers Anywhere (AllDeclared (table_of files)) (walked_class (table_of files) asking frame (row_at (table_of files) (class_of frame)))
  walked_class_exists asking frame ha = by (row_at (table_of files) (class_of frame)) refl
    where
      by : (row : Option Row) → row_at (table_of files) (class_of frame) ≡ row → Answers Anywhere (AllDeclared (table_of files)) (walked_class (table_of files) asking frame row)
      by None at = record { holds = tt }
      by (Some row) at =
          if_answers Anywhere (AllDeclared (table_of files)) (is_left_out row) _ _ (record { holds = tt })
          (then_answers Anywhere (AllDeclared (table_of files)) (AllDeclared (table_of files)) (walked_parts (table_of files) asking frame row 0 row.parts (nothing_walked (leaf_of row frame))) _
          (walked_parts_exist asking frame row 0 row.parts (nothing_walked (leaf_of row frame)) ha (row_parts_exist files (class_of frame) row at) (own_row (table_of files) frame row at) tt)
          (leaf_checked_exists (table_of files)))

  walked_exist : (left : ℕ) (busy : List ℕ) (place : Place) (frame : Frame) → Answers Anywhere (AllDeclared (table_of files)) (walked (table_of files) left busy place frame)
  unfolding walked
  walked_exist zero busy place frame = record { holds = tt }
  walked_exist (suc left) busy place frame =
      if_answers Anywhere (AllDeclared (table_of files)) (contains busy (class_of frame)) _ _ (record { holds = tt })
      (walked_class_exists _ frame (λ asked base. walked_exist left (with_busy busy frame) asked base))

  -- the elements of a frame
  elements_exist : (frame : Frame) → Answers Anywhere (Every (Stands (table_of files))) (elements_of (table_of files) frame)
  elements_exist frame =
      then_answers Anywhere (AllDeclared (table_of files)) (Every (Stands (table_of files))) (walk_of (table_of files) frame) _
      (walked_exist (number_of_classes (table_of files)) [] (record { file = 0; byte = 0 }) frame)
      (λ walked hw. record { holds = every_map (Stands (table_of files)) (λ inherited. inherited.member) walked.members hw })

-- ---- tables that are kept

-- the frame whose class declares the element, the class that it declares, and which of the elements of that frame's class it is
abbrev pub EntryStands : World → MemberEntry → Type 0
EntryStands w entry = IsFrame w entry.home × Stands (table_in w) (member_in (frames_of w) entry)

pub entries_exist : (w : World) (frame : Frame) (entries : List MemberEntry) → elements_of (table_in w) frame ≡ Ok (map (member_in (frames_of w)) entries) → AreHomes w entries → Every (EntryStands w) entries
entries_exist w frame entries elements homes = by entries homes (holds (elements_of (table_in w) frame) _ (elements_exist w.files frame) elements)
  where
    holds : (o : Outcome (List Member)) (members : List Member) → Answers Anywhere (Every (Stands (table_in w))) o → o ≡ Ok members →
        Every (Stands (table_in w)) members
    holds (Ok found) members h is = let same : found ≡ members = cc in subst (Every (Stands (table_in w))) same h.holds
    holds (Err broken) members h is = absurd cc

    by : (entries : List MemberEntry) → AreHomes w entries → Every (Stands (table_in w)) (map (member_in (frames_of w)) entries) → Every (EntryStands w) entries
    by [] homes h = tt
    by (x ∷ xs) homes h = ((homes zero x refl, h.0), by xs (λ k m at. homes (suc k) m at) h.1)

-- the elements of a table that is kept
pub kept_exist : (w : World) (frame : Frame) (entries : List MemberEntry) (xs : List MemberAt) → elements_of (table_in w) frame ≡ Ok (map (member_in (frames_of w)) entries) → AreHomes w entries → map member_seen xs ≡ entries → Every (IsMember w) xs
kept_exist w frame entries xs elements homes same = by xs (subst (Every (EntryStands w)) (sym same) (entries_exist w frame entries elements homes))
  where
    by : (xs : List MemberAt) → Every (EntryStands w) (map member_seen xs) → Every (IsMember w) xs
    by [] h = tt
    by (x ∷ xs) h = (record { home = h.0.0; class = h.0.1.0; own = h.0.1.1 }, by xs h.1)

-- an element that is found in it
pub found_exists : (w : World) (frame : Frame) (entries : List MemberEntry) (test : MemberEntry → Bool) (x : MemberAt) → elements_of (table_in w) frame ≡ Ok (map (member_in (frames_of w)) entries) → AreHomes w entries → find test entries ≡ Some (member_seen x) → IsMember w x
found_exists w frame entries test x elements homes found = by (find test entries) (any_find (EntryStands w) test entries (entries_exist w frame entries elements homes)) found
  where
    by : (o : Option MemberEntry) → IfAny (EntryStands w) o → o ≡ Some (member_seen x) → IsMember w x
    by None h is = absurd cc
    by (Some entry) h is =
        let same : entry ≡ member_seen x = cc in
        let stands : EntryStands w (member_seen x) = subst (EntryStands w) same h in
        record { home = stands.0; class = stands.1.0; own = stands.1.1 }
