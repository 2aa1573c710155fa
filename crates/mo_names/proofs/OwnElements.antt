-- Which of the elements that a class declares itself an element is.
use Rattle.std.proofs.Common.{◌≡◌, ℕ, zero, suc, ◌+◌, Bool, true, false, cond, List, [], ◌∷◌, length, map, take, Option, Some, None, refl, ap, sym, subst, ◌∙◌, arith}
use Rattle.std.specs.Prelude.{slice_get}
use Rattle.std.specs.Str.{bytes_eq}
use Rattle.mo_scope.specs.declared.row.Part.{Part as PartAt}
use Rattle.mo_scope.specs.declared.row.Row.{Row as RowAt}
use Rattle.mo_scope.specs.Frames.{Frame, Member, class_of}
use Rattle.mo_scope.specs.Lookup.{members_from, named}
use Rattle.mo_scope.specs.Own.{IsOwnElement, own_declared}
use Rattle.mo_scope.specs.Rows.{Table, Row, Part, Element_of, Base_of, Declares, elements_in, row_at}
use Rattle.mo_scope.specs.Sights.{part_seen, row_seen}
use Rattle.mo_scope.specs.Worlds.{World, Grows, IsFrame, frame_at, table_in}
use Rattle.mo_names.specs.steps.Bases.{IsOwnPart}
use Rattle.mo_names.specs.steps.Parts.{parts_of}
use Rattle.mo_names.specs.steps.Lookup.{next_item}
use Rattle.mo_names.proofs.Later.{frame_later, table_later}

-- ---- an element that is found by its name

-- it stands among what is declared from a number on
record IsDeclared (frame : Frame) (all : List Declares) (member : Member) : Type 0 where
  home : member.home ≡ frame
  declares : slice_get all member.item ≡ Some member.declares
  name : member.name ≡ member.declares.name

named_from_declared : (frame : Frame) (all : List Declares) (name : List ℕ) (item : ℕ) (left : List Declares) (member : Member) → ((n : ℕ) → slice_get left n ≡ slice_get all (item + n)) →
    named name (members_from frame item left) ≡ Some member → IsDeclared frame all member
named_from_declared frame all name item [] member same is = absurd cc
named_from_declared frame all name item (declares ∷ others) member same is =
    by (bytes_eq declares.name name)
    (named_from_declared frame all name (item + 1) others member (λ n. let next : item + suc n ≡ (item + 1) + n = omega arith in same (suc n) ∙ ap (slice_get all) next)) is
  where
    here : Member
    here = record { name = declares.name; home = frame; item = item; hidden = declares.flags.hidden; declares = declares }

    by : (b : Bool) → (named name (members_from frame (item + 1) others) ≡ Some member → IsDeclared frame all member) →
        cond b (Some here) (named name (members_from frame (item + 1) others)) ≡ Some member → IsDeclared frame all member
    by true rest is =
        let found : here ≡ member = cc in
        let first : item + 0 ≡ item = omega arith in
        subst (IsDeclared frame all) found (record { home = refl; declares = ap (slice_get all) (sym first) ∙ sym (same zero); name = refl })
    by false rest is = rest is

pub named_own : (table : Table) (frame : Frame) (declared : List Declares) (name : List ℕ) (member : Member) → declared ≡ own_declared table frame → member.home ≡ frame →
    named name (members_from frame 0 declared) ≡ Some member → IsOwnElement table member
named_own table frame declared name member own home is =
    let found : IsDeclared frame declared member = named_from_declared frame declared name 0 declared member (λ n. let same : n ≡ 0 + n = omega arith in ap (slice_get declared) same) is in
    record {
      declares = ap (λ (f : Frame). slice_get (own_declared table f) member.item) home ∙ ap (λ (ds : List Declares). slice_get ds member.item) (sym own) ∙ found.declares;
      name = found.name;
    }

own_row : (table : Table) (frame : Frame) (row : Row) → row_at table (class_of frame) ≡ Some row → own_declared table frame ≡ elements_in row.parts
own_row table frame row e = rw e refl

pub own_of_row : (table : Table) (frame : Frame) (class : ℕ) (row : RowAt) (parts : List PartAt) → class ≡ class_of frame → Some (row_seen row) ≡ row_at table class → parts ≡ row.parts →
    elements_in (map part_seen parts) ≡ own_declared table frame
own_of_row table frame class row parts is at same =
    ap (λ (xs : List PartAt). elements_in (map part_seen xs)) same
    ∙ sym (own_row table frame (row_seen row) (ap (row_at table) (sym is) ∙ sym at))

-- ---- the parts of a class, one after another

-- how many elements stand before a part
abbrev pub elements_before : ℕ → List Part → ℕ
elements_before at parts = length (elements_in (take at parts))

next_suc : (part : Part) (n : ℕ) → suc (next_item part n) ≡ next_item part (suc n)
next_suc (Element_of declares) n = omega arith
next_suc (Base_of clause) n = refl

pub counted_next : (parts : List Part) (at item : ℕ) (part : Part) → slice_get parts at ≡ Some part → item ≡ elements_before at parts → next_item part item ≡ elements_before (at + 1) parts
counted_next parts at item part is counted =
    let next : suc at ≡ at + 1 = omega arith in
    ap (next_item part) counted ∙ sym (by parts at is) ∙ ap (λ (n : ℕ). elements_before n parts) next
  where
    by : (parts : List Part) (at : ℕ) → slice_get parts at ≡ Some part → elements_before (suc at) parts ≡ next_item part (elements_before at parts)
    by [] at is = absurd cc
    by (Element_of declares ∷ parts) zero is = let same : Element_of declares ≡ part = cc in subst (λ (p : Part). 1 ≡ next_item p 0) same refl
    by (Base_of clause ∷ parts) zero is = let same : Base_of clause ≡ part = cc in subst (λ (p : Part). 0 ≡ next_item p 0) same refl
    by (Element_of declares ∷ parts) (suc at) is = ap suc (by parts at is) ∙ next_suc part (elements_before at parts)
    by (Base_of clause ∷ parts) (suc at) is = by parts at is

element_at : (parts : List Part) (at : ℕ) (declares : Declares) → slice_get parts at ≡ Some (Element_of declares) → slice_get (elements_in parts) (elements_before at parts) ≡ Some declares
element_at [] at declares is = absurd cc
element_at (Element_of other ∷ parts) zero declares is = let same : other ≡ declares = cc in ap Some same
element_at (Base_of clause ∷ parts) zero declares is = absurd cc
element_at (Element_of other ∷ parts) (suc at) declares is = element_at parts at declares is
element_at (Base_of clause ∷ parts) (suc at) declares is = element_at parts at declares is

own_parts : (table : Table) (frame : Frame) → own_declared table frame ≡ elements_in (parts_of (row_at table (class_of frame)))
own_parts table frame = by (row_at table (class_of frame)) refl
  where
    by : (row : Option Row) → row_at table (class_of frame) ≡ row → own_declared table frame ≡ elements_in (parts_of (row_at table (class_of frame)))
    by None is = rw is refl
    by (Some row) is = rw is refl

pub own_part : (table : Table) (frame : Frame) (at item : ℕ) (part : Part) → slice_get (parts_of (row_at table (class_of frame))) at ≡ Some part → item ≡ elements_before at (parts_of (row_at table (class_of frame))) →
    IsOwnPart table frame item part
own_part table frame at item (Element_of declares) is counted =
    ap (λ (ds : List Declares). slice_get ds item) (own_parts table frame)
    ∙ ap (slice_get (elements_in (parts_of (row_at table (class_of frame))))) counted
    ∙ element_at (parts_of (row_at table (class_of frame))) at declares is
own_part table frame at item (Base_of clause) is counted = tt

pub own_part_later : (u v : World) (n item : ℕ) (part : Part) → Grows u v → IsFrame u n → IsOwnPart (table_in u) (frame_at u n) item part → IsOwnPart (table_in v) (frame_at v n) item part
own_part_later u v n item part g at own =
    subst (λ t. IsOwnPart t (frame_at v n) item part) (sym (table_later u v g)) (subst (λ f. IsOwnPart (table_in u) f item part) (sym (frame_later u v n g at)) own)
