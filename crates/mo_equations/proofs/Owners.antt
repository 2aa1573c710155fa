-- The elements that a class declares itself, in a table by name.
use Rattle.std.proofs.Common.{◌≡◌, ℕ, ◌+◌, ◌<◌, Bool, true, false, cond, List, [], ◌∷◌, ◌++◌, drop, find, get_or, length, map, Option, Some, None, option_map, refl, ap, sym, subst, ◌∙◌, append_assoc}
use Rattle.std.proofs.lemmas.List.{append-nil, drop_more, map-append}
use Rattle.std.specs.Prelude.{MatchOption}
use Rattle.std.specs.Str.{bytes_eq}
use Rattle.mo_syntax.specs.declared.meaning.FrameId.{FrameId}
use Rattle.mo_scope.specs.declared.row.Declares.{Declares as DeclaresAt}
use Rattle.mo_scope.specs.declared.row.Member.{Member as MemberAt}
use Rattle.mo_scope.specs.declared.row.Part.{Part as PartAt}
use Rattle.mo_scope.specs.declared.row.Part.TheVariants.{Element as element_at, Base as base_at}
use Rattle.mo_scope.specs.declared.row.Clause.{Clause}
use Rattle.mo_scope.specs.declared.row.Row.{Row as RowAt}
use Rattle.mo_scope.specs.Frames.{Frame, Member, class_of}
use Rattle.mo_scope.specs.Lookup.{members_from, named, own_members}
use Rattle.mo_scope.specs.Places.{Every, IfAny}
use Rattle.mo_scope.specs.Rows.{Row, Table, elements_in, row_at}
use Rattle.mo_scope.specs.Sights.{member_seen, part_seen, row_seen}
use Rattle.mo_scope.specs.Worlds.{MemberEntry, frame_in, member_in}
use Rattle.mo_scope.proofs.laws.Standing.{any_find, every_front}

-- ---- the table, one part after another

-- what some elements are behind those of the parts that are left
abbrev pub with_left : List Frame → List PartAt → FrameId → ℕ → ℕ → List MemberEntry → List Member
with_left frames parts frame i item made = map (member_in frames) made ++ members_from (frame_in frames frame.0) item (elements_in (map part_seen (drop i parts)))

left_parts : (parts : List PartAt) (i : ℕ) (part : PartAt) → i < length parts → part ≡ get_or parts i part → drop i parts ≡ part ∷ drop (i + 1) parts
left_parts parts i part below read = drop_more parts i part below ∙ ap (λ (p : PartAt). p ∷ drop (i + 1) parts) (sym read)

abbrev pub element_of : FrameId → ℕ → DeclaresAt → MemberAt
element_of frame item declares = record { name = declares.name; home = frame; item = item; hidden = declares.flags.hidden; declares = declares }

-- an element goes from those that are left to the table
pub element_put : (frames : List Frame) (parts : List PartAt) (frame : FrameId) (i item next : ℕ) (made : List MemberEntry) (part : PartAt) (declares : DeclaresAt) → i < length parts → part ≡ get_or parts i part →
    part ≡ element_at declares → next ≡ item + 1 → with_left frames parts frame (i + 1) next (made ++ member_seen (element_of frame item declares) ∷ []) ≡ with_left frames parts frame i item made
element_put frames parts frame i item next made part declares below read is more =
    let entry = member_seen (element_of frame item declares) in
    let left = members_from (frame_in frames frame.0) (item + 1) (elements_in (map part_seen (drop (i + 1) parts))) in
    ap (λ n. with_left frames parts frame (i + 1) n (made ++ entry ∷ [])) more
    ∙ ap (λ (ms : List Member). ms ++ left) (map-append (member_in frames) made (entry ∷ []))
    ∙ append_assoc (map (member_in frames) made) (member_in frames entry ∷ []) left
    ∙ ap (λ (p : PartAt). map (member_in frames) made ++ members_from (frame_in frames frame.0) item (elements_in (map part_seen (p ∷ drop (i + 1) parts)))) (sym is)
    ∙ ap (λ (ps : List PartAt). map (member_in frames) made ++ members_from (frame_in frames frame.0) item (elements_in (map part_seen ps))) (sym (left_parts parts i part below read))

-- an extends clause declares no element
pub base_passed : (frames : List Frame) (parts : List PartAt) (frame : FrameId) (i item next : ℕ) (made : List MemberEntry) (part : PartAt) (clause : Clause) → i < length parts → part ≡ get_or parts i part →
    part ≡ base_at clause → next ≡ item → with_left frames parts frame (i + 1) next made ≡ with_left frames parts frame i item made
base_passed frames parts frame i item next made part clause below read is same =
    ap (λ n. with_left frames parts frame (i + 1) n made) same
    ∙ ap (λ (p : PartAt). map (member_in frames) made ++ members_from (frame_in frames frame.0) item (elements_in (map part_seen (p ∷ drop (i + 1) parts)))) (sym is)
    ∙ ap (λ (ps : List PartAt). map (member_in frames) made ++ members_from (frame_in frames frame.0) item (elements_in (map part_seen ps))) (sym (left_parts parts i part below read))

-- behind the last part nothing is left
pub none_left : (frames : List Frame) (parts : List PartAt) (frame : FrameId) (i item : ℕ) (made : List MemberEntry) (all : List Member) → drop i parts ≡ [] → with_left frames parts frame i item made ≡ all →
    map (member_in frames) made ≡ all
none_left frames parts frame i item made all end is =
    sym (append-nil (map (member_in frames) made))
    ∙ ap (λ (ps : List PartAt). map (member_in frames) made ++ members_from (frame_in frames frame.0) item (elements_in (map part_seen ps))) (sym end)
    ∙ is

row_members : (table : Table) (frame : Frame) (row : Row) → row_at table (class_of frame) ≡ Some row → members_from frame 0 (elements_in row.parts) ≡ own_members table frame
row_members table frame row e = rw e refl

pub members_of_row : (table : Table) (frame : Frame) (class : ℕ) (row : RowAt) (parts : List PartAt) → class ≡ class_of frame → Some (row_seen row) ≡ row_at table class → parts ≡ row.parts →
    members_from frame 0 (elements_in (map part_seen parts)) ≡ own_members table frame
members_of_row table frame class row parts is at same =
    ap (λ (ps : List PartAt). members_from frame 0 (elements_in (map part_seen ps))) same
    ∙ row_members table frame (row_seen row) (ap (row_at table) (sym is) ∙ sym at)

pub members_of_none : (table : Table) (frame : Frame) (class : ℕ) → class ≡ class_of frame → None ≡ row_at table class → [] ≡ own_members table frame
members_of_none table frame class is at = let none : row_at table (class_of frame) ≡ None = ap (row_at table) (sym is) ∙ sym at in rw none refl

-- ---- an element by its name

pub named_entry : (frames : List Frame) (name : List ℕ) (entries : List MemberEntry) →
    named name (map (member_in frames) entries) ≡ option_map (member_in frames) (find (λ (entry : MemberEntry). bytes_eq entry.name name) entries)
named_entry frames name [] = refl
named_entry frames name (entry ∷ entries) = by (bytes_eq entry.name name) (named_entry frames name entries)
  where
    by : (b : Bool) → named name (map (member_in frames) entries) ≡ option_map (member_in frames) (find (λ (entry : MemberEntry). bytes_eq entry.name name) entries) →
        cond b (Some (member_in frames entry)) (named name (map (member_in frames) entries))
        ≡ option_map (member_in frames) (cond b (Some entry) (find (λ (entry : MemberEntry). bytes_eq entry.name name) entries))
    by true rest = refl
    by false rest = rest

-- what is found is one of them
pub found_of : {A : Type 0} (P : A → Type 0) (test : A → Bool) (xs : List A) (x : A) → Every P xs → Some x ≡ find test xs → P x
found_of {A} P test xs x are is = let found : IfAny P (Some x) = subst (IfAny P) (sym is) (any_find P test xs are) in found

-- ---- the levels

pub front_of : {A : Type 0} (P : A → Type 0) (old new : List A) (last : A) → Every P old → old ≡ new ++ last ∷ [] → Every P new
front_of P old new last are is = every_front P new (last ∷ []) (subst (Every P) is are)

pub every_popped : {A : Type 0} (P : A → Type 0) (old new : List A) (last : Option A) → Every P old → MatchOption last ((old ≡ []) × (new ≡ [])) (λ (x : A). old ≡ new ++ x ∷ []) → Every P new
every_popped P old new None are is = subst (Every P) (sym is.1) tt
every_popped P old new (Some last) are is = front_of P old new last are is
