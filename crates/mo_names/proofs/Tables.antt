-- What the table that is kept of a frame tells, where its elements are what they are where no class is having its bases found.
use Rattle.std.proofs.Common.{◌≡◌, ℕ, ◌<◌, Bool, true, false, cond, List, [], ◌∷◌, length, map, find, Option, Some, None, Ok, Err, refl, ap, sym, subst, ◌∙◌, arith}
use Rattle.std.specs.Prelude.{◌&&◌, option_map}
use Rattle.std.specs.List.{list_all}
use Rattle.std.specs.Str.{bytes_eq}
use Rattle.mo_syntax.specs.Outcome.{Outcome, and_then}
use Rattle.mo_syntax.specs.declared.place.Place.{Place}
use Rattle.mo_scope.specs.Rows.{Table, number_of_classes}
use Rattle.mo_scope.specs.Frames.{Frame, Member, class_of}
use Rattle.mo_scope.specs.Lookup.{Walked, Asking, Element, Absent, asking_of, contains, counts_in_package, is_package, members_in, named, own_members, reached, reached_in, asking_at}
use Rattle.mo_scope.specs.Names.{elements_of, is_inner_for}
use Rattle.mo_scope.specs.Open.{are_open, is_open_declares}
use Rattle.mo_scope.specs.Worlds.{MemberEntry, member_in}
use Rattle.mo_names.specs.Children.{first_inner, inner_in_frame}
use Rattle.mo_names.proofs.OwnFirst.{asked_at, reached_none, reached_some}

no_elements : (xs : List ℕ) → length xs ≡ 0 → xs ≡ []
no_elements [] none = refl
no_elements (x ∷ xs) none = absurd (omega arith)

-- all classes are left, and none is having its bases found
pub asks_free : (table : Table) (left : ℕ) (busy : List ℕ) → left ≡ number_of_classes table → length busy ≡ 0 → asking_at table left busy ≡ asking_of table
asks_free table left busy all none = ap (asking_at table left) (no_elements busy none) ∙ ap (λ (n : ℕ). asking_at table n []) all

-- the elements that are asked for are those that a table lists
pub asked_elements : (table : Table) (asking : Asking) (place : Place) (frame : Frame) (o : Outcome Walked) → asking.elements place frame ≡ (asking_of table).elements place frame → asking.elements place frame ≡ o → elements_of table frame ≡ and_then o (λ walked. Ok (members_in walked))
asked_elements table asking place frame o same is =
    ap (λ (w : Outcome Walked). and_then w (λ walked. Ok (members_in walked)))
    (sym (asked_at table place frame) ∙ sym same ∙ is)

named_seen : (frames : List Frame) (name : List ℕ) (table : List MemberEntry) → named name (map (member_in frames) table) ≡ option_map (member_in frames) (find (λ member. bytes_eq member.name name) table)
named_seen frames name [] = refl
named_seen frames name (x ∷ xs) = by (bytes_eq x.name name) (named_seen frames name xs)
  where
    by : (b : Bool) → named name (map (member_in frames) xs) ≡ option_map (member_in frames) (find (λ member. bytes_eq member.name name) xs) →
        cond b (Some (member_in frames x)) (named name (map (member_in frames) xs)) ≡ option_map (member_in frames) (cond b (Some x) (find (λ member. bytes_eq member.name name) xs))
    by true rest = refl
    by false rest = rest

-- what a name reaches is told by the elements
same_reached : (table : Table) (a b : Asking) (place : Place) (frame : Frame) (name : List ℕ) → a.elements place frame ≡ b.elements place frame → reached table a place frame name ≡ reached table b place frame name
same_reached table a b place frame name same = by (named name (own_members table frame)) refl
  where
    by : (o : Option Member) → named name (own_members table frame) ≡ o → reached table a place frame name ≡ reached table b place frame name
    by (Some member) e = rw e refl
    by None e = rw e (ap (λ (w : Outcome Walked). and_then w (λ walked. Ok (reached_in table walked name))) same)

pub kept_element : (table : Table) (asking : Asking) (place : Place) (frame : Frame) (frames : List Frame) (entries : List MemberEntry) (name : List ℕ) (m : MemberEntry) → asking.elements place frame ≡ (asking_of table).elements place frame →
    elements_of table frame ≡ Ok (map (member_in frames) entries) → find (λ member. bytes_eq member.name name) entries ≡ Some m → reached table asking place frame name ≡ Ok (Element (member_in frames m))
kept_element table asking place frame frames entries name m same elements is =
    same_reached table asking (asking_of table) place frame name same
    ∙ reached_some table place frame name (map (member_in frames) entries) (member_in frames m) elements (named_seen frames name entries ∙ ap (option_map (member_in frames)) is)

pub kept_absent : (table : Table) (asking : Asking) (place : Place) (frame : Frame) (frames : List Frame) (entries : List MemberEntry) (name : List ℕ) → asking.elements place frame ≡ (asking_of table).elements place frame →
    elements_of table frame ≡ Ok (map (member_in frames) entries) → find (λ member. bytes_eq member.name name) entries ≡ None → 0 < length entries → reached table asking place frame name ≡ Ok Absent
kept_absent table asking place frame frames [] name same elements is some = absurd (omega arith)
kept_absent table asking place frame frames (x ∷ xs) name same elements is some =
    same_reached table asking (asking_of table) place frame name same
    ∙ reached_none table place frame name (map (member_in frames) (x ∷ xs)) (member_in frames x) (map (member_in frames) xs) elements refl (named_seen frames name (x ∷ xs) ∙ ap (option_map (member_in frames)) is)

pub kept_package : (table : Table) (asking : Asking) (place : Place) (frame : Frame) (members : List Member) → asking.elements place frame ≡ (asking_of table).elements place frame → contains asking.busy (class_of frame) ≡ false →
    elements_of table frame ≡ Ok members → is_package table asking place frame ≡ Ok (list_all counts_in_package members)
kept_package table asking place frame members same idle elements =
    rw idle (ap (λ (w : Outcome Walked). and_then w (λ walked. Ok (list_all counts_in_package (members_in walked)))) same)
    ∙ by ((asking_of table).elements place frame) (sym (asked_elements table (asking_of table) place frame _ refl refl) ∙ elements)
  where
    by : (o : Outcome Walked) → and_then o (λ walked. Ok (members_in walked)) ≡ Ok members → and_then o (λ walked. Ok (list_all counts_in_package (members_in walked))) ≡ Ok (list_all counts_in_package members)
    by (Ok w) is = let same : members_in w ≡ members = cc in ap (λ (ms : List Member). Ok (list_all counts_in_package ms)) same
    by (Err b) is = absurd cc

-- whether all elements of a table may stand in a package
pub open_entries : (frames : List Frame) (entries : List MemberEntry) → list_all counts_in_package (map (member_in frames) entries) ≡ are_open entries
open_entries frames [] = refl
open_entries frames (x ∷ xs) = ap (λ (b : Bool). is_open_declares x.declares && b) (open_entries frames xs)

-- ---- the inner component

pub kept_inner : (table : Table) (place : Place) (frame : Frame) (outer : Member) (members : List Member) → elements_of table frame ≡ Ok members → inner_in_frame table place outer frame ≡ Ok (find (is_inner_for outer) members)
kept_inner table place frame outer members elements =
    by ((asking_of table).elements place frame) (sym (asked_elements table (asking_of table) place frame _ refl refl) ∙ elements)
  where
    by : (o : Outcome Walked) → and_then o (λ walked. Ok (members_in walked)) ≡ Ok members → and_then o (λ walked. Ok (first_inner outer walked.members)) ≡ Ok (find (is_inner_for outer) members)
    by (Ok w) is = let same : members_in w ≡ members = cc in ap (λ (ms : List Member). Ok (find (is_inner_for outer) ms)) same
    by (Err b) is = absurd cc

inner_has_name : (outer member : Member) → bytes_eq member.name outer.name ≡ false → is_inner_for outer member ≡ false
inner_has_name outer member other = rw other refl

pub inner_first : (frames : List Frame) (outer : Member) (entries : List MemberEntry) (first : MemberEntry) → find (λ member. bytes_eq member.name outer.name) entries ≡ Some first → is_inner_for outer (member_in frames first) ≡ true →
    find (is_inner_for outer) (map (member_in frames) entries) ≡ Some (member_in frames first)
inner_first frames outer [] first is inner = absurd cc
inner_first frames outer (x ∷ xs) first is inner = by (bytes_eq x.name outer.name) refl (λ at. inner_first frames outer xs first at inner) is
  where
    by : (b : Bool) → bytes_eq x.name outer.name ≡ b → (find (λ member. bytes_eq member.name outer.name) xs ≡ Some first → find (is_inner_for outer) (map (member_in frames) xs) ≡ Some (member_in frames first)) →
        cond b (Some x) (find (λ member. bytes_eq member.name outer.name) xs) ≡ Some first → find (is_inner_for outer) (map (member_in frames) (x ∷ xs)) ≡ Some (member_in frames first)
    by true same rest at =
        let here : x ≡ first = cc in
        let found : is_inner_for outer (member_in frames x) ≡ true = subst (λ (e : MemberEntry). is_inner_for outer (member_in frames e) ≡ true) (sym here) inner in
        rw found (ap (λ (e : MemberEntry). Some (member_in frames e)) here)
    by false other rest at =
        let skipped : is_inner_for outer (member_in frames x) ≡ false = inner_has_name outer (member_in frames x) other in
        rw skipped (rest at)

pub inner_nowhere : (frames : List Frame) (outer : Member) (entries : List MemberEntry) → find (λ member. bytes_eq member.name outer.name) entries ≡ None → None ≡ find (is_inner_for outer) (map (member_in frames) entries)
inner_nowhere frames outer [] is = refl
inner_nowhere frames outer (x ∷ xs) is = by (bytes_eq x.name outer.name) refl (inner_nowhere frames outer xs) is
  where
    by : (b : Bool) → bytes_eq x.name outer.name ≡ b → (find (λ member. bytes_eq member.name outer.name) xs ≡ None → None ≡ find (is_inner_for outer) (map (member_in frames) xs)) →
        cond b (Some x) (find (λ member. bytes_eq member.name outer.name) xs) ≡ None → None ≡ find (is_inner_for outer) (map (member_in frames) (x ∷ xs))
    by true same rest at = absurd cc
    by false other rest at =
        let skipped : is_inner_for outer (member_in frames x) ≡ false = inner_has_name outer (member_in frames x) other in
        rw skipped (rest at)
