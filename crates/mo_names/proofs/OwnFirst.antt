-- The elements that a class declares itself are among all its elements, the first ones of their names. So all elements of a frame, where
-- there are any, tell what a name reaches.
use Rattle.std.proofs.Common.{◌≡◌, ℕ, suc, ◌+◌, Bool, true, false, cond, List, [], ◌∷◌, ◌++◌, length, map, Option, Some, None, Ok, Err, refl, ap, sym, subst, ◌∙◌, arith}
use Rattle.std.specs.Prelude.{◌||◌}
use Rattle.std.specs.List.{list_any}
use Rattle.std.specs.Str.{bytes_eq}
use Rattle.std.proofs.lemmas.List.{map-append}
use Rattle.std.proofs.lemmas.Slice.Eq.{bytes_eq-Decides}
use Rattle.mo_syntax.specs.Outcome.{Outcome, and_then, breach}
use Rattle.mo_syntax.specs.declared.place.Place.{Place}
use Rattle.mo_scope.specs.Rows.{Table, Row, row_at, Part, Element_of, Base_of, Clause, elements_in, is_left_out, number_of_classes}
use Rattle.mo_scope.specs.Frames.{Frame, Member, class_of}
use Rattle.mo_scope.specs.Lookup.{Inherited, Walked, Asking, Element, Absent, asking_of, base_of, last_place, leaf_checked, leaf_of, members_from, members_in, named, nothing_walked, own_members, reached, reached_in, walked, walked_class, walked_parts, with_base, with_busy, with_member, with_members}
use Rattle.mo_scope.specs.Names.{elements_of, walk_of}
use Rattle.mo_syntax.specs.declared.rules.TheConstants.{INHERITED_ELEMENTS_CLASH, OUTSIDE_PROFILE}

-- what comes of a value came of one
pub then_value : {A B C : Type 0} (o : Outcome A) (f : A → Outcome B) (b : B) → and_then o f ≡ Ok b → ((a : A) → o ≡ Ok a → f a ≡ Ok b → C) → C
then_value (Ok a) f b is next = next a refl is
then_value (Err broken) f b is next = absurd cc

named_append : (name : List ℕ) (xs ys : List Member) (m : Member) → named name xs ≡ Some m → named name (xs ++ ys) ≡ Some m
named_append name [] ys m is = absurd cc
named_append name (x ∷ xs) ys m is = by (bytes_eq x.name name) (named_append name xs ys m) is
  where
    by : (b : Bool) → (named name xs ≡ Some m → named name (xs ++ ys) ≡ Some m) → cond b (Some x) (named name xs) ≡ Some m → cond b (Some x) (named name (xs ++ ys)) ≡ Some m
    by true rest e = e
    by false rest e = rest e

-- the first element of that name
abbrev First : List ℕ → Member → Walked → Type 0
First name m walked = named name (members_in walked) ≡ Some m

added : Inherited → Walked → Walked
added inherited so_far = record { members = so_far.members ++ inherited ∷ []; bases = so_far.bases; sections = so_far.sections; leaf = so_far.leaf }

is_added : (inherited : Inherited) (so_far w : Walked) → with_member inherited so_far ≡ Ok w →
    (list_any (λ other. bytes_eq other.member.name inherited.member.name) so_far.members ≡ false) × (added inherited so_far ≡ w)
unfolding added
is_added inherited so_far w is = by (list_any (λ other. bytes_eq other.member.name inherited.member.name) so_far.members) refl is
  where
    by : (b : Bool) → list_any (λ other. bytes_eq other.member.name inherited.member.name) so_far.members ≡ b → cond b (Err (breach INHERITED_ELEMENTS_CLASH inherited.member.declares.place)) (Ok (added inherited so_far)) ≡ Ok w →
        (list_any (λ other. bytes_eq other.member.name inherited.member.name) so_far.members ≡ false) × (added inherited so_far ≡ w)
    by true e is = absurd cc
    by false e is = let same : added inherited so_far ≡ w = cc in (e, same)

members_added : (inherited : Inherited) (so_far : Walked) → members_in (added inherited so_far) ≡ members_in so_far ++ inherited.member ∷ []
unfolding added
members_added inherited so_far = map-append (λ inherited. inherited.member) so_far.members (inherited ∷ [])

with_member_first : (name : List ℕ) (m : Member) (inherited : Inherited) (so_far w : Walked) → First name m so_far → with_member inherited so_far ≡ Ok w → First name m w
with_member_first name m inherited so_far w first is =
    let a = is_added inherited so_far w is in
    subst (First name m) a.1 (ap (named name) (members_added inherited so_far) ∙ named_append name (members_in so_far) (inherited.member ∷ []) m first)

with_members_first : (name : List ℕ) (m : Member) (members : List Inherited) (so_far w : Walked) → First name m so_far → with_members members so_far ≡ Ok w → First name m w
with_members_first name m [] so_far w first is = let same : so_far ≡ w = cc in subst (First name m) same first
with_members_first name m (inherited ∷ others) so_far w first is =
    then_value (with_member inherited so_far) (with_members others) w is (λ next one rest.
    with_members_first name m others next w (with_member_first name m inherited so_far next first one) rest)

with_base_first : (name : List ℕ) (m : Member) (hidden : Bool) (base : Frame) (walk so_far w : Walked) → First name m so_far → with_base hidden base walk so_far ≡ Ok w → First name m w
with_base_first name m hidden base walk so_far w first is = with_members_first name m _ (record { members = so_far.members; bases = _; sections = _; leaf = _ }) w first is

module _ (table : Table) (asking : Asking) (frame : Frame) (row : Row) (name : List ℕ) (m : Member) where
  base_first : (A : Type 0) (item : ℕ) (clause : Clause) (parts : List Part) (so_far w : Walked) → walked_parts table asking frame row item (Base_of clause ∷ parts) so_far ≡ Ok w →
      ((next : Walked) → (First name m so_far → First name m next) → walked_parts table asking frame row item parts next ≡ Ok w → A) → A
  base_first A item clause parts so_far w is next =
      then_value (base_of table asking frame row clause) _ w is (λ base one rest.
      then_value (asking.elements (last_place clause.base.parts) base) _ w rest (λ walk two rest.
      then_value (with_base clause.hidden base walk so_far) (walked_parts table asking frame row item parts) w rest (λ joined three rest.
      next joined (λ first. with_base_first name m clause.hidden base walk so_far joined first three) rest)))

  parts_first : (item : ℕ) (parts : List Part) (so_far w : Walked) → First name m so_far → walked_parts table asking frame row item parts so_far ≡ Ok w → First name m w
  parts_first item [] so_far w first is = let same : so_far ≡ w = cc in subst (First name m) same first
  parts_first item (Element_of declares ∷ parts) so_far w first is =
      then_value (with_member _ so_far) (walked_parts table asking frame row (item + 1) parts) w is (λ next one rest.
      parts_first (item + 1) parts next w (with_member_first name m _ so_far next first one) rest)
  parts_first item (Base_of clause ∷ parts) so_far w first is =
      base_first (First name m w) item clause parts so_far w is (λ next keeps rest. parts_first item parts next w (keeps first) rest)

-- ---- own elements

named_none : (name : List ℕ) (xs : List Inherited) (ys : List Member) → list_any (λ other. bytes_eq other.member.name name) xs ≡ false → named name (map (λ inherited. inherited.member) xs ++ ys) ≡ named name ys
named_none name [] ys none = refl
named_none name (x ∷ xs) ys none = by (bytes_eq x.member.name name) (named_none name xs ys) none
  where
    by : (b : Bool) → (list_any (λ other. bytes_eq other.member.name name) xs ≡ false → named name (map (λ inherited. inherited.member) xs ++ ys) ≡ named name ys) →
        (b || list_any (λ other. bytes_eq other.member.name name) xs) ≡ false → cond b (Some x.member) (named name (map (λ inherited. inherited.member) xs ++ ys)) ≡ named name ys
    by true rest e = absurd cc
    by false rest e = rest e

-- an own element that is added is the first one of its name
own_first_added : (name : List ℕ) (inherited : Inherited) (so_far w : Walked) → bytes_eq inherited.member.name name ≡ true → with_member inherited so_far ≡ Ok w → First name inherited.member w
own_first_added name inherited so_far w named_so is =
    let a = is_added inherited so_far w is in
    let same : inherited.member.name ≡ name = (bytes_eq-Decides inherited.member.name name).0 named_so in
    subst (First name inherited.member) a.1
    (ap (named name) (members_added inherited so_far)
    ∙ named_none name so_far.members (inherited.member ∷ []) (ap (λ (n : List ℕ). list_any (λ other. bytes_eq other.member.name n) so_far.members) (sym same) ∙ a.0)
    ∙ ap (λ b. cond b (Some inherited.member) None) named_so)

module _ (table : Table) (asking : Asking) (frame : Frame) (row : Row) (name : List ℕ) (m : Member) where
  own_first_parts : (item : ℕ) (parts : List Part) (so_far w : Walked) → named name (members_from frame item (elements_in parts)) ≡ Some m → walked_parts table asking frame row item parts so_far ≡ Ok w → First name m w
  own_first_parts item [] so_far w own is = absurd cc
  own_first_parts item (Base_of clause ∷ parts) so_far w own is =
      base_first table asking frame row name m (First name m w) item clause parts so_far w is (λ next keeps rest. own_first_parts item parts next w own rest)
  own_first_parts item (Element_of declares ∷ parts) so_far w own is =
      then_value (with_member (record { member = member; through = [] }) so_far) (walked_parts table asking frame row (item + 1) parts) w is (λ next one rest.
      by (bytes_eq declares.name name) refl own next one rest (λ later. own_first_parts (item + 1) parts next w later rest))
    where
      member : Member
      member = record { name = declares.name; home = frame; item = item; hidden = declares.flags.hidden; declares = declares }

      by : (b : Bool) → bytes_eq declares.name name ≡ b → cond b (Some member) (named name (members_from frame (item + 1) (elements_in parts))) ≡ Some m →
          (next : Walked) → with_member (record { member = member; through = [] }) so_far ≡ Ok next → walked_parts table asking frame row (item + 1) parts next ≡ Ok w →
          (named name (members_from frame (item + 1) (elements_in parts)) ≡ Some m → First name m w) → First name m w
      by true e this next one rest further =
          let same : member ≡ m = cc in
          parts_first table asking frame row name m (item + 1) parts next w
          (subst (λ (x : Member). First name x next) same (own_first_added name (record { member = member; through = [] }) so_far next e one)) rest
      by false e later next one rest further = further later

value_same : {A : Type 0} (o : Outcome A) (a b : A) → o ≡ Ok a → o ≡ Ok b → a ≡ b
value_same o a b is_a is_b = cc

checked_same : (one two : Walked) → leaf_checked one ≡ Ok two → one ≡ two
checked_same one two = by one.leaf one.members refl refl
  where
    by : (leaf : Option Frame) (members : List Inherited) → one.leaf ≡ leaf → one.members ≡ members → leaf_checked one ≡ Ok two → one ≡ two
    by (Some leaf) (inherited ∷ others) is have = rw (is, have) (λ e. absurd cc)
    by (Some leaf) [] is have = rw (is, have) (λ e. value_same _ _ two refl e)
    by None members is have = rw is (λ e. value_same _ _ two refl e)

-- no leaf type has elements
checked_leaf : (one two : Walked) (first : Member) (others : List Member) → leaf_checked one ≡ Ok two → members_in two ≡ first ∷ others → two.leaf ≡ None
checked_leaf one two first others is have = by one.leaf one.members refl refl is
  where
    same : one ≡ two
    same = checked_same one two is

    by : (leaf : Option Frame) (members : List Inherited) → one.leaf ≡ leaf → one.members ≡ members → leaf_checked one ≡ Ok two → two.leaf ≡ None
    by (Some leaf) (inherited ∷ more) at have_more = rw (at, have_more) (λ e. absurd cc)
    by (Some leaf) [] at have_more = λ e. absurd (let none : members_in two ≡ [] = ap members_in (sym same) ∙ ap (map (λ inherited. inherited.member)) have_more in cc)
    by None members at have_more = λ e. ap (λ (w : Walked). w.leaf) (sym same) ∙ at

abbrev named_row : Table → Asking → Frame → Row → Outcome Walked
named_row table asking frame row = and_then (walked_parts table asking frame row 0 row.parts (nothing_walked (leaf_of row frame))) leaf_checked

-- all elements of the class of a frame: the own ones are the first of their names, and where there are any, it ends at no leaf type
abbrev pub AreFirst : Table → Frame → List ℕ → Walked → Type 0
AreFirst table frame name walked =
    ((m : Member) → named name (own_members table frame) ≡ Some m → named name (members_in walked) ≡ Some m)
    × ((first : Member) (others : List Member) → members_in walked ≡ first ∷ others → walked.leaf ≡ None)

class_first : (table : Table) (asking : Asking) (frame : Frame) (name : List ℕ) (w : Walked) → walked_class table asking frame (row_at table (class_of frame)) ≡ Ok w → AreFirst table frame name w
class_first table asking frame name w is = by (row_at table (class_of frame)) refl is
  where
    by_row : (row : Row) (b : Bool) → cond b (Err (breach OUTSIDE_PROFILE row.class.place)) (named_row table asking frame row) ≡ Ok w →
        ((m : Member) → named name (members_from frame 0 (elements_in row.parts)) ≡ Some m → named name (members_in w) ≡ Some m)
        × ((first : Member) (others : List Member) → members_in w ≡ first ∷ others → w.leaf ≡ None)
    by_row row true e = absurd cc
    by_row row false e =
        then_value (walked_parts table asking frame row 0 row.parts (nothing_walked (leaf_of row frame))) leaf_checked w e (λ one found checked. (
          (λ m own. subst (First name m) (checked_same one w checked) (own_first_parts table asking frame row name m 0 row.parts (nothing_walked (leaf_of row frame)) one own found)),
          (λ first others have. checked_leaf one w first others checked have),
        ))

    by : (row : Option Row) → row_at table (class_of frame) ≡ row → walked_class table asking frame row ≡ Ok w → AreFirst table frame name w
    by None at e = rw at ((λ m own. absurd cc), (λ first others have. absurd (let same : nothing_walked (Some frame) ≡ w = value_same (Ok (nothing_walked (Some frame))) (nothing_walked (Some frame)) w refl e in let none : members_in w ≡ [] = ap members_in (sym same) in cc)))
    by (Some row) at e = rw at (by_row row (is_left_out row) e)

-- No class is having its bases found, so the place at which is asked does not count.
asked_anywhere : (table : Table) (place : Place) (frame : Frame) → (asking_of table).elements place frame ≡ walked_class table (record { busy = with_busy [] frame; elements = walked table (5 + length table) (with_busy [] frame) }) frame (row_at table (class_of frame))
unfolding walked
asked_anywhere table place frame = rw some refl
  where
    some : number_of_classes table ≡ suc (5 + length table)
    some = omega arith

-- what the elements of a frame are at one place they are at each
pub asked_at : (table : Table) (place : Place) (frame : Frame) → (asking_of table).elements place frame ≡ walk_of table frame
asked_at table place frame = asked_anywhere table place frame ∙ sym (asked_anywhere table (record { file = 0; byte = 0 }) frame)

pub elements_first : (table : Table) (place : Place) (frame : Frame) (name : List ℕ) (w : Walked) → (asking_of table).elements place frame ≡ Ok w → AreFirst table frame name w
elements_first table place frame name w is =
    class_first table (record { busy = with_busy [] frame; elements = walked table (5 + length table) (with_busy [] frame) }) frame name w (sym (asked_anywhere table place frame) ∙ is)

-- ---- what a name reaches, told by all elements

found_or_not : {A : Type 0} (o : Option A) (P : Type 0) → (o ≡ None → P) → ((a : A) → o ≡ Some a → P) → P
found_or_not None P none some = none refl
found_or_not (Some a) P none some = some a refl

reached_all : (table : Table) (place : Place) (frame : Frame) (name : List ℕ) (w : Walked) → (asking_of table).elements place frame ≡ Ok w → named name (own_members table frame) ≡ None → reached table (asking_of table) place frame name ≡ Ok (reached_in table w name)
reached_all table place frame name w is none = rw (none, is) refl

pub reached_some : (table : Table) (place : Place) (frame : Frame) (name : List ℕ) (members : List Member) (m : Member) → elements_of table frame ≡ Ok members → named name members ≡ Some m →
    reached table (asking_of table) place frame name ≡ Ok (Element m)
reached_some table place frame name members m all is =
    then_value (walk_of table frame) (λ walked. Ok (members_in walked)) members all (λ w walks same.
    let at : (asking_of table).elements place frame ≡ Ok w = asked_at table place frame ∙ walks in
    let have : members_in w ≡ members = value_same (Ok (members_in w)) (members_in w) members refl same in
    let first : named name (members_in w) ≡ Some m = ap (named name) have ∙ is in
    found_or_not (named name (own_members table frame)) (reached table (asking_of table) place frame name ≡ Ok (Element m))
    (λ none. reached_all table place frame name w at none ∙ rw first refl)
    (λ own found. let one : Some own ≡ Some m = sym ((elements_first table place frame name w at).0 own found) ∙ first in rw found (let same_one : own ≡ m = cc in ap (λ (x : Member). Ok (Element x)) same_one)))

pub reached_none : (table : Table) (place : Place) (frame : Frame) (name : List ℕ) (members : List Member) (one : Member) (others : List Member) → elements_of table frame ≡ Ok members → members ≡ one ∷ others →
    named name members ≡ None → reached table (asking_of table) place frame name ≡ Ok Absent
reached_none table place frame name members one others all some none =
    then_value (walk_of table frame) (λ walked. Ok (members_in walked)) members all (λ w walks same.
    let at : (asking_of table).elements place frame ≡ Ok w = asked_at table place frame ∙ walks in
    let have : members_in w ≡ members = value_same (Ok (members_in w)) (members_in w) members refl same in
    let absent : named name (members_in w) ≡ None = ap (named name) have ∙ none in
    let leaf : w.leaf ≡ None = (elements_first table place frame name w at).1 one others (have ∙ some) in
    found_or_not (named name (own_members table frame)) (reached table (asking_of table) place frame name ≡ Ok Absent)
    (λ free. reached_all table place frame name w at free ∙ rw (absent, leaf) refl)
    (λ own found. absurd (let is : named name (members_in w) ≡ Some own = (elements_first table place frame name w at).0 own found in cc)))
