-- When the elements of a frame do not depend on the classes whose bases are being found: the names of its bases are found without asking for
-- elements, and the elements of its bases do not depend on them.
use Rattle.std.proofs.Common.{◌≡◌, ℕ, zero, ◌+◌, ◌-◌, ◌<◌, ◌≤◌, Bool, true, false, ◌||◌, List, [], ◌∷◌, ◌++◌, drop, get_or, length, Option, Some, None, Result, Ok, Err, nat_eq, refl, sym, ap, subst, ◌∙◌, arith, eqb-true, eq-eqb}
use Rattle.std.specs.Prelude.{IfOk, IfSome, is_some, slice_get}
use Rattle.std.proofs.lemmas.List.{drop_all}
use Rattle.mo_syntax.specs.Outcome.{Outcome, and_then, breach}
use Rattle.mo_syntax.specs.declared.place.Place.{Place}
use Rattle.mo_scope.specs.Rows.{Table, Row, row_at, number_of_classes, Part, Element_of, Declares, Clause}
use Rattle.mo_scope.specs.Frames.{Frame, class_of, is_top, looked_up, outer_of, sources_of}
use Rattle.mo_scope.specs.Lookup.{Asking, Walked, asking_of, base_of, contains, last_place, leaf_checked, walked, walked_class, with_base, with_member, asking_at}
use Rattle.mo_scope.specs.Worlds.{World, Grows, IsFrame, frame_at, frames_of, table_in}
use Rattle.mo_scope.proofs.Numbered.{is_no_top}
use Rattle.mo_scope.proofs.laws.Standing.{every_append, every_weaker}
use Rattle.mo_names.specs.declared.join.Added.{Added}
use Rattle.mo_lookup.specs.declared.settled.Settled.{Settled}
use Rattle.mo_lookup.specs.declared.settled.Settling.{Settling}
use Rattle.mo_names.specs.declared.walk.Walk.{Walk}
use Rattle.mo_names.specs.steps.Bases.{base_walked, part_walked, parts_walked}
use Rattle.mo_names.specs.steps.Parts.{parts_of}
use Rattle.mo_lookup.specs.steps.Settled.{AreFree, AreMore, AreSettled, ClassOwned, IsFurther, IsJoined, IsSettled, OwnedFree, ToldFree, ToldOwned, WalkedFree}
use Rattle.mo_names.specs.Sights.{IsAdded, IsWalk, added_seen, walk_seen}
use Rattle.mo_names.specs.steps.Lookup.{base_at, next_item, own_inherited, started}
use Rattle.mo_names.specs.steps.Twins.{BeginsElsewhere, owned_by, owned_walk, unowned}
use Rattle.mo_names.proofs.Asked.{Above, Also, also_never, also_same, base_of_also}
use Rattle.mo_names.proofs.Circling.{class_is, left_read, then_ok, walked_further}
use Rattle.mo_names.proofs.Later.{added_later, frame_later, grows_trans, is_added_later, is_frame_later, table_later, walk_later}
use Rattle.mo_lookup.proofs.OwnedWalks.{unowned_bare}
use Rattle.mo_names.proofs.Reading.{at_element}
use Rattle.mo_names.proofs.Twins.{base_part_owned, class_of_twin, leaf_owned, own_part_owned, owned_is_twin, started_owned}
use Rattle.mo_syntax.specs.declared.rules.TheConstants.{BASE_CLASS_CYCLE}

-- ---- where no elements can be asked for

never : (table : Table) (busy : List ℕ) (place : Place) (frame : Frame) (o : Outcome Walked) → Also (walked table zero busy place frame) o
unfolding walked
never table busy place frame o = also_never (breach BASE_CLASS_CYCLE place) o

none_given : (table : Table) (place : Place) (frame : Frame) (walk : Walked) {B : Type 0} → walked table zero [] place frame ≡ Ok walk → B
unfolding walked
none_given table place frame walk is = absurd cc

above_none : (table : Table) (asking : Asking) → Above (asking_at table 0 []) asking
above_none table asking = record {
  elements = λ place frame. never table [] place frame (asking.elements place frame);
  free = λ place frame walk is. none_given table place frame walk is;
  busy = λ class is. absurd cc;
}

base_at_also : (table : Table) (asking : Asking) (frame : Frame) (row : Option Row) (clause : Clause) → Also (base_at table (asking_at table 0 []) frame row clause) (base_at table asking frame row clause)
base_at_also table asking frame None clause = also_same _
base_at_also table asking frame (Some row) clause = base_of_also table (asking_at table 0 []) asking (above_none table asking) frame row clause

-- ---- fewer classes

pub fewer_free : (classes more : List ℕ) (deep deeper left : ℕ) (busy : List ℕ) → AreMore more classes → deep ≤ deeper → AreFree more deeper left busy → AreFree classes deep left busy
fewer_free classes more deep deeper left busy all less free = record {
  enough = let enough : deeper ≤ left = free.enough in omega arith;
  free = λ class is. free.free class (all class is);
}

pub walked_fewer : (table : Table) (classes more : List ℕ) (deep deeper : ℕ) (frame : Frame) (walk : Walked) → AreMore more classes → deep ≤ deeper → WalkedFree table classes deep frame walk → WalkedFree table more deeper frame walk
walked_fewer table classes more deep deeper frame walk all less walks left busy place free = walks left busy place (fewer_free classes more deep deeper left busy all less free)

-- ---- one part

-- the base of an extends clause, whose frame is found without asking and whose elements are known
pub base_free : (table : Table) (frame : Frame) (row : Option Row) (clause : Clause) (base : Frame) (walk so_far next : Walked) (classes : List ℕ) (deep : ℕ) →
    base_at table (asking_at table 0 []) frame row clause ≡ Ok base → WalkedFree table classes deep base walk → with_base clause.hidden base walk so_far ≡ Ok next →
    ToldFree table classes deep (λ asking. base_walked table asking frame row clause so_far) next
base_free table frame row clause base walk so_far next classes deep found walks joined left busy free =
    ap (λ (o : Outcome Frame). and_then {A = Frame × Walked} (and_then o (λ base. and_then (walked table left busy (last_place clause.base.parts) base) (λ walk. Ok (base, walk)))) (λ base. with_base clause.hidden base.0 base.1 so_far))
    ((base_at_also table (asking_at table left busy) frame row clause).also base found)
    ∙ ap (λ (o : Outcome Walked). and_then {A = Frame × Walked} (and_then o (λ walk. Ok (base, walk))) (λ base. with_base clause.hidden base.0 base.1 so_far))
    (walks left busy (last_place clause.base.parts) free)
    ∙ joined

-- the same of frames that differ in path and owner alone
base_owned_told : (table : Table) (frame : Frame) (row : Option Row) (clause : Clause) (base : Frame) (walk so_far next : Walked) (classes : List ℕ) (deep : ℕ) → is_some row ≡ true → unowned base ≡ base →
    is_top base ≡ false → length (sources_of base) ≡ length (sources_of frame) → BeginsElsewhere table frame clause.base.top clause.base.parts → base_at table (asking_at table 0 []) frame row clause ≡ Ok base →
    OwnedFree table classes deep base walk → with_base clause.hidden base walk so_far ≡ Ok next → ToldOwned table classes deep frame (λ asking owned w. base_walked table asking owned row clause w) so_far next
base_owned_told table frame None clause base walk so_far next classes deep some only inside count elsewhere found walks joined owned is left busy free = absurd cc
base_owned_told table frame (Some row) clause base walk so_far next classes deep some only inside count elsewhere found walks joined owned is left busy free =
    base_part_owned table (asking_at table left busy) owned row clause base walk so_far next
    (subst (λ f. BeginsElsewhere table f clause.base.top clause.base.parts) (sym is) elsewhere)
    (ap (λ f. base_of table (asking_at table left busy) f row clause) is ∙ (base_at_also table (asking_at table left busy) frame (Some row) clause).also base found)
    (count ∙ ap (λ f. length (sources_of f)) (sym is))
    (walks (owned_by owned base) (owned_is_twin owned base only inside) left busy (last_place clause.base.parts) free)
    joined

pub own_told : (table : Table) (frame : Frame) (row : Option Row) (item : ℕ) (declares : Declares) (so_far next : Walked) (classes : List ℕ) (deep : ℕ) → with_member (own_inherited frame item declares) so_far ≡ Ok next →
    ToldFree table classes deep (λ asking. part_walked table asking frame row item (Element_of declares) so_far) next
own_told table frame row item declares so_far next classes deep joined left busy free = joined

pub own_told_owned : (table : Table) (frame : Frame) (row : Option Row) (item : ℕ) (declares : Declares) (so_far next : Walked) (classes : List ℕ) (deep : ℕ) → with_member (own_inherited frame item declares) so_far ≡ Ok next →
    ToldOwned table classes deep frame (λ asking owned w. part_walked table asking owned row item (Element_of declares) w) so_far next
own_told_owned table frame row item declares so_far next classes deep joined owned is left busy free =
    own_part_owned owned item declares so_far next (ap (λ f. with_member (own_inherited f item declares) so_far) is ∙ joined)

-- one more part of a class, behind those before
pub part_on : (table : Table) (frame : Frame) (row : Option Row) (before after : Settling) (at : ℕ) (part : Part) (walk next : Walked) (all : ℕ → List ℕ → Outcome Walked) →
    slice_get (parts_of row) at ≡ Some part → IsFurther before after → after.item ≡ next_item part before.item →
    ToldFree table after.classes after.deep (λ asking. part_walked table asking frame row before.item part walk) next →
    ((left : ℕ) (busy : List ℕ) → AreFree before.classes before.deep left busy → parts_walked table (asking_at table left busy) frame row before.item (drop at (parts_of row)) walk ≡ all left busy) →
    (left : ℕ) (busy : List ℕ) → AreFree after.classes after.deep left busy → parts_walked table (asking_at table left busy) frame row after.item (drop (at + 1) (parts_of row)) next ≡ all left busy
part_on table frame row before after at part walk next all read further item told rest left busy free =
    ap (λ n. parts_walked table (asking_at table left busy) frame row n (drop (at + 1) (parts_of row)) next) item
    ∙ then_ok (part_walked table (asking_at table left busy) frame row before.item part walk)
    (parts_walked table (asking_at table left busy) frame row (next_item part before.item) (drop (at + 1) (parts_of row))) next (all left busy)
    (left_read (λ ps. parts_walked table (asking_at table left busy) frame row before.item ps walk) (parts_of row) at part (all left busy) read
    (rest left busy (fewer_free before.classes after.classes before.deep after.deep left busy further.classes further.deep free)))
    (told left busy free)

-- no part is left
pub parts_told : (table : Table) (frame : Frame) (row : Option Row) (item at : ℕ) (begun walk : Walked) (classes : List ℕ) (deep : ℕ) → length (parts_of row) ≤ at →
    ((left : ℕ) (busy : List ℕ) → AreFree classes deep left busy → parts_walked table (asking_at table left busy) frame row item (drop at (parts_of row)) walk ≡ parts_walked table (asking_at table left busy) frame row 0 (parts_of row) begun) →
    ToldFree table classes deep (λ asking. parts_walked table asking frame row 0 (parts_of row) begun) walk
parts_told table frame row item at begun walk classes deep end rest left busy free =
    sym (rest left busy free) ∙ ap (λ ps. parts_walked table (asking_at table left busy) frame row item ps walk) (drop_all at (parts_of row) end)

-- ---- the elements of a class

or_false : (b : Bool) → (b || false) ≡ b
or_false true = refl
or_false false = refl

contains_more : (busy : List ℕ) (c n : ℕ) → contains (busy ++ c ∷ []) n ≡ (contains busy n || nat_eq c n)
contains_more [] c n = or_false (nat_eq c n)
contains_more (m ∷ busy) c n = step (nat_eq m n) _ _ (contains_more busy c n)
  where
    step : (here more less : Bool) → more ≡ (less || nat_eq c n) → (here || more) ≡ ((here || less) || nat_eq c n)
    step true more less e = refl
    step false more less e = e

or_true : (b : Bool) → (b || true) ≡ true
or_true true = refl
or_true false = refl

among_own : (classes : List ℕ) (c : ℕ) → contains (classes ++ c ∷ []) c ≡ true
among_own classes c = contains_more classes c c ∙ rw (eq-eqb c c refl) (or_true (contains classes c))

among_others : (classes : List ℕ) (c n : ℕ) → contains classes n ≡ true → contains (classes ++ c ∷ []) n ≡ true
among_others classes c n is = contains_more classes c n ∙ rw is refl

-- a class that is not among the classes that have to be free, once it is having its bases found
still_free : (classes busy : List ℕ) (c : ℕ) → contains classes c ≡ false → ((n : ℕ) → contains (classes ++ c ∷ []) n ≡ true → contains busy n ≡ false) →
    (n : ℕ) → contains classes n ≡ true → contains (busy ++ c ∷ []) n ≡ false
still_free classes busy c other free n is = contains_more busy c n ∙ by (nat_eq c n) refl
  where
    by : (b : Bool) → nat_eq c n ≡ b → (contains busy n || nat_eq c n) ≡ false
    by true same = let here : c ≡ n = eqb-true c n same in let has : contains classes c ≡ true = rw here is in absurd cc
    by false same = rw (free n (among_others classes c n is), same) refl

pub class_free : (table : Table) (frame : Frame) (walk : Walked) (classes : List ℕ) (deep : ℕ) → contains classes (class_of frame) ≡ false →
    ToldFree table classes deep (λ asking. walked_class table asking frame (row_at table (class_of frame))) walk →
    WalkedFree table (classes ++ class_of frame ∷ []) (deep + 1) frame walk
class_free table frame walk classes deep other told left busy place free =
    let some : deep + 1 ≤ left = free.enough in
    let here : contains busy (class_of frame) ≡ false = free.free (class_of frame) (among_own classes (class_of frame)) in
    sym (walked_further table left busy place frame (omega arith) here)
    ∙ told (left - 1) (busy ++ class_of frame ∷ []) (record { enough = omega arith; free = still_free classes busy (class_of frame) other free.free })

-- where no class is having its bases found
pub none_busy : (table : Table) (classes : List ℕ) (deep : ℕ) (frame : Frame) (walk : Walked) (place : Place) → WalkedFree table classes deep frame walk → deep ≤ number_of_classes table →
    (asking_of table).elements place frame ≡ Ok walk
none_busy table classes deep frame walk place walks less = walks (number_of_classes table) [] place (record { enough = less; free = λ class is. refl })

pub free_elements : (table : Table) (frame : Frame) (walk : Walked) (classes : List ℕ) (deep count : ℕ) (place : Place) → contains classes (class_of frame) ≡ false →
    ToldFree table classes deep (λ asking. walked_class table asking frame (row_at table (class_of frame))) walk → deep ≤ count → number_of_classes table ≡ 6 + count →
    (asking_of table).elements place frame ≡ Ok walk
free_elements table frame walk classes deep count place other told less counted =
    none_busy table (classes ++ class_of frame ∷ []) (deep + 1) frame walk place (class_free table frame walk classes deep other told) (omega (arith, counted))

row_told : (table : Table) (frame : Frame) (row : Option Row) (begun walk : Walked) (classes : List ℕ) (deep : ℕ) → started frame row ≡ Ok begun →
    ToldFree table classes deep (λ asking. parts_walked table asking frame row 0 (parts_of row) begun) walk → leaf_checked walk ≡ Ok walk → ToldFree table classes deep (λ asking. walked_class table asking frame row) walk
row_told table frame row begun walk classes deep begins parts leaf left busy free =
    sym (class_is table (asking_at table left busy) frame row)
    ∙ ap (λ (o : Outcome Walked). and_then o (λ w. and_then (parts_walked table (asking_at table left busy) frame row 0 (parts_of row) w) leaf_checked)) begins
    ∙ ap (λ (o : Outcome Walked). and_then o leaf_checked) (parts left busy free)
    ∙ leaf

pub class_told : (table : Table) (frame : Frame) (begun walk : Walked) (classes : List ℕ) (deep : ℕ) → started frame (row_at table (class_of frame)) ≡ Ok begun →
    ToldFree table classes deep (λ asking. parts_walked table asking frame (row_at table (class_of frame)) 0 (parts_of (row_at table (class_of frame))) begun) walk → leaf_checked walk ≡ Ok walk →
    ToldFree table classes deep (λ asking. walked_class table asking frame (row_at table (class_of frame))) walk
class_told table frame begun walk classes deep begins parts leaf = row_told table frame (row_at table (class_of frame)) begun walk classes deep begins parts leaf

pub class_told_owned : (table : Table) (frame : Frame) (begun walk : Walked) (classes : List ℕ) (deep : ℕ) → started frame (row_at table (class_of frame)) ≡ Ok begun → begun.leaf ≡ None →
    ToldOwned table classes deep frame (λ asking owned w. parts_walked table asking owned (row_at table (class_of frame)) 0 (parts_of (row_at table (class_of frame))) w) begun walk →
    ClassOwned table classes deep frame walk
class_told_owned table frame begun walk classes deep begins leaf parts owned is =
    subst (λ c. ToldFree table classes deep (λ asking. walked_class table asking owned (row_at table c)) (owned_walk owned walk)) (ap class_of (sym is) ∙ class_of_twin owned)
    (row_told table owned (row_at table (class_of frame)) (owned_walk owned begun) (owned_walk owned walk) classes deep
    (started_owned owned (row_at table (class_of frame)) begun (ap (λ f. started f (row_at table (class_of frame))) is ∙ begins) leaf) (parts owned is) (leaf_owned owned walk))

-- ---- lists of classes

-- a class that is added, and those that are left to be added
pub union_on : (classes classes' more : List ℕ) (i c : ℕ) (all : ℕ → Bool) → i < length more → c ≡ get_or more i c → classes' ≡ classes ++ c ∷ [] →
    ((n : ℕ) → (contains classes n || contains (drop i more) n) ≡ all n) → (n : ℕ) → (contains classes' n || contains (drop (i + 1) more) n) ≡ all n
union_on classes classes' more i c all below is pushed rest n =
    ap (λ (cs : List ℕ). contains cs n || contains (drop (i + 1) more) n) pushed
    ∙ ap (λ (b : Bool). b || contains (drop (i + 1) more) n) (contains_more classes c n)
    ∙ regroup (contains classes n) (nat_eq c n) (contains (drop (i + 1) more) n)
    ∙ ap (λ (xs : List ℕ). contains classes n || contains xs n) (sym (at_element more i c below is))
    ∙ rest n
  where
    regroup : (x y z : Bool) → ((x || y) || z) ≡ (x || (y || z))
    regroup true y z = refl
    regroup false y z = refl

-- a class that is there already
pub union_there : (classes more : List ℕ) (i c : ℕ) (all : ℕ → Bool) → i < length more → c ≡ get_or more i c → contains classes c ≡ true →
    ((n : ℕ) → (contains classes n || contains (drop i more) n) ≡ all n) → (n : ℕ) → (contains classes n || contains (drop (i + 1) more) n) ≡ all n
union_there classes more i c all below is there rest n =
    by (nat_eq c n) refl ∙ ap (λ (xs : List ℕ). contains classes n || contains xs n) (sym (at_element more i c below is)) ∙ rest n
  where
    by : (b : Bool) → nat_eq c n ≡ b → (contains classes n || contains (drop (i + 1) more) n) ≡ (contains classes n || (nat_eq c n || contains (drop (i + 1) more) n))
    by true same = let here : c ≡ n = eqb-true c n same in let has : contains classes n ≡ true = subst (λ k. contains classes k ≡ true) here there in rw has refl
    by false same = rw same refl

pub union_all : (classes more : List ℕ) (i : ℕ) (all : ℕ → Bool) → length more ≤ i → ((n : ℕ) → (contains classes n || contains (drop i more) n) ≡ all n) → (n : ℕ) → contains classes n ≡ all n
union_all classes more i all end rest n = sym (or_false (contains classes n)) ∙ ap (λ (xs : List ℕ). contains classes n || contains xs n) (sym (drop_all i more end)) ∙ rest n

pub first_more : (before after more : List ℕ) → ((n : ℕ) → contains after n ≡ (contains before n || contains more n)) → AreMore after before
first_more before after more all n is = all n ∙ rw is refl

pub second_more : (before after more : List ℕ) → ((n : ℕ) → contains after n ≡ (contains before n || contains more n)) → AreMore after more
second_more before after more all n is = all n ∙ rw is (or_true (contains before n))

-- ---- what is held

pub base_is_joined : (w : World) (hidden : Bool) (base : ℕ) (one : Settled) (before after : Settling) (elements : Added) → one.frame.0 ≡ base → IsSettled w one → elements ≡ one.elements →
    with_base hidden (frame_at w base) (added_seen (frames_of w) elements) (walk_seen (frames_of w) before.walk) ≡ Ok (walk_seen (frames_of w) after.walk) →
    ((n : ℕ) → contains after.classes n ≡ (contains before.classes n || contains one.classes n)) → one.deep ≤ after.deep → (after.alike ≡ true → one.alike ≡ true) → IsJoined w hidden (frame_at w base) before after
base_is_joined w hidden base one before after elements same is copied joined all deeper alike = record {
  walk = added_seen (frames_of w) one.elements;
  free = subst (λ n. WalkedFree (table_in w) after.classes after.deep (frame_at w n) (added_seen (frames_of w) one.elements)) same
      (walked_fewer (table_in w) one.classes after.classes one.deep after.deep (frame_at w one.frame.0) (added_seen (frames_of w) one.elements) (second_more before.classes after.classes one.classes all) deeper is.free);
  owned = λ so owned twin.
      walked_fewer (table_in w) one.classes after.classes one.deep after.deep owned (owned_walk owned (added_seen (frames_of w) one.elements)) (second_more before.classes after.classes one.classes all) deeper
      (is.owned (alike so) owned (twin ∙ ap (λ n. frame_at w n) (sym same)));
  joined = ap (λ (e : Added). with_base hidden (frame_at w base) (added_seen (frames_of w) e) (walk_seen (frames_of w) before.walk)) (sym copied) ∙ joined;
}

pub is_settled_later : (u v : World) → Grows u v → (one : Settled) → IsSettled u one → IsSettled v one
is_settled_later u v g one is = record {
  frame = is_frame_later u v one.frame.0 g is.frame;
  elements = is_added_later u v one.elements g is.elements;
  free =
      subst (λ t. WalkedFree t one.classes one.deep (frame_at v one.frame.0) (added_seen (frames_of v) one.elements)) (sym (table_later u v g))
      (subst (λ f. WalkedFree (table_in u) one.classes one.deep f (added_seen (frames_of v) one.elements)) (sym (frame_later u v one.frame.0 g is.frame))
      (subst (λ w. WalkedFree (table_in u) one.classes one.deep (frame_at u one.frame.0) w) (sym (added_later u v one.elements g is.elements)) is.free));
  owned = λ alike.
      subst (λ t. OwnedFree t one.classes one.deep (frame_at v one.frame.0) (added_seen (frames_of v) one.elements)) (sym (table_later u v g))
      (subst (λ f. OwnedFree (table_in u) one.classes one.deep f (added_seen (frames_of v) one.elements)) (sym (frame_later u v one.frame.0 g is.frame))
      (subst (λ w. OwnedFree (table_in u) one.classes one.deep (frame_at u one.frame.0) w) (sym (added_later u v one.elements g is.elements)) (is.owned alike)));
}

pub are_settled_later : (u v : World) (known : List Settled) → Grows u v → AreSettled u known → AreSettled v known
are_settled_later u v known g are = every_weaker (IsSettled u) (IsSettled v) (is_settled_later u v g) known are

-- one more frame whose elements are known
pub one_more_settled : (w : World) (known : List Settled) (one : Settled) (walk : Walk) (classes : List ℕ) (deep class : ℕ) → AreSettled w known → IsFrame w one.frame.0 → IsAdded w one.elements →
    added_seen (frames_of w) one.elements ≡ walk_seen (frames_of w) walk → one.classes ≡ classes ++ class ∷ [] → one.deep ≡ deep + 1 → class ≡ class_of (frame_at w one.frame.0) → contains classes class ≡ false →
    ToldFree (table_in w) classes deep (λ asking. walked_class (table_in w) asking (frame_at w one.frame.0) (row_at (table_in w) (class_of (frame_at w one.frame.0)))) (walk_seen (frames_of w) walk) →
    (one.alike ≡ true → ClassOwned (table_in w) classes deep (frame_at w one.frame.0) (walk_seen (frames_of w) walk)) → AreSettled w (known ++ one ∷ [])
one_more_settled w known one walk classes deep class are frame elements seen more deeper same other told owns =
    every_append (IsSettled w) known (one ∷ []) are (record { frame = frame; elements = elements; free = free; owned = owned }, tt)
  where
    F : Frame
    F = frame_at w one.frame.0

    free_at : (f : Frame) (x : Walked) → class ≡ class_of f → ToldFree (table_in w) classes deep (λ asking. walked_class (table_in w) asking f (row_at (table_in w) (class_of f))) x → WalkedFree (table_in w) one.classes one.deep f x
    free_at f x c told =
        subst (λ d. WalkedFree (table_in w) one.classes d f x) (sym deeper)
        (subst (λ cs. WalkedFree (table_in w) cs (deep + 1) f x) (ap (λ n. classes ++ n ∷ []) (sym c) ∙ sym more)
        (class_free (table_in w) f x classes deep (ap (contains classes) (sym c) ∙ other) told))

    free : WalkedFree (table_in w) one.classes one.deep F (added_seen (frames_of w) one.elements)
    free = subst (λ x. WalkedFree (table_in w) one.classes one.deep F x) (sym seen) (free_at F (walk_seen (frames_of w) walk) same told)

    owned : one.alike ≡ true → OwnedFree (table_in w) one.classes one.deep F (added_seen (frames_of w) one.elements)
    owned alike f twin =
        subst (λ x. WalkedFree (table_in w) one.classes one.deep f (owned_walk f x)) (sym seen)
        (free_at f (owned_walk f (walk_seen (frames_of w) walk)) (same ∙ ap class_of (sym twin) ∙ class_of_twin f) (owns alike f twin))

-- ---- told of later worlds

pub base_told : (u v w : World) (frame : Frame) (row : Option Row) (clause : Clause) (base : ℕ) (before after : Settling) → Grows u v → Grows v w → IsFrame v base → IsWalk u before.walk →
    base_at (table_in u) (asking_at (table_in u) 0 []) frame row clause ≡ Ok (frame_at v base) → IsJoined w clause.hidden (frame_at w base) before after →
    ToldFree (table_in u) after.classes after.deep (λ asking. base_walked (table_in u) asking frame row clause (walk_seen (frames_of u) before.walk)) (walk_seen (frames_of w) after.walk)
base_told u v w frame row clause base before after g h at stand found joined =
    let same : frame_at w base ≡ frame_at v base = frame_later v w base h at in
    let so_far : walk_seen (frames_of w) before.walk ≡ walk_seen (frames_of u) before.walk = walk_later u w before.walk (grows_trans u v w g h) stand in
    let table : table_in w ≡ table_in u = table_later u w (grows_trans u v w g h) in
    base_free (table_in u) frame row clause (frame_at v base) joined.walk (walk_seen (frames_of u) before.walk) (walk_seen (frames_of w) after.walk) after.classes after.deep found
    (subst (λ t. WalkedFree t after.classes after.deep (frame_at v base) joined.walk) table (subst (λ f. WalkedFree (table_in w) after.classes after.deep f joined.walk) same joined.free))
    (ap (λ f. with_base clause.hidden f joined.walk (walk_seen (frames_of u) before.walk)) (sym same)
    ∙ ap (λ b. with_base clause.hidden (frame_at w base) joined.walk b) (sym so_far) ∙ joined.joined)

pub base_told_owned : (u v w : World) (n : ℕ) (clause : Clause) (base : ℕ) (before after : Settling) → Grows u v → Grows v w → IsFrame u n → IsFrame v base → IsWalk u before.walk →
    base_at (table_in u) (asking_at (table_in u) 0 []) (frame_at u n) (row_at (table_in u) (class_of (frame_at u n))) clause ≡ Ok (frame_at v base) → IsJoined w clause.hidden (frame_at w base) before after →
    after.alike ≡ true → is_some (row_at (table_in w) (class_of (frame_at w n))) ≡ true → unowned (frame_at w base) ≡ frame_at w base →
    length (sources_of (frame_at w base)) ≡ length (sources_of (frame_at w n)) → BeginsElsewhere (table_in w) (frame_at w n) clause.base.top clause.base.parts →
    ToldOwned (table_in u) after.classes after.deep (frame_at u n) (λ asking owned x. base_walked (table_in u) asking owned (row_at (table_in u) (class_of (frame_at u n))) clause x)
    (walk_seen (frames_of u) before.walk) (walk_seen (frames_of w) after.walk)
base_told_owned u v w n clause base before after g h at is_base stand found joined alike some only count elsewhere =
    let same : frame_at w base ≡ frame_at v base = frame_later v w base h is_base in
    let around : frame_at w n ≡ frame_at u n = frame_later u w n (grows_trans u v w g h) at in
    let so_far : walk_seen (frames_of w) before.walk ≡ walk_seen (frames_of u) before.walk = walk_later u w before.walk (grows_trans u v w g h) stand in
    let table : table_in w ≡ table_in u = table_later u w (grows_trans u v w g h) in
    base_owned_told (table_in u) (frame_at u n) (row_at (table_in u) (class_of (frame_at u n))) clause (frame_at v base) joined.walk (walk_seen (frames_of u) before.walk) (walk_seen (frames_of w) after.walk) after.classes after.deep
    (subst (λ t. is_some (row_at t (class_of (frame_at u n))) ≡ true) table (subst (λ f. is_some (row_at (table_in w) (class_of f)) ≡ true) around some))
    (subst (λ f. unowned f ≡ f) same only)
    (is_no_top v base is_base)
    (ap (λ f. length (sources_of f)) (sym same) ∙ count ∙ ap (λ f. length (sources_of f)) around)
    (subst (λ t. BeginsElsewhere t (frame_at u n) clause.base.top clause.base.parts) table (subst (λ f. BeginsElsewhere (table_in w) f clause.base.top clause.base.parts) around elsewhere))
    found
    (subst (λ t. OwnedFree t after.classes after.deep (frame_at v base) joined.walk) table (subst (λ f. OwnedFree (table_in w) after.classes after.deep f joined.walk) same (joined.owned alike)))
    (ap (λ f. with_base clause.hidden f joined.walk (walk_seen (frames_of u) before.walk)) (sym same)
    ∙ ap (λ b. with_base clause.hidden (frame_at w base) joined.walk b) (sym so_far) ∙ joined.joined)

pub part_told_owned : (u v : World) (n item : ℕ) (part : Part) (walk next : Walked) (classes : List ℕ) (deep : ℕ) → Grows u v → IsFrame u n →
    ToldOwned (table_in v) classes deep (frame_at v n) (λ asking owned x. part_walked (table_in v) asking owned (row_at (table_in v) (class_of (frame_at v n))) item part x) walk next →
    ToldOwned (table_in u) classes deep (frame_at u n) (λ asking owned x. part_walked (table_in u) asking owned (row_at (table_in u) (class_of (frame_at u n))) item part x) walk next
part_told_owned u v n item part walk next classes deep g at told =
    subst (λ f. ToldOwned (table_in u) classes deep f (λ asking owned x. part_walked (table_in u) asking owned (row_at (table_in u) (class_of f)) item part x) walk next) (frame_later u v n g at)
    (subst (λ t. ToldOwned t classes deep (frame_at v n) (λ asking owned x. part_walked t asking owned (row_at t (class_of (frame_at v n))) item part x) walk next) (table_later u v g) told)

pub class_owned_later : (u v : World) (n : ℕ) (walk : Walked) (classes : List ℕ) (deep : ℕ) → Grows u v → IsFrame u n →
    ClassOwned (table_in u) classes deep (frame_at u n) walk → ClassOwned (table_in v) classes deep (frame_at v n) walk
class_owned_later u v n walk classes deep g at told =
    subst (λ f. ClassOwned (table_in v) classes deep f walk) (sym (frame_later u v n g at)) (subst (λ t. ClassOwned t classes deep (frame_at u n) walk) (sym (table_later u v g)) told)

pub part_told_free : (u v : World) (n item : ℕ) (part : Part) (walk next : Walked) (classes : List ℕ) (deep : ℕ) → Grows u v → IsFrame u n →
    ToldFree (table_in v) classes deep (λ asking. part_walked (table_in v) asking (frame_at v n) (row_at (table_in v) (class_of (frame_at v n))) item part walk) next →
    ToldFree (table_in u) classes deep (λ asking. part_walked (table_in u) asking (frame_at u n) (row_at (table_in u) (class_of (frame_at u n))) item part walk) next
part_told_free u v n item part walk next classes deep g at told =
    subst (λ f. ToldFree (table_in u) classes deep (λ asking. part_walked (table_in u) asking f (row_at (table_in u) (class_of f)) item part walk) next) (frame_later u v n g at)
    (subst (λ t. ToldFree t classes deep (λ asking. part_walked t asking (frame_at v n) (row_at t (class_of (frame_at v n))) item part walk) next) (table_later u v g) told)

pub class_told_later : (u v : World) (n : ℕ) (walk : Walked) (classes : List ℕ) (deep : ℕ) → Grows u v → IsFrame u n →
    ToldFree (table_in u) classes deep (λ asking. walked_class (table_in u) asking (frame_at u n) (row_at (table_in u) (class_of (frame_at u n)))) walk →
    ToldFree (table_in v) classes deep (λ asking. walked_class (table_in v) asking (frame_at v n) (row_at (table_in v) (class_of (frame_at v n)))) walk
class_told_later u v n walk classes deep g at told =
    subst (λ f. ToldFree (table_in v) classes deep (λ asking. walked_class (table_in v) asking f (row_at (table_in v) (class_of f))) walk) (sym (frame_later u v n g at))
    (subst (λ t. ToldFree t classes deep (λ asking. walked_class t asking (frame_at u n) (row_at t (class_of (frame_at u n)))) walk) (sym (table_later u v g)) told)

-- ---- where no class is having its bases found

pub elements_freely : (table : Table) (frame : Frame) (walk : Walked) (classes : List ℕ) (deep : ℕ) (place : Place) → contains classes (class_of frame) ≡ false → 6 + deep ≤ number_of_classes table →
    ToldFree table classes deep (λ asking. walked_class table asking frame (row_at table (class_of frame))) walk → (asking_of table).elements place frame ≡ Ok walk
elements_freely table frame walk classes deep place other less told =
    none_busy table (classes ++ class_of frame ∷ []) (deep + 1) frame walk place (class_free table frame walk classes deep other told) (omega (arith, less))

pub elements_earlier : (u v : World) (n : ℕ) (place : Place) (outcome : Outcome Walked) → Grows u v → IsFrame u n → (asking_of (table_in v)).elements place (frame_at v n) ≡ outcome →
    (asking_of (table_in u)).elements place (frame_at u n) ≡ outcome
elements_earlier u v n place outcome g at is =
    ap (λ f. (asking_of (table_in u)).elements place f) (sym (frame_later u v n g at)) ∙ ap (λ t. (asking_of t).elements place (frame_at v n)) (sym (table_later u v g)) ∙ is

pub some_earlier : {A : Type 0} (u v : World) (n : ℕ) (seen : A → Walked) (o : Option A) → Grows u v → IsFrame u n → IfSome o (λ x. (place : Place) → (asking_of (table_in v)).elements place (frame_at v n) ≡ Ok (seen x)) →
    IfSome o (λ x. (place : Place) → (asking_of (table_in u)).elements place (frame_at u n) ≡ Ok (seen x))
some_earlier u v n seen None g at is = tt
some_earlier u v n seen (Some x) g at is = λ place. elements_earlier u v n place (Ok (seen x)) g at (is place)

pub ok_earlier : {A E : Type 0} (u v : World) (n : ℕ) (seen : A → Walked) (r : Result (Option A) E) → Grows u v → IsFrame u n →
    IfOk r (λ o. IfSome o (λ x. (place : Place) → (asking_of (table_in v)).elements place (frame_at v n) ≡ Ok (seen x))) →
    IfOk r (λ o. IfSome o (λ x. (place : Place) → (asking_of (table_in u)).elements place (frame_at u n) ≡ Ok (seen x)))
ok_earlier u v n seen (Ok o) g at is = some_earlier u v n seen o g at is
ok_earlier u v n seen (Err e) g at is = tt

-- the class of a frame without sources by that of the frame that differs from it in path and owner alone
pub twin_told : (u v w : World) (n twin class : ℕ) (outer : Frame) (walk : Walked) (classes : List ℕ) (deep : ℕ) → Grows u v → Grows v w → IsFrame u n → IsFrame v twin → sources_of (frame_at u n) ≡ [] →
    class ≡ class_of (frame_at u n) → outer ≡ outer_of (frame_at u n) → frame_at v twin ≡ looked_up class [] outer → ClassOwned (table_in v) classes deep (frame_at v twin) walk →
    ToldFree (table_in w) classes deep (λ asking. walked_class (table_in w) asking (frame_at w n) (row_at (table_in w) (class_of (frame_at w n)))) (owned_walk (frame_at w n) walk)
twin_told u v w n twin class outer walk classes deep g h at is_twin none same around is told =
    let frame : frame_at w n ≡ frame_at u n = frame_later u w n (grows_trans u v w g h) at in
    let later : ClassOwned (table_in w) classes deep (frame_at w twin) walk = class_owned_later v w twin walk classes deep h is_twin told in
    later (frame_at w n)
    (ap unowned frame ∙ unowned_bare u n at none ∙ ap (λ c. looked_up c [] (outer_of (frame_at u n))) (sym same) ∙ ap (looked_up class []) (sym around) ∙ sym is ∙ sym (frame_later v w twin h is_twin))

pub ruleset unions = (union_on, union_there, union_all)

pub ruleset joining = (base_is_joined, first_more)

pub ruleset settling = (are_settled_later, base_told, class_told_later, one_more_settled, free_elements)

pub ruleset freely = (elements_freely, elements_earlier, twin_told, class_told_later)
