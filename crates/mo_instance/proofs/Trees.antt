-- The instances of a class are a tree: each has a path of its own, below an instance before it, and the path of its frame.
use Rattle.std.proofs.Common.{◌≡◌, ℕ, zero, suc, ◌+◌, ◌-◌, ◌<◌, ◌⊎◌, inl, inr, Bool, true, false, List, [], ◌∷◌, ◌++◌, map, flat_map, Option, Some, None, Ok, Err, refl, ap, sym, subst, ◌∙◌, arith, append_assoc, append-nil}
use Rattle.std.specs.Prelude.{◌≢◌, ◌&&◌, if◌then◌else◌, option_map, IsTrue, Any}
use Rattle.std.specs.List.{list_all}
use Rattle.std.specs.List.{AllByRecursion}
use Rattle.std.proofs.lemmas.List.Elements.{All-from_recursion}
use Rattle.std.specs.Str.{bytes_eq}
use Rattle.mo_syntax.specs.Outcome.{Outcome, and_then}
use Rattle.mo_syntax.specs.SoundTree.{Naming, any_name}
use Rattle.mo_syntax.specs.declared.place.Place.{Place}
use Rattle.mo_scope.specs.Places.{Every}
use Rattle.mo_scope.specs.Rows.{Table, Row, is_class, number_of_classes, row_at}
use Rattle.mo_scope.specs.Frames.{Frame, Indexed, Member, at_of, class_of, sources_of}
use Rattle.mo_scope.specs.Arguments.{second_pass}
use Rattle.mo_scope.specs.Lookup.{Inherited, Walked, final_frame, members_in}
use Rattle.mo_scope.specs.Names.{Child, child_of_member, component_frame, walk_of}
use Rattle.mo_scope.specs.Instances.{Instance, Leaf, IsAt, IsBelow, Follow, IsInstanceTree, tree}
use Rattle.mo_scope.specs.Redeclarations.{Checked, each_checked, redeclarations_checked}
use Rattle.mo_scope.proofs.laws.Standing.{every_append, every_back, every_front, every_weaker, every_map}
use Rattle.mo_mods.proofs.PathTests.{text_test}
use Rattle.mo_typing.specs.Dims.{Dims}
use Rattle.mo_typing.specs.Indices.{Index, indices, numbers_to}
use Rattle.mo_eval.specs.Values.{most_references, there_of}
use Rattle.mo_instance.specs.Checks.{base_passed, before_last, frame_checked, frame_passed, in_profile, partial_base, replaces_inherited, type_checked, whole_class}
use Rattle.mo_instance.specs.Elements.{Around, class_place, instance_of, leaf_of, room_for_one}
use Rattle.mo_instance.specs.Instances.{Adding, Parts, Deeper, adding_each, around_root, component_entered, deeper, element_entered, entered_by, instances_by, instances_in, instances_of, member_entered, most_names, parts_entered, root_frame, root_instance}
use Rattle.mo_instance.specs.Outer.{outer_checked}
use Rattle.mo_instance.specs.Passes.{first_pass}
use Rattle.mo_instance.specs.steps.Instances.{component_asked}
use Rattle.mo_instance.proofs.Members.{Different, IsWalkedOf, RowNamed, all_named, walk_has}
use Rattle.mo_instance.proofs.Walking.{component_is, elements_of}

-- ---- outcomes taken apart

then_inverse : {A B : Type 0} (o : Outcome A) (f : A → Outcome B) (b : B) → and_then o f ≡ Ok b → (a : A) × (o ≡ Ok a) × (f a ≡ Ok b)
then_inverse (Ok a) f b e = (a, refl, e)
then_inverse (Err x) f b e = absurd cc

same_behind : (o : Checked) (a b : Walked) → and_then o (λ _. Ok a) ≡ Ok b → ◌≡◌ {A = Outcome Walked} (Ok a) (Ok b)
same_behind (Ok u) a b e = e
same_behind (Err x) a b e = absurd cc

found_behind : (o : Outcome Walked) (b c d e f : Walked → Checked) (r : Walked) →
    and_then o (λ walked. and_then (b walked) (λ _. and_then (c walked) (λ _. and_then (d walked) (λ _. and_then (e walked) (λ _. and_then (f walked) (λ _. Ok walked)))))) ≡ Ok r → o ≡ Ok r
found_behind (Err x) b c d e f r is = absurd cc
found_behind (Ok walked) b c d e f r is = by (b walked) (c walked) (d walked) (e walked) (f walked) is
  where
    by : (u v w x y : Checked) → and_then u (λ _. and_then v (λ _. and_then w (λ _. and_then x (λ _. and_then y (λ _. Ok walked))))) ≡ Ok r → ◌≡◌ {A = Outcome Walked} (Ok walked) (Ok r)
    by (Ok u) (Ok v) (Ok w) (Ok x) (Ok y) is = is
    by (Ok u) (Ok v) (Ok w) (Ok x) (Err y) is = absurd cc
    by (Ok u) (Ok v) (Ok w) (Err x) y is = absurd cc
    by (Ok u) (Ok v) (Err w) x y is = absurd cc
    by (Ok u) (Err v) w x y is = absurd cc
    by (Err u) v w x y is = absurd cc

-- the elements of a frame whose checks are made are those of its walk
pub checked_walk : (table : Table) (place : Place) (frame : Frame) (walked : Walked) → frame_checked table place frame ≡ Ok walked → walk_of table frame ≡ Ok walked
checked_walk table place frame walked e =
    let whole = then_inverse (whole_class table place frame) _ walked e in
    let passed = then_inverse (frame_passed table (λ name. false) (sources_of frame) frame) _ walked whole.2 in
    found_behind (walk_of table frame) (λ _. in_profile table frame) (λ walked. first_pass table frame (λ name. false) walked (sources_of frame)) (λ _. second_pass table (sources_of frame))
    (λ walked. redeclarations_checked table walked frame) (λ _. replaces_inherited table frame) passed.0 passed.1
    ∙ same_behind (each_checked (λ through. base_passed table (before_last frame through) (final_frame through)) passed.0.bases) passed.0 walked passed.2

pub type_walk : (table : Table) (place : Place) (frame : Frame) (walked : Walked) → type_checked table place frame ≡ Ok walked → walk_of table frame ≡ Ok walked
type_walk table place frame walked e =
    let named = then_inverse (partial_base table frame) _ walked e in
    checked_walk table place frame walked named.2

-- ---- where instances stand

abbrev Stands : Indexed → List Instance → Type 0
Stands p [] = ⊥
Stands p (x ∷ xs) = (x.path ≡ p) ⊎ Stands p xs

stands_left : (p : Indexed) (xs ys : List Instance) → Stands p xs → Stands p (xs ++ ys)
stands_left p [] ys h = absurd h
stands_left p (x ∷ xs) ys (inl is) = inl is
stands_left p (x ∷ xs) ys (inr h) = inr (stands_left p xs ys h)

stands_last : (p : Indexed) (xs : List Instance) (x : Instance) → x.path ≡ p → Stands p (xs ++ x ∷ [])
stands_last p [] x is = inl is
stands_last p (y ∷ xs) x is = inr (stands_last p xs x is)

stands_any : (p : Indexed) (xs : List Instance) → Stands p xs → Any (IsAt p) xs
stands_any p [] h = absurd h
stands_any p (x ∷ xs) (inl is) = (0, x, omega arith, refl, is)
stands_any p (x ∷ xs) (inr h) = let m = stands_any p xs h in (suc m.0, m.1, omega (arith, m.2), m.3, m.4)

-- a path that no instance has
abbrev Clear : (Indexed → Type 0) → List Instance → Type 0
Clear Own xs = Every (λ other. Own other.path → ⊥) xs

-- ---- what is added

record Follows_path (naming : Naming) (before : List Instance) (instance : Instance) : Type 0 where
  new : Every (λ other. other.path ≡ instance.path → ⊥) before
  below : IsBelow before instance.path
  frame : at_of instance.frame ≡ Some instance.path
  names : IsTrue (list_all (λ step. naming step.0) instance.path)

abbrev Follow_paths : Naming → List Instance → List Instance → Type 0
Follow_paths naming before [] = Unit {0}
Follow_paths naming before (instance ∷ others) = Follows_path naming before instance × Follow_paths naming (before ++ instance ∷ []) others

record Extended (naming : Naming) (Q : Indexed → Type 0) (so_far more : List Instance) : Type 0 where
  added : List Instance
  is : more ≡ so_far ++ added
  follow : Follow_paths naming so_far added
  within : Every (λ one. Q one.path) added

abbrev ExtendsTo : Naming → (Indexed → Type 0) → List Instance → Outcome (List Instance) → Type 0
ExtendsTo naming Q so_far (Ok more) = Extended naming Q so_far more
ExtendsTo naming Q so_far (Err broken) = Unit {0}

nothing_added : (naming : Naming) (Q : Indexed → Type 0) (so_far : List Instance) → Extended naming Q so_far so_far
nothing_added naming Q so_far = record { added = []; is = sym (append-nil so_far); follow = tt; within = tt }

-- paths of their own, whatever classes there are
abbrev pub DistinctPaths : List Instance → Type 0
DistinctPaths [] = Unit {0}
DistinctPaths (x ∷ xs) = Every (λ y. y.path ≡ x.path → ⊥) xs × DistinctPaths xs

-- what follows instances has other paths than one of them
others_distinct : (naming : Naming) (x : Instance) (before others : List Instance) → ((P : Instance → Type 0) → Every P before → P x) → Follow_paths naming before others →
    Every (λ y. y.path ≡ x.path → ⊥) others
others_distinct naming x before [] among h = tt
others_distinct naming x before (y ∷ ys) among h = (
  λ same. among (λ other. other.path ≡ y.path → ⊥) h.0.new (sym same),
  others_distinct naming x (before ++ y ∷ []) ys (λ P all. among P (every_front P before (y ∷ []) all)) h.1,
)

follow_distinct : (naming : Naming) (before others : List Instance) → Follow_paths naming before others → DistinctPaths others
follow_distinct naming before [] h = tt
follow_distinct naming before (y ∷ ys) h = (
  others_distinct naming y (before ++ y ∷ []) ys (λ P all. (every_back P before (y ∷ []) all).0) h.1,
  follow_distinct naming (before ++ y ∷ []) ys h.1,
)

follow_append : (naming : Naming) (before xs ys : List Instance) → Follow_paths naming before xs → Follow_paths naming (before ++ xs) ys → Follow_paths naming before (xs ++ ys)
follow_append naming before [] ys h k = subst (λ b. Follow_paths naming b ys) (append-nil before) k
follow_append naming before (x ∷ xs) ys h k =
    (h.0, follow_append naming (before ++ x ∷ []) xs ys h.1 (subst (λ b. Follow_paths naming b ys) (sym (append_assoc before (x ∷ []) xs)) k))

joined : (naming : Naming) (P Q R : Indexed → Type 0) (so_far more : List Instance) (o : Outcome (List Instance)) → ((path : Indexed) → P path → R path) → ((path : Indexed) → Q path → R path) →
    Extended naming P so_far more → ExtendsTo naming Q more o → ExtendsTo naming R so_far o
joined naming P Q R so_far more (Err b) p q h k = tt
joined naming P Q R so_far more (Ok all) p q h k = record {
  added = h.added ++ k.added;
  is = k.is ∙ ap (λ xs. xs ++ k.added) h.is ∙ append_assoc so_far h.added k.added;
  follow = follow_append naming so_far h.added k.added h.follow (subst (λ b. Follow_paths naming b k.added) h.is k.follow);
  within = every_append (λ one. R one.path) h.added k.added (every_weaker (λ one. P one.path) (λ one. R one.path) (λ one. p one.path) h.added h.within)
      (every_weaker (λ one. Q one.path) (λ one. R one.path) (λ one. q one.path) k.added k.within);
}

abbrev ApartFrom : {A : Type 0} → (A → Indexed → Type 0) → A → A → Type 0
ApartFrom Own x y = (path : Indexed) → Own x path → Own y path → ⊥

abbrev Apart : {A : Type 0} → (A → Indexed → Type 0) → List A → Type 0
Apart Own [] = Unit {0}
Apart Own (x ∷ xs) = Every (ApartFrom Own x) xs × Apart Own xs

-- One after another: what each adds are paths of its own, which nothing before has.
chain : {A : Type 0} (naming : Naming) (add : A → Adding) (Own : A → Indexed → Type 0) (Good : A → Type 0) (W : Indexed → Type 0) (p : Indexed) →
    ((x : A) (so_far : List Instance) → Good x → Stands p so_far → Clear (Own x) so_far → ExtendsTo naming (Own x) so_far (add x so_far)) →
    ((x : A) (path : Indexed) → Own x path → W path) →
    (xs : List A) → Every Good xs → Apart Own xs → (so_far : List Instance) → Stands p so_far → Every (λ x. Clear (Own x) so_far) xs → ExtendsTo naming W so_far (adding_each add xs so_far)
chain naming add Own Good W p step weaker [] good apart so_far stands clear = nothing_added naming W so_far
chain {A} naming add Own Good W p step weaker (x ∷ xs) good apart so_far stands clear =
    by (λ more there none. chain naming add Own Good W p step weaker xs good.1 apart.1 more there none) (add x so_far) (step x so_far good.0 stands clear.0)
  where
    still : (more : List Instance) → Extended naming (Own x) so_far more → (ys : List A) → Every (ApartFrom Own x) ys → Every (λ y. Clear (Own y) so_far) ys → Every (λ y. Clear (Own y) more) ys
    still more h [] apart clear = tt
    still more h (y ∷ ys) apart clear = (
      subst (Clear (Own y)) (sym h.is) (every_append (λ other. Own y other.path → ⊥) so_far h.added clear.0 (every_weaker (λ one. Own x one.path) _ (λ one own other. apart.0 one.path own other) h.added h.within)),
      still more h ys apart.1 clear.1,
    )

    by : ((more : List Instance) → Stands p more → Every (λ y. Clear (Own y) more) xs → ExtendsTo naming W more (adding_each add xs more)) →
        (o : Outcome (List Instance)) → ExtendsTo naming (Own x) so_far o → ExtendsTo naming W so_far (and_then o (adding_each add xs))
    by rest (Err b) h = tt
    by rest (Ok more) h =
        joined naming (Own x) W W so_far more (adding_each add xs more) (weaker x) (λ path own. own) h
        (rest more (subst (Stands p) (sym h.is) (stands_left p so_far h.added stands)) (still more h xs apart.0 clear.1))

-- ---- paths

abbrev at_index : Indexed → List ℕ → Index → Indexed
at_index p name index = p ++ (name, index) ∷ []

-- at or below an element of a component, at or below one of its elements, strictly below
abbrev OfElement : Indexed → List ℕ → Index → Indexed → Type 0
OfElement p name index path = (rest : Indexed) × (path ≡ at_index p name index ++ rest)

abbrev OfName : Indexed → List ℕ → Indexed → Type 0
OfName p name path = (index : Index) × OfElement p name index path

abbrev OfParts : Indexed → Indexed → Type 0
OfParts p path = (name : List ℕ) × OfName p name path

same_step : (p r s : Indexed) (a b : List ℕ × Index) → (p ++ a ∷ []) ++ r ≡ (p ++ b ∷ []) ++ s → a ≡ b
same_step [] r s a b e = cc
same_step (x ∷ p) r s a b e = let rest : (p ++ a ∷ []) ++ r ≡ (p ++ b ∷ []) ++ s = cc in same_step p r s a b rest

apart_indices : (p : Indexed) (name : List ℕ) (i j : Index) → (i ≡ j → ⊥) → ApartFrom (OfElement p name) i j
apart_indices p name i j other path a b = other (ap (λ (step : List ℕ × Index). step.1) (same_step p a.0 b.0 (name, i) (name, j) (sym a.1 ∙ b.1)))

name_itself : (name : List ℕ) → bytes_eq name name ≡ true
name_itself name = text_test name name true ((λ is. refl), (λ is. refl))

apart_names : (p : Indexed) (a b : List ℕ) → bytes_eq a b ≡ false → (path : Indexed) → OfName p a path → OfName p b path → ⊥
apart_names p a b other path x y =
    let names : a ≡ b = ap (λ (step : List ℕ × Index). step.0) (same_step p x.1.0 y.1.0 (a, x.0) (b, y.0) (sym x.1.1 ∙ y.1.1)) in
    let both : bytes_eq a b ≡ true = subst (λ n. bytes_eq a n ≡ true) names (name_itself a) in
    cc

-- ---- indices differ

abbrev Apart_indices : List Index → Type 0
Apart_indices [] = Unit {0}
Apart_indices (i ∷ is) = Every (λ j. i ≡ j → ⊥) is × Apart_indices is

apart_append : (is js : List Index) → Apart_indices is → Apart_indices js → Every (λ i. Every (λ j. i ≡ j → ⊥) js) is → Apart_indices (is ++ js)
apart_append [] js a b between = b
apart_append (i ∷ is) js a b between = (every_append (λ j. i ≡ j → ⊥) is js a.0 between.0, apart_append is js a.1 b between.1)

with_first : (k : ℕ) (is : List Index) → Apart_indices is → Apart_indices (map (λ index. k ∷ index) is)
with_first k [] a = tt
with_first k (i ∷ is) a = (every_map (λ j. (k ∷ i) ≡ j → ⊥) (λ index. k ∷ index) is (every_weaker (λ j. i ≡ j → ⊥) _ (λ j other same. other cc) is a.0), with_first k is a.1)

begins : (k : ℕ) (is : List Index) → Every (λ index. (rest : Index) × (index ≡ k ∷ rest)) (map (λ index. k ∷ index) is)
begins k [] = tt
begins k (i ∷ is) = ((i, refl), begins k is)

gathered_last : (is : List Index) (k : ℕ) (ns : List ℕ) → flat_map (λ n. map (λ index. n ∷ index) is) (ns ++ k ∷ []) ≡ flat_map (λ n. map (λ index. n ∷ index) is) ns ++ map (λ index. k ∷ index) is
gathered_last is k [] = append-nil (map (λ index. k ∷ index) is)
gathered_last is k (n ∷ ns) =
    ap (λ (xs : List Index). map (λ index. n ∷ index) is ++ xs) (gathered_last is k ns)
    ∙ sym (append_assoc (map (λ index. n ∷ index) is) (flat_map (λ n. map (λ index. n ∷ index) is) ns) (map (λ index. k ∷ index) is))

abbrev Begins_at_most : ℕ → Index → Type 0
Begins_at_most n index = (k : ℕ) × (rest : Index) × (index ≡ k ∷ rest) × (k < n + 1)

-- the first numbers are at most n
at_most : (is : List Index) (n : ℕ) → Every (Begins_at_most n) (flat_map (λ k. map (λ index. k ∷ index) is) (numbers_to n))
at_most is zero = tt
at_most is (suc n) =
    subst (Every (Begins_at_most (suc n))) (sym (gathered_last is (suc n) (numbers_to n)))
    (every_append (Begins_at_most (suc n)) (flat_map (λ k. map (λ index. k ∷ index) is) (numbers_to n)) (map (λ index. suc n ∷ index) is)
    (every_weaker (Begins_at_most n) (Begins_at_most (suc n)) (λ index h. (h.0, h.1, h.2, omega (arith, h.3))) (flat_map (λ k. map (λ index. k ∷ index) is) (numbers_to n)) (at_most is n))
    (every_weaker (λ index. (rest : Index) × (index ≡ suc n ∷ rest)) (Begins_at_most (suc n)) (λ index h. (suc n, h.0, h.1, omega arith)) (map (λ index. suc n ∷ index) is) (begins (suc n) is)))

later_differ : (n : ℕ) (is js : List Index) → Every (Begins_at_most n) is → Every (λ index. (rest : Index) × (index ≡ suc n ∷ rest)) js → Every (λ i. Every (λ j. i ≡ j → ⊥) js) is
later_differ n [] js a b = tt
later_differ n (i ∷ is) js a b = (
  every_weaker (λ index. (rest : Index) × (index ≡ suc n ∷ rest)) (λ j. i ≡ j → ⊥) (λ j h same. differ a.0 h same) js b,
  later_differ n is js a.1 b,
)
  where
    differ : {j : Index} → Begins_at_most n i → (rest : Index) × (j ≡ suc n ∷ rest) → i ≡ j → ⊥
    differ x y same = let firsts : x.0 ∷ x.1 ≡ suc n ∷ y.0 = sym x.2 ∙ same ∙ y.1 in let equal : x.0 ≡ suc n = cc in omega (arith, x.3, equal)

apart_numbers : (is : List Index) (n : ℕ) → Apart_indices is → Apart_indices (flat_map (λ k. map (λ index. k ∷ index) is) (numbers_to n))
apart_numbers is zero a = tt
apart_numbers is (suc n) a =
    subst Apart_indices (sym (gathered_last is (suc n) (numbers_to n)))
    (apart_append (flat_map (λ k. map (λ index. k ∷ index) is) (numbers_to n)) (map (λ index. suc n ∷ index) is) (apart_numbers is n a) (with_first (suc n) is a)
    (later_differ n (flat_map (λ k. map (λ index. k ∷ index) is) (numbers_to n)) (map (λ index. suc n ∷ index) is) (at_most is n) (begins (suc n) is)))

pub indices_differ : (dims : Dims) → Apart_indices (indices dims)
indices_differ [] = (tt, tt)
indices_differ (n ∷ dims) = apart_numbers (indices dims) n (indices_differ dims)

indices_apart : (p : Indexed) (name : List ℕ) (is : List Index) → Apart_indices is → Apart (OfElement p name) is
indices_apart p name [] a = tt
indices_apart p name (i ∷ is) a = (every_weaker (λ j. i ≡ j → ⊥) (ApartFrom (OfElement p name) i) (λ j other. apart_indices p name i j other) is a.0, indices_apart p name is a.1)

-- ---- the walk

module _ (naming : Naming) (table : Table) (named : Every (RowNamed naming) table) where
  -- what the parts of a frame at a path add is below it
  record PartsLaw (parts : Parts) : Type 0 where
    law : (around : Around) (frame : Frame) (walked : Walked) (so_far : List Instance) (p : Indexed) → walk_of table frame ≡ Ok walked → at_of frame ≡ Some p →
        IsTrue (list_all (λ step. naming step.0) p) → Stands p so_far → Clear (OfParts p) so_far → ExtendsTo naming (OfParts p) so_far (parts around walked so_far)

  abbrev DeeperLaw : Outcome Parts → Type 0
  DeeperLaw (Ok parts) = PartsLaw parts
  DeeperLaw (Err broken) = Unit {0}

  named_longer : (p : Indexed) (name : List ℕ) (index : Index) → IsTrue (list_all (λ step. naming step.0) p) → IsTrue (naming name) → IsTrue (list_all (λ step. naming step.0) (at_index p name index))
  named_longer [] name index all this = rw this refl
  named_longer (x ∷ p) name index all this = by (naming x.0) all (λ others. named_longer p name index others this)
    where
      by : (b : Bool) → (b && list_all (λ step. naming step.0) p) ≡ true → (list_all (λ step. naming step.0) p ≡ true → list_all (λ step. naming step.0) (at_index p name index) ≡ true) →
          (b && list_all (λ step. naming step.0) (at_index p name index)) ≡ true
      by true others rest = rest others
      by false others rest = absurd cc

  -- an element that is put, then its parts
  put_element : (p : Indexed) (name : List ℕ) (index : Index) (so_far : List Instance) (instance : Instance) (o : Outcome (List Instance)) →
      instance.path ≡ at_index p name index → at_of instance.frame ≡ Some (at_index p name index) → IsTrue (list_all (λ step. naming step.0) (at_index p name index)) → Stands p so_far →
      Clear (OfElement p name index) so_far → ExtendsTo naming (OfParts (at_index p name index)) (so_far ++ instance ∷ []) o → ExtendsTo naming (OfElement p name index) so_far o
  put_element p name index so_far instance o path at all stands clear after =
      joined naming (OfElement p name index) (OfParts (at_index p name index)) (OfElement p name index) so_far (so_far ++ instance ∷ []) o (λ path own. own)
      (λ path own. ((own.0, own.1.0) ∷ own.1.1.0, own.1.1.1 ∙ append_assoc (at_index p name index) ((own.0, own.1.0) ∷ []) own.1.1.0))
      (record {
        added = instance ∷ [];
        is = refl;
        follow = (
          record {
            new = every_weaker (λ other. OfElement p name index other.path → ⊥) _ (λ other none same. none ([], same ∙ path ∙ sym (append-nil (at_index p name index)))) so_far clear;
            below = record { parent = p; name = name; index = index; splits = path; stands = stands_any p so_far stands };
            frame = at ∙ ap (λ (x : Indexed). Some x) (sym path);
            names = subst (λ x. IsTrue (list_all (λ step. naming step.0) x)) (sym path) all;
          },
          tt,
        );
        within = (([], path ∙ sym (append-nil (at_index p name index))), tt);
      })
      after

  element_extends : (parts : Parts) → PartsLaw parts → (around : Around) (member : Member) (dims : Dims) (p : Indexed) → at_of member.home ≡ Some p → IsTrue (list_all (λ step. naming step.0) p) →
      IsTrue (naming member.name) → (index : Index) (so_far : List Instance) → Stands p so_far → Clear (OfElement p member.name index) so_far →
      ExtendsTo naming (OfElement p member.name index) so_far (element_entered table parts around member dims index so_far)
  element_extends parts parts_law around member dims p home all name index so_far stands clear = by_room (room_for_one around.asked so_far)
    where
      at_frame : (child : Child) → at_of (component_frame member index child) ≡ Some (at_index p member.name index)
      at_frame child = ap (option_map (λ names. names ++ (member.name, index) ∷ [])) home

      path_is : (child : Child) (leaf : Option Leaf) → (instance_of member dims (component_frame member index child) leaf).path ≡ at_index p member.name index
      path_is child leaf = rw (at_frame child) refl

      -- nothing stands below the element yet
      none_below : (child : Child) (leaf : Option Leaf) → Clear (OfParts (at_index p member.name index)) (so_far ++ instance_of member dims (component_frame member index child) leaf ∷ [])
      none_below child leaf =
          every_append (λ other. OfParts (at_index p member.name index) other.path → ⊥) so_far (instance_of member dims (component_frame member index child) leaf ∷ [])
          (every_weaker (λ other. OfElement p member.name index other.path → ⊥) _
          (λ other none below. none ((below.0, below.1.0) ∷ below.1.1.0, below.1.1.1 ∙ append_assoc (at_index p member.name index) ((below.0, below.1.0) ∷ []) below.1.1.0)) so_far clear)
          ((λ below. longer (at_index p member.name index) ((below.0, below.1.0) ∷ below.1.1.0) (sym (path_is child leaf) ∙ below.1.1.1 ∙ append_assoc (at_index p member.name index) ((below.0, below.1.0) ∷ []) below.1.1.0) refl), tt)
        where
          longer : (q rest : Indexed) → q ≡ q ++ rest → {s : List ℕ × Index} {r : Indexed} → rest ≡ s ∷ r → ⊥
          longer [] rest e f = absurd cc
          longer (x ∷ q) rest e f = let less : q ≡ q ++ rest = cc in longer q rest less f

      by_leaf : (child : Child) (walked : Walked) → walk_of table (component_frame member index child) ≡ Ok walked → (leaf : Outcome (Option Leaf)) →
          ExtendsTo naming (OfElement p member.name index) so_far (and_then leaf (λ leaf. parts around walked (so_far ++ instance_of member dims (component_frame member index child) leaf ∷ [])))
      by_leaf child walked found (Err b) = tt
      by_leaf child walked found (Ok leaf) =
          put_element p member.name index so_far (instance_of member dims (component_frame member index child) leaf) _ (path_is child leaf) (at_frame child)
          (named_longer p member.name index all name) stands clear
          (parts_law.law around (component_frame member index child) walked (so_far ++ instance_of member dims (component_frame member index child) leaf ∷ []) (at_index p member.name index) found (at_frame child)
          (named_longer p member.name index all name) (stands_last (at_index p member.name index) so_far _ (path_is child leaf)) (none_below child leaf))

      by_frame : (child : Child) (checked : Outcome Walked) → type_checked table (class_place member child.redeclared) (component_frame member index child) ≡ checked →
          ExtendsTo naming (OfElement p member.name index) so_far (and_then checked (λ walked. entered_by table parts around member dims (component_frame member index child) walked so_far))
      by_frame child (Err b) is = tt
      by_frame child (Ok walked) is = by_leaf child walked (type_walk table _ _ walked is) (leaf_of table around member (component_frame member index child) walked)

      by_child : (child : Outcome Child) →
          ExtendsTo naming (OfElement p member.name index) so_far (and_then child (λ child.
          and_then (type_checked table (class_place member child.redeclared) (component_frame member index child)) (λ walked.
          entered_by table parts around member dims (component_frame member index child) walked so_far)))
      by_child (Err b) = tt
      by_child (Ok child) = by_frame child (type_checked table (class_place member child.redeclared) (component_frame member index child)) refl

      by_room : (room : Checked) →
          ExtendsTo naming (OfElement p member.name index) so_far (and_then room (λ _.
          and_then (child_of_member table member index) (λ child.
          and_then (type_checked table (class_place member child.redeclared) (component_frame member index child)) (λ walked.
          entered_by table parts around member dims (component_frame member index child) walked so_far))))
      by_room (Err b) = tt
      by_room (Ok u) = by_child (child_of_member table member index)

  -- ---- components

  every_index : {A : Type 0} (P : A → Type 0) (xs : List A) → ((x : A) → P x) → Every P xs
  every_index P [] all = tt
  every_index P (x ∷ xs) all = (all x, every_index P xs all)

  component_extends : (deep : Deeper) → ((place : Place) → DeeperLaw (deep place)) → (around : Around) (member : Member) (p : Indexed) → at_of member.home ≡ Some p →
      IsTrue (list_all (λ step. naming step.0) p) → IsTrue (naming member.name) → (so_far : List Instance) → Stands p so_far → Clear (OfName p member.name) so_far →
      ExtendsTo naming (OfName p member.name) so_far (component_entered table deep around member so_far)
  component_extends deep deep_law around member p home all name so_far stands clear =
      subst (ExtendsTo naming (OfName p member.name) so_far) (component_is table deep around member so_far) (by_asked (component_asked table around member))
    where
      by_deep : (asked : Around × Dims) (o : Outcome Parts) → DeeperLaw o →
          ExtendsTo naming (OfName p member.name) so_far (and_then o (λ parts. adding_each (element_entered table parts asked.0 member asked.1) (indices asked.1) so_far))
      by_deep asked (Err b) h = tt
      by_deep asked (Ok parts) h =
          chain naming (element_entered table parts asked.0 member asked.1) (OfElement p member.name) (λ index. Unit {0}) (OfName p member.name) p
          (λ index before good there none. element_extends parts h asked.0 member asked.1 p home all name index before there none)
          (λ index path own. (index, own))
          (indices asked.1) (every_index (λ index. Unit {0}) (indices asked.1) (λ index. tt)) (indices_apart p member.name (indices asked.1) (indices_differ asked.1)) so_far stands
          (every_index (λ index. Clear (OfElement p member.name index) so_far) (indices asked.1)
          (λ index. every_weaker (λ other. OfName p member.name other.path → ⊥) (λ other. OfElement p member.name index other.path → ⊥) (λ other none own. none (index, own)) so_far clear))

      by_asked : (o : Outcome (Around × Dims)) → ExtendsTo naming (OfName p member.name) so_far (and_then o (λ asked. elements_of table deep member asked so_far))
      by_asked (Err b) = tt
      by_asked (Ok asked) = by_deep asked (deep member.declares.place) (deep_law member.declares.place)

  member_extends : (deep : Deeper) → ((place : Place) → DeeperLaw (deep place)) → (around : Around) (p : Indexed) → IsTrue (list_all (λ step. naming step.0) p) →
      (member : Member) (so_far : List Instance) → (at_of member.home ≡ Some p) × IsTrue (naming member.name) → Stands p so_far → Clear (OfName p member.name) so_far →
      ExtendsTo naming (OfName p member.name) so_far (member_entered table deep around member so_far)
  member_extends deep deep_law around p all member so_far good stands clear =
      by (is_class member.declares) member.declares.flags.outer (outer_checked table member) (there_of table most_references member)
    where
      entered : ExtendsTo naming (OfName p member.name) so_far (component_entered table deep around member so_far)
      entered = component_extends deep deep_law around member p good.0 all good.1 so_far stands clear

      by : (class outer : Bool) (checked : Checked) (there : Outcome Bool) →
          ExtendsTo naming (OfName p member.name) so_far
          (if class then Ok so_far else
          (if outer then and_then checked (λ _. Ok so_far) else
          and_then there (λ is_there. if is_there then component_entered table deep around member so_far else Ok so_far)))
      by true outer checked there = nothing_added naming (OfName p member.name) so_far
      by false true (Ok u) there = nothing_added naming (OfName p member.name) so_far
      by false true (Err b) there = tt
      by false false checked (Err b) = tt
      by false false checked (Ok true) = entered
      by false false checked (Ok false) = nothing_added naming (OfName p member.name) so_far

  apart_members : (p : Indexed) (xs : List Inherited) → Different xs → Apart (λ (member : Member). OfName p member.name) (map (λ inherited. inherited.member) xs)
  apart_members p [] d = tt
  apart_members p (x ∷ xs) d = (
    every_map (ApartFrom (λ (member : Member). OfName p member.name) x.member) (λ inherited. inherited.member) xs
        (every_weaker (λ other. bytes_eq x.member.name other.member.name ≡ false) _ (λ other differ. apart_names p x.member.name other.member.name differ) xs d.0),
    apart_members p xs d.1,
  )

  both_good : (p : Indexed) (frame : Frame) (xs : List Inherited) → at_of frame ≡ Some p → Every (λ inherited. at_of inherited.member.home ≡ at_of frame) xs →
      Every (λ inherited. IsTrue (naming inherited.member.name)) xs → Every (λ member. (at_of member.home ≡ Some p) × IsTrue (naming member.name)) (map (λ inherited. inherited.member) xs)
  both_good p frame [] at homes names = tt
  both_good p frame (x ∷ xs) at homes names = ((homes.0 ∙ at, names.0), both_good p frame xs at homes.1 names.1)

  parts_extend : (deep : Deeper) → ((place : Place) → DeeperLaw (deep place)) → PartsLaw (parts_entered table deep)
  parts_extend deep deep_law = record { law = extends }
    where
      extends : (around : Around) (frame : Frame) (walked : Walked) (so_far : List Instance) (p : Indexed) → walk_of table frame ≡ Ok walked → at_of frame ≡ Some p →
          IsTrue (list_all (λ step. naming step.0) p) → Stands p so_far → Clear (OfParts p) so_far → ExtendsTo naming (OfParts p) so_far (parts_entered table deep around walked so_far)
      extends around frame walked so_far p found at all stands clear =
          let has : IsWalkedOf naming frame walked = walk_has naming table named frame walked found in
          chain naming (member_entered table deep around) (λ member. OfName p member.name) (λ member. (at_of member.home ≡ Some p) × IsTrue (naming member.name)) (OfParts p) p
          (member_extends deep deep_law around p all)
          (λ member path own. (member.name, own))
          (members_in walked) (both_good p frame walked.members at has.homes has.names) (apart_members p walked.members has.different) so_far stands
          (every_index (λ member. Clear (OfName p member.name) so_far) (members_in walked)
          (λ member. every_weaker (λ other. OfParts p other.path → ⊥) (λ other. OfName p member.name other.path → ⊥) (λ other none own. none (member.name, own)) so_far clear))

  deeper_extends : (left : ℕ) (place : Place) → DeeperLaw (deeper table left place)
  unfolding deeper
  deeper_extends zero place = tt
  deeper_extends (suc left) place = parts_extend (deeper table left) (deeper_extends left)

  -- ---- the asked class

  abbrev HasClass : Instance → Type 0
  HasClass instance = class_of instance.frame < number_of_classes table

  whole_follow : (before xs : List Instance) → Follow_paths naming before xs → Every HasClass xs → Follow naming table before xs
  whole_follow before [] h classes = tt
  whole_follow before (x ∷ xs) h classes = (
    record {
      new = All-from_recursion (λ other. other.path ≢ x.path) before (as_recursion before h.0.new);
      below = h.0.below;
      frame = h.0.frame;
      class = classes.0;
      names = h.0.names;
    },
    whole_follow (before ++ x ∷ []) xs h.1 classes.1,
  )
    where
      as_recursion : (ys : List Instance) → Every (λ other. other.path ≡ x.path → ⊥) ys → AllByRecursion (λ other. other.path ≢ x.path) ys
      as_recursion [] all = tt
      as_recursion (y ∷ ys) all = (all.0, as_recursion ys all.1)

  -- what the parts of the asked class add behind it
  whole_extended : (row : Row) (instances : List Instance) → instances_in table row ≡ Ok instances → Extended naming (OfParts []) (root_instance table row ∷ []) instances
  whole_extended row instances made =
      let checked = then_inverse (frame_checked table row.class.place (root_frame table row)) _ instances made in
      let found : walk_of table (root_frame table row) ≡ Ok checked.0 = checked_walk table row.class.place (root_frame table row) checked.0 checked.1 in
      let extends : ExtendsTo naming (OfParts []) (root_instance table row ∷ []) (parts_entered table (deeper table most_names) (around_root row) checked.0 (root_instance table row ∷ []))
      = (parts_extend (deeper table most_names) (deeper_extends most_names)).law (around_root row) (root_frame table row) checked.0 (root_instance table row ∷ []) [] found refl refl (inl refl) ((λ own. nothing own), tt) in
      subst (ExtendsTo naming (OfParts []) (root_instance table row ∷ [])) checked.2 extends
    where
      nothing : OfParts [] [] → ⊥
      nothing own = cc

  -- The instances of a class are a tree, where the classes of their frames exist.
  pub tree_is : (row : Row) (instances : List Instance) → instances_in table row ≡ Ok instances → Every HasClass instances → IsInstanceTree naming table instances
  tree_is row instances made classes =
      let whole = whole_extended row instances made in
      let all : Every HasClass (root_instance table row ∷ whole.added) = subst (Every HasClass) whole.is classes in
      subst (IsInstanceTree naming table) (sym whole.is)
      (tree (record { path = refl; frame = refl; class = all.0; dims = refl; leaf = refl }) (whole_follow (root_instance table row ∷ []) whole.added whole.follow all.1))

  -- each instance of a class has a path of its own
  pub distinct_in : (row : Row) (instances : List Instance) → instances_in table row ≡ Ok instances → DistinctPaths instances
  distinct_in row instances made =
      let whole = whole_extended row instances made in
      let first = root_instance table row in
      subst DistinctPaths (sym whole.is) (others_distinct naming first (first ∷ []) whole.added (λ P all. all.0) whole.follow, follow_distinct naming (first ∷ []) whole.added whole.follow)

-- the same of the class with a number, whatever the names are
pub tree_of : (table : Table) (class : ℕ) (row : Row) (instances : List Instance) → row_at table class ≡ Some row → instances_of table class ≡ Ok instances →
    Every (λ one. class_of one.frame < number_of_classes table) instances → IsInstanceTree any_name table instances
tree_of table class row instances at made classes = tree_is any_name table (all_named table) row instances (sym (ap (instances_by table) at) ∙ made) classes

-- each instance of the class with a number has a path of its own
pub distinct_of : (table : Table) (class : ℕ) (instances : List Instance) → instances_of table class ≡ Ok instances → DistinctPaths instances
distinct_of table class instances made = by (row_at table class) made
  where
    list_in : Outcome (List Instance) → List Instance
    list_in (Ok xs) = xs
    list_in (Err broken) = []

    by : (found : Option Row) → instances_by table found ≡ Ok instances → DistinctPaths instances
    by None e = subst DistinctPaths (ap list_in e) tt
    by (Some row) e = distinct_in any_name table (all_named table) row instances e
