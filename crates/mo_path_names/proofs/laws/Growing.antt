-- The walk over the components of a class adds instances and takes none away; and there is room for the elements of a component, so that none
-- of their indices is greater than the number of components that a class may have.
use Rattle.std.proofs.Common.{◌≡◌, ℕ, zero, suc, ◌+◌, ◌<◌, ◌≤◌, Bool, true, false, List, [], ◌∷◌, ◌++◌, length, map, flat_map, Ok, Err, nat_lt, ltb-false, refl, ap, sym, ◌∙◌, subst, arith, length-append, append-nil, append_assoc}
use Rattle.std.specs.Prelude.{if◌then◌else◌}
use Rattle.mo_syntax.specs.Outcome.{Outcome, and_then, breaks}
use Rattle.mo_syntax.specs.declared.place.Place.{Place}
use Rattle.mo_scope.specs.Frames.{Member}
use Rattle.mo_scope.specs.Instances.{Instance}
use Rattle.mo_scope.specs.Lookup.{Walked, members_in}
use Rattle.mo_scope.specs.Names.{child_of_member, component_frame}
use Rattle.mo_scope.specs.Compatible.{prefix_of}
use Rattle.mo_scope.specs.Places.{Every}
use Rattle.mo_scope.specs.Redeclarations.{Checked, fine}
use Rattle.mo_scope.specs.Rows.{Table, is_class}
use Rattle.mo_scope.proofs.laws.Standing.{every_append, every_map, every_weaker}
use Rattle.mo_syntax.specs.declared.rules.TheConstants.{FLAT_MODEL_TOO_LARGE}
use Rattle.mo_typing.specs.Dims.{Dims}
use Rattle.mo_typing.specs.Indices.{Index, indices, numbers_to}
use Rattle.mo_eval.specs.Values.{component_dims, most_references, there_of}
use Rattle.mo_instance.specs.Checks.{type_checked}
use Rattle.mo_instance.specs.Elements.{Around, around_parts, class_place, instance_of, leaf_of, most_instances, room_for_one}
use Rattle.mo_instance.specs.Instances.{Adding, Deeper, Parts, adding_each, component_entered, deeper, element_entered, member_entered, parts_entered}
use Rattle.mo_instance.specs.Outer.{outer_checked}
use Rattle.mo_instance.specs.Prefixes.{prefix_in_profile}

-- an outcome with a value comes of a value
pub then_inverse : {A B : Type 0} (o : Outcome A) (f : A → Outcome B) (b : B) → and_then o f ≡ Ok b → (a : A) × (o ≡ Ok a) × (f a ≡ Ok b)
then_inverse (Ok a) f b e = (a, refl, e)
then_inverse (Err x) f b e = absurd cc

pub same_value : {A : Type 0} (a b : A) → ◌≡◌ {A = Outcome A} (Ok a) (Ok b) → a ≡ b
same_value {A} a b e = ap value e
  where
    value : Outcome A → A
    value (Ok x) = x
    value (Err broken) = a

pub longer_by_one : {A : Type 0} (xs : List A) (x : A) → length (xs ++ x ∷ []) ≡ length xs + 1
longer_by_one xs x = length-append xs (x ∷ [])

-- ---- adding

-- the instances so far stand in front
pub record IsFront (so_far more : List Instance) : Type 0 where
  pub added : List Instance
  pub is : more ≡ so_far ++ added

itself : (so_far more : List Instance) → ◌≡◌ {A = Outcome (List Instance)} (Ok so_far) (Ok more) → IsFront so_far more
itself so_far more e = record { added = []; is = sym (same_value so_far more e) ∙ sym (append-nil so_far) }

further : (xs ys zs : List Instance) → IsFront xs ys → IsFront ys zs → IsFront xs zs
further xs ys zs a b = record { added = a.added ++ b.added; is = b.is ∙ ap (λ (l : List Instance). l ++ b.added) a.is ∙ append_assoc xs a.added b.added }

one_put : (xs : List Instance) (x : Instance) → IsFront xs (xs ++ x ∷ [])
one_put xs x = record { added = x ∷ []; is = refl }

pub no_longer : (so_far more : List Instance) → IsFront so_far more → length so_far ≤ length more
no_longer so_far more front = omega (arith, ap length front.is, length-append so_far front.added)

abbrev pub Grows : Adding → Type 0
Grows add = (so_far more : List Instance) → add so_far ≡ Ok more → IsFront so_far more

pub record PartsGrow (parts : Parts) : Type 0 where
  pub law : (around : Around) (walked : Walked) → Grows (parts around walked)

abbrev pub DeeperGrows : Outcome Parts → Type 0
DeeperGrows (Ok parts) = PartsGrow parts
DeeperGrows (Err broken) = Unit {0}

each_grows : {A : Type 0} (add : A → Adding) → ((x : A) → Grows (add x)) → (xs : List A) → Grows (adding_each add xs)
each_grows add grow [] so_far more made = itself so_far more made
each_grows add grow (x ∷ xs) so_far more made =
    let one = then_inverse (add x so_far) (adding_each add xs) more made in
    further so_far one.0 more (grow x so_far one.0 one.1) (each_grows add grow xs one.0 more one.2)

room_left : (asked : Place) (so_far : List Instance) (u : Unit {0}) → room_for_one asked so_far ≡ Ok u → length so_far ≤ most_instances
room_left asked so_far u is = by (nat_lt most_instances (length so_far)) refl is
  where
    by : (b : Bool) → nat_lt most_instances (length so_far) ≡ b → (if b then breaks FLAT_MODEL_TOO_LARGE asked else fine) ≡ Ok u → length so_far ≤ most_instances
    by true less e = absurd cc
    by false less e = ltb-false most_instances (length so_far) less

-- an element is put where there is room, and its parts stand behind it
pub element_grows : (table : Table) (parts : Parts) → PartsGrow parts → (around : Around) (member : Member) (dims : Dims) (index : Index) (so_far more : List Instance) →
    element_entered table parts around member dims index so_far ≡ Ok more → (length so_far ≤ most_instances) × (length so_far + 1 ≤ length more) × IsFront so_far more
element_grows table parts grow around member dims index so_far more made =
    let room = then_inverse (room_for_one around.asked so_far) _ more made in
    let child = then_inverse (child_of_member table member index) _ more room.2 in
    let checked = then_inverse (type_checked table (class_place member child.0.redeclared) (component_frame member index child.0)) _ more child.2 in
    let leaf = then_inverse (leaf_of table around member (component_frame member index child.0) checked.0) _ more checked.2 in
    let one : Instance = instance_of member dims (component_frame member index child.0) leaf.0 in
    let behind : IsFront (so_far ++ one ∷ []) more = grow.law around checked.0 (so_far ++ one ∷ []) more leaf.2 in (
      room_left around.asked so_far room.0 room.1,
      omega (arith, no_longer (so_far ++ one ∷ []) more behind, longer_by_one so_far one),
      further so_far (so_far ++ one ∷ []) more (one_put so_far one) behind,
    )

component_grows : (table : Table) (deep : Deeper) → ((place : Place) → DeeperGrows (deep place)) → (around : Around) (member : Member) → Grows (component_entered table deep around member)
component_grows table deep grow around member so_far more made =
    let prefix = then_inverse (prefix_in_profile member.declares.place (prefix_of table member)) _ more made in
    let child = then_inverse (child_of_member table member []) _ more prefix.2 in
    let dims = then_inverse (component_dims table most_references member) _ more child.2 in
    let parts = then_inverse (deep member.declares.place) _ more dims.2 in
    let law : PartsGrow parts.0 = subst DeeperGrows parts.1 (grow member.declares.place) in
    let inside : Around = around_parts table around member child.0.class in
    each_grows (element_entered table parts.0 inside member dims.0)
    (λ index before after one. (element_grows table parts.0 law inside member dims.0 index before after one).2)
    (indices dims.0) so_far more parts.2

pub member_grows : (table : Table) (deep : Deeper) → ((place : Place) → DeeperGrows (deep place)) → (around : Around) (member : Member) → Grows (member_entered table deep around member)
member_grows table deep grow around member so_far more made =
    by (is_class member.declares) member.declares.flags.outer (outer_checked table member) (there_of table most_references member) made
  where
    by : (class outer : Bool) (checked : Checked) (there : Outcome Bool) →
        (if class then Ok so_far else
        (if outer then and_then checked (λ _. Ok so_far) else
        and_then there (λ is_there. if is_there then component_entered table deep around member so_far else Ok so_far))) ≡ Ok more → IsFront so_far more
    by true outer checked there e = itself so_far more e
    by false true (Ok u) there e = itself so_far more e
    by false true (Err b) there e = absurd cc
    by false false checked (Err b) e = absurd cc
    by false false checked (Ok true) e = component_grows table deep grow around member so_far more e
    by false false checked (Ok false) e = itself so_far more e

pub parts_grow : (table : Table) (deep : Deeper) → ((place : Place) → DeeperGrows (deep place)) → PartsGrow (parts_entered table deep)
parts_grow table deep grow = record { law = λ around walked. each_grows (member_entered table deep around) (member_grows table deep grow around) (members_in walked) }

pub deeper_grows : (table : Table) (left : ℕ) (place : Place) → DeeperGrows (deeper table left place)
unfolding deeper
deeper_grows table zero place = tt
deeper_grows table (suc left) place = parts_grow table (deeper table left) (deeper_grows table left)

-- ---- how many elements a component has

-- where something stands before them, there are at most as many elements as a class may have components
pub elements_fit : (table : Table) (parts : Parts) → PartsGrow parts → (around : Around) (member : Member) (dims : Dims) (xs : List Index) (so_far more : List Instance) →
    adding_each (element_entered table parts around member dims) xs so_far ≡ Ok more → 0 < length xs → length so_far + length xs ≤ most_instances + 1
elements_fit table parts grow around member dims [] so_far more made some = absurd (omega (arith, some))
elements_fit table parts grow around member dims (x ∷ xs) so_far more made some =
    let one = then_inverse (element_entered table parts around member dims x so_far) (adding_each (element_entered table parts around member dims) xs) more made in
    let grown = element_grows table parts grow around member dims x so_far one.0 one.1 in
    by xs one.0 grown.0 grown.1 (elements_fit table parts grow around member dims xs one.0 more one.2)
  where
    by : (ys : List Index) (next : List Instance) → length so_far ≤ most_instances → length so_far + 1 ≤ length next → (0 < length ys → length next + length ys ≤ most_instances + 1) →
        length so_far + suc (length ys) ≤ most_instances + 1
    by [] next room longer rest = omega (arith, room)
    by (y ∷ ys) next room longer rest = let fits : length next + suc (length ys) ≤ most_instances + 1 = rest (omega arith) in omega (arith, longer, fits)

-- ---- indices

abbrev pub NoGreater : ℕ → Index → Type 0
NoGreater most index = Every (λ k. k ≤ most) index

pub no_greater : (less more : ℕ) → less ≤ more → (is : List Index) → Every (NoGreater less) is → Every (NoGreater more) is
no_greater less more fits is h =
    every_weaker (NoGreater less) (NoGreater more) (λ index all. every_weaker (λ k. k ≤ less) (λ k. k ≤ more) (λ k small. omega (arith, small, fits)) index all) is h

pub every_if_some : {A : Type 0} (P : A → Type 0) (xs : List A) → (0 < length xs → Every P xs) → Every P xs
every_if_some P [] h = tt
every_if_some P (x ∷ xs) h = h (omega arith)

flat_last : {A B : Type 0} (f : A → List B) (xs : List A) (x : A) → flat_map f (xs ++ x ∷ []) ≡ flat_map f xs ++ f x
flat_last f [] x = append-nil (f x)
flat_last f (y ∷ ys) x = ap (λ rest. f y ++ rest) (flat_last f ys x) ∙ sym (append_assoc (f y) (flat_map f ys) (f x))

length_mapped : {A B : Type 0} (f : A → B) (xs : List A) → length (map f xs) ≡ length xs
length_mapped f [] = refl
length_mapped f (x ∷ xs) = ap suc (length_mapped f xs)

abbrev counted_from : List Index → ℕ → List Index
counted_from is n = flat_map (λ k. map (λ index. k ∷ index) is) (numbers_to n)

length_counted : (is : List Index) (n : ℕ) → length (counted_from is (suc n)) ≡ length (counted_from is n) + length is
length_counted is n =
    ap length (flat_last (λ k. map (λ index. k ∷ index) is) (numbers_to n) (suc n)) ∙ length-append (counted_from is n) (map (λ index. suc n ∷ index) is)
    ∙ ap (λ k. length (counted_from is n) + k) (length_mapped (λ index. suc n ∷ index) is)

counted_reach : (is : List Index) (n : ℕ) → 0 < length is → n ≤ length (counted_from is n)
counted_reach is zero some = omega arith
counted_reach is (suc n) some = let rest : n ≤ length (counted_from is n) = counted_reach is n some in omega (arith, rest, some, length_counted is n)

counted_fit : (is : List Index) → Every (NoGreater (length is)) is → (n : ℕ) → Every (NoGreater (length (counted_from is n))) (counted_from is n)
counted_fit is h zero = tt
counted_fit is h (suc n) =
    subst (Every (NoGreater (length (counted_from is (suc n))))) (sym (flat_last (λ k. map (λ index. k ∷ index) is) (numbers_to n) (suc n)))
    (every_append (NoGreater (length (counted_from is (suc n)))) (counted_from is n) (map (λ index. suc n ∷ index) is)
    (no_greater (length (counted_from is n)) (length (counted_from is (suc n))) (omega (arith, length_counted is n)) (counted_from is n) (counted_fit is h n))
    (every_map (NoGreater (length (counted_from is (suc n)))) (λ index. suc n ∷ index) is
    (every_if_some (λ index. NoGreater (length (counted_from is (suc n))) (suc n ∷ index)) is
    (λ some. every_weaker (NoGreater (length (counted_from is (suc n)))) _ (λ index all. (counted_reach is (suc n) some, all)) is
    (no_greater (length is) (length (counted_from is (suc n))) (omega (arith, length_counted is n)) is h)))))

-- no index in dimensions is greater than the number of elements
pub indices_fit : (dims : Dims) → Every (NoGreater (length (indices dims))) (indices dims)
indices_fit [] = (tt, tt)
indices_fit (n ∷ dims) = counted_fit (indices dims) (indices_fit dims) n
