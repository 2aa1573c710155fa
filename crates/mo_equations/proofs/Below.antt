-- The leaves below a path: each is that of a variable, and no two have one name below it.
use Rattle.std.proofs.Common.{◌≡◌, ◌≢◌, ℕ, zero, suc, ◌+◌, ◌<◌, inl, inr, ◌⊎◌, Bool, true, false, ◌&&◌, List, [], ◌∷◌, ◌++◌, flat_map, Option, Some, None, refl, sym, ap, ◌∙◌, subst, arith, if◌then◌else◌}
use Rattle.std.specs.Str.{bytes_eq}
use Rattle.std.proofs.lemmas.Slice.Eq.{bytes_eq-Decides}
use Rattle.mo_syntax.specs.SoundTree.{Naming}
use Rattle.mo_flat.specs.declared.connect.EndLeaf.{EndLeaf}
use Rattle.mo_flat.specs.SoundConnects.{AreDistinct}
use Rattle.mo_scope.specs.Rows.{Table}
use Rattle.mo_scope.specs.Frames.{Indexed, numbers_eq}
use Rattle.mo_scope.specs.Places.{Every}
use Rattle.mo_scope.specs.Instances.{Follow, Instance, IsInstanceTree, Leaf}
use Rattle.mo_equations.specs.Leaves.{Tree, Variable, behind, variables_from, variables_of, with_leaf}
use Rattle.mo_equations.specs.Connectors.{is_flow, is_joined_role, leaves_below}
use Rattle.mo_equations.proofs.Numbers.{Among, among_at, never, place_of}

-- ---- paths

some_one : {A : Type 0} (a b : A) → Some a ≡ Some b → a ≡ b
some_one {A} a b e = ap held e
  where
    held : Option A → A
    held None = a
    held (Some x) = x

none_some : {A B : Type 0} (a : A) → None ≡ Some a → B
none_some {A} a e = absurd (subst is_none e tt)
  where
    is_none : Option A → Type 0
    is_none None = Unit {0}
    is_none (Some x) = ⊥

if_some : {A : Type 0} (b : Bool) (found : Option A) (a : A) → (if b then found else None) ≡ Some a → (b ≡ true) × (found ≡ Some a)
if_some true found a e = (refl, e)
if_some false found a e = none_some a e

both_true : (a b : Bool) → (a && b) ≡ true → (a ≡ true) × (b ≡ true)
both_true true b h = (refl, h)
both_true false b h = never h

same_step : (a b : List ℕ × List ℕ) → a.0 ≡ b.0 → a.1 ≡ b.1 → a ≡ b
same_step a b p q = rw (p, q) refl

behind_is : (path other below : Indexed) → behind path other ≡ Some below → other ≡ path ++ below
behind_is [] other below e = some_one other below e
behind_is (step ∷ steps) [] below e = none_some below e
behind_is (step ∷ steps) (first ∷ rest) below e =
    let h = if_some (bytes_eq step.0 first.0 && numbers_eq step.1 first.1) (behind steps rest) below e in
    let same = both_true (bytes_eq step.0 first.0) (numbers_eq step.1 first.1) h.0 in
    let one : step ≡ first = same_step step first ((bytes_eq-Decides step.0 first.0).0 same.0) ((bytes_eq-Decides step.1 first.1).0 same.1) in
    let others : rest ≡ steps ++ below = behind_is steps rest below h.1 in
    rw (sym one, others) refl

-- ---- leaves and their variables

-- A leaf below a path is that of a variable.
pub record IsLeafOf (tree : Tree) (vs : List Variable) (path : Indexed) (leaf : EndLeaf) : Type 0 where
  pub variable : Variable
  pub among : Among vs variable
  pub below : behind path variable.instance.path ≡ Some leaf.below.0
  pub number : leaf.variable ≡ variable.number
  pub flow : leaf.flow ≡ is_flow tree variable
  pub place : leaf.place ≡ variable.instance.place

abbrev leaf_at : Tree → Variable → Option Indexed → List EndLeaf
leaf_at tree v None = []
leaf_at tree v (Some below) = record { below = record { 0 = below }; flow = is_flow tree v; variable = v.number; place = v.instance.place } ∷ []

abbrev leaf_in : Tree → Indexed → Variable → List EndLeaf
leaf_in tree path v = if is_joined_role v.leaf.role then leaf_at tree v (behind path v.instance.path) else []

abbrev leaves_by : Tree → Indexed → List Variable → List EndLeaf
leaves_by tree path vs = flat_map (leaf_in tree path) vs

-- the first leaf is that of the variable, or it is among the others
first_leaf : (tree : Tree) (v : Variable) (b : Bool) (found : Option Indexed) (rest : List EndLeaf) (leaf : EndLeaf)
    → Among ((if b then leaf_at tree v found else []) ++ rest) leaf
    → ((found ≡ Some leaf.below.0) × ((leaf.variable ≡ v.number) × ((leaf.flow ≡ is_flow tree v) × (leaf.place ≡ v.instance.place)))) ⊎ Among rest leaf
first_leaf tree v false found rest leaf a = inr a
first_leaf tree v true None rest leaf a = inr a
first_leaf tree v true (Some below) rest leaf (inl e) =
    inl (ap (λ x. Some x.below.0) e, (sym (ap (λ x. x.variable) e), (sym (ap (λ x. x.flow) e), sym (ap (λ x. x.place) e))))
first_leaf tree v true (Some below) rest leaf (inr a) = inr a

leaf_of : (tree : Tree) (path : Indexed) (vs : List Variable) (leaf : EndLeaf) → Among (leaves_by tree path vs) leaf → IsLeafOf tree vs path leaf
leaf_of tree path [] leaf a = absurd a
leaf_of tree path (v ∷ vs) leaf a =
    split (first_leaf tree v (is_joined_role v.leaf.role) (behind path v.instance.path) (leaves_by tree path vs) leaf a) (leaf_of tree path vs leaf)
  where
    split : ((behind path v.instance.path ≡ Some leaf.below.0) × ((leaf.variable ≡ v.number) × ((leaf.flow ≡ is_flow tree v) × (leaf.place ≡ v.instance.place))))
        ⊎ Among (leaves_by tree path vs) leaf → (Among (leaves_by tree path vs) leaf → IsLeafOf tree vs path leaf) → IsLeafOf tree (v ∷ vs) path leaf
    split (inl h) rest = record { variable = v; among = inl refl; below = h.0; number = h.1.0; flow = h.1.1.0; place = h.1.1.1 }
    split (inr b) rest =
        let one = rest b in
        record { variable = one.variable; among = inr one.among; below = one.below; number = one.number; flow = one.flow; place = one.place }

pub leaf_below : (tree : Tree) (path : Indexed) (leaf : EndLeaf) → Among (leaves_below tree path) leaf → IsLeafOf tree (variables_of tree) path leaf
leaf_below tree path leaf a = leaf_of tree path (variables_of tree) leaf a

-- ---- different names

abbrev pub Differ : {X K : Type 0} → (X → K) → List X → Type 0
Differ key [] = Unit {0}
Differ {X = X} key (x ∷ xs) = ((y : X) → Among xs y → key x ≡ key y → ⊥) × Differ key xs

distinct_of : (leaves : List EndLeaf) → Differ (λ l. l.below) leaves → AreDistinct leaves
distinct_of [] h j k a b p q e = let within : j < 0 = p.within in absurd (omega arith)
distinct_of (x ∷ xs) h zero zero a b p q e = refl
distinct_of (x ∷ xs) h zero (suc k) a b p q e =
    let within = q.within in
    absurd (h.0 b (among_at xs k b (record { within = omega arith; is = q.is })) (ap (λ l. l.below) p.is ∙ e))
distinct_of (x ∷ xs) h (suc j) zero a b p q e =
    let within = p.within in
    absurd (h.0 a (among_at xs j a (record { within = omega arith; is = p.is })) (ap (λ l. l.below) q.is ∙ sym e))
distinct_of (x ∷ xs) h (suc j) (suc k) a b p q e =
    let one = p.within in
    let two = q.within in
    ap suc (distinct_of xs h.1 j k a b (record { within = omega arith; is = p.is }) (record { within = omega arith; is = q.is }) e)

abbrev PathsDiffer : List Variable → Type 0
PathsDiffer vs = Differ (λ v. v.instance.path) vs

-- one more leaf in front of those of other variables
front_differs : (tree : Tree) (path : Indexed) (v : Variable) (b : Bool) (found : Option Indexed) (vs : List Variable)
    → ((below : Indexed) → found ≡ Some below → v.instance.path ≡ path ++ below) → ((w : Variable) → Among vs w → v.instance.path ≡ w.instance.path → ⊥)
    → Differ (λ l. l.below) (leaves_by tree path vs) → Differ (λ l. l.below) ((if b then leaf_at tree v found else []) ++ leaves_by tree path vs)
front_differs tree path v false found vs is other rest = rest
front_differs tree path v true None vs is other rest = rest
front_differs tree path v true (Some below) vs is other rest = (
  λ leaf a e.
      let one = leaf_of tree path vs leaf a in
      let that : one.variable.instance.path ≡ path ++ leaf.below.0 = behind_is path one.variable.instance.path leaf.below.0 one.below in
      other one.variable one.among (is below refl ∙ ap (λ x. path ++ x.0) e ∙ sym that),
  rest,
)

leaves_differ : (tree : Tree) (path : Indexed) (vs : List Variable) → PathsDiffer vs → Differ (λ l. l.below) (leaves_by tree path vs)
leaves_differ tree path [] h = tt
leaves_differ tree path (v ∷ vs) h =
    front_differs tree path v (is_joined_role v.leaf.role) (behind path v.instance.path) vs
    (λ below e. behind_is path v.instance.path below e) h.0 (leaves_differ tree path vs h.1)

-- ---- the paths of a tree

abbrev pub Differ_paths : List Instance → Type 0
Differ_paths instances = Differ (λ i. i.path) instances

-- what follows instances has other paths than these
others_differ : (naming : Naming) (table : Table) (before others : List Instance) (x y : Instance) → Follow naming table before others → Among before x → Among others y
    → x.path ≡ y.path → ⊥
others_differ naming table before [] x y h a b e = absurd b
others_differ naming table before (first ∷ rest) x y h a (inl same) e =
    let (k, at) = place_of before x a in
    let differs : x.path ≢ first.path = subst (λ i. i.path ≢ first.path) at.is (h.0.new k x at.within) in
    differs (e ∙ sym (ap (λ i. i.path) same))
others_differ naming table before (first ∷ rest) x y h a (inr b) e =
    others_differ naming table (before ++ first ∷ []) rest x y h.1 (among_front before (first ∷ []) x a) b e
  where
    among_front : (xs ys : List Instance) (i : Instance) → Among xs i → Among (xs ++ ys) i
    among_front [] ys i a = absurd a
    among_front (z ∷ zs) ys i (inl e) = inl e
    among_front (z ∷ zs) ys i (inr c) = inr (among_front zs ys i c)

among_last : (xs : List Instance) (x : Instance) → Among (xs ++ x ∷ []) x
among_last [] x = inl refl
among_last (y ∷ ys) x = inr (among_last ys x)

follow_differ : (naming : Naming) (table : Table) (before others : List Instance) → Follow naming table before others → Differ_paths others
follow_differ naming table before [] h = tt
follow_differ naming table before (first ∷ rest) h = (
  λ y b. others_differ naming table (before ++ first ∷ []) rest first y h.1 (among_last before first) b,
  follow_differ naming table (before ++ first ∷ []) rest h.1,
)

pub paths_differ : (naming : Naming) (table : Table) (instances : List Instance) → IsInstanceTree naming table instances → Differ_paths instances
paths_differ naming table instances (IsInstanceTree.tree {root} {others} is h) = (λ y b. others_differ naming table (root ∷ []) others root y h (inl refl) b, follow_differ naming table (root ∷ []) others h)

-- the same by what holds of each behind another one
abbrev pub Distinct_paths : List Instance → Type 0
Distinct_paths [] = Unit {0}
Distinct_paths (x ∷ xs) = Every (λ y. y.path ≡ x.path → ⊥) xs × Distinct_paths xs

every_among : (P : Instance → Type 0) (xs : List Instance) (y : Instance) → Every P xs → Among xs y → P y
every_among P [] y h a = absurd a
every_among P (x ∷ xs) y h (inl e) = subst P e h.0
every_among P (x ∷ xs) y h (inr b) = every_among P xs y h.1 b

pub differ_of : (instances : List Instance) → Distinct_paths instances → Differ_paths instances
differ_of [] h = tt
differ_of (x ∷ xs) h = (λ y a e. every_among (λ z. z.path ≡ x.path → ⊥) xs y h.0 a (sym e), differ_of xs h.1)

-- the variables of instances are those of some of them
of_instance : (n : ℕ) (instances : List Instance) (v : Variable) → Among (variables_from n instances) v → Among instances v.instance
of_instance n [] v a = absurd a
of_instance n (instance ∷ others) v a = at_leaf instance.leaf (λ m. of_instance m others v) a
  where
    at_leaf : (leaf : Option Leaf) → ((m : ℕ) → Among (variables_from m others) v → Among others v.instance)
        → Among (with_leaf n instance leaf (λ next. variables_from next others)) v → Among (instance ∷ others) v.instance
    at_leaf None h b = inr (h n b)
    at_leaf (Some leaf) h (inl e) = inl (ap (λ w. w.instance) e)
    at_leaf (Some leaf) h (inr b) = inr (h (n + 1) b)

variables_differ : (n : ℕ) (instances : List Instance) → Differ_paths instances → PathsDiffer (variables_from n instances)
variables_differ n [] h = tt
variables_differ n (instance ∷ others) h = at_leaf instance.leaf (λ m. variables_differ m others h.1)
  where
    at_leaf : (leaf : Option Leaf) → ((m : ℕ) → PathsDiffer (variables_from m others)) → PathsDiffer (with_leaf n instance leaf (λ next. variables_from next others))
    at_leaf None r = r n
    at_leaf (Some leaf) r = (λ w a e. h.0 w.instance (of_instance (n + 1) others w a) e, r (n + 1))

-- no two leaves of an end have one name below it
pub leaves_are_distinct : (tree : Tree) (path : Indexed) → Differ_paths tree.instances → AreDistinct (leaves_below tree path)
leaves_are_distinct tree path h =
    distinct_of (leaves_below tree path)
    (leaves_differ tree path (variables_of tree) (variables_differ 1 tree.instances h))
