-- The numbers of variables, and the flow leaves among them.
use Rattle.std.proofs.Common.{◌≡◌, ℕ, zero, suc, ◌+◌, ◌<◌, ◌≤◌, inl, inr, ◌⊎◌, Bool, true, false, List, [], ◌∷◌, ◌++◌, flat_map, Option, Some, None, refl, sym, ap, ◌∙◌, subst, arith, if◌then◌else◌}
use Rattle.mo_syntax.specs.declared.place.Place.{Place}
use Rattle.mo_flat.specs.SoundConnects.{Ascends, IsAt}
use Rattle.mo_scope.specs.Instances.{Instance, Leaf}
use Rattle.mo_equations.specs.Leaves.{Tree, Variable, variables_from, variables_of, with_leaf}
use Rattle.mo_equations.specs.Connectors.{all_flows, is_flow}

-- ---- elements of lists

abbrev pub Among : {X : Type 0} → List X → X → Type 0
Among [] x = ⊥
Among (y ∷ ys) x = (y ≡ x) ⊎ Among ys x

abbrev Rises : {X : Type 0} → (X → ℕ) → List X → Type 0
Rises key [] = Unit {0}
Rises {X = X} key (x ∷ xs) = ((y : X) → Among xs y → key x < key y) × Rises key xs

pub among_at : {X : Type 0} (xs : List X) (k : ℕ) (x : X) → IsAt xs k x → Among xs x
among_at [] k x at = let within : k < 0 = at.within in absurd (omega arith)
among_at (y ∷ ys) zero x at = inl at.is
among_at (y ∷ ys) (suc k) x at = let within = at.within in inr (among_at ys k x (record { within = omega arith; is = at.is }))

later : {X : Type 0} (y : X) (xs : List X) (k : ℕ) (x : X) → IsAt xs k x → IsAt (y ∷ xs) (suc k) x
later y xs k x at = let within = at.within in record { within = omega arith; is = at.is }

pub place_of : {X : Type 0} (xs : List X) (x : X) → Among xs x → (k : ℕ) × IsAt xs k x
place_of [] x a = absurd a
place_of (y ∷ ys) x (inl e) = (zero, record { within = omega arith; is = e })
place_of (y ∷ ys) x (inr a) = let (k, at) = place_of ys x a in (suc k, later y ys k x at)

ascends : {X : Type 0} (key : X → ℕ) (xs : List X) → Rises key xs → (j k : ℕ) (a b : X) → IsAt xs j a → IsAt xs k b → j < k → key a < key b
ascends key [] h j k a b p q less = let within : j < 0 = p.within in absurd (omega arith)
ascends key (x ∷ xs) h j zero a b p q less = absurd (omega (arith, less))
ascends key (x ∷ xs) h zero (suc k) a b p q less =
    let within = q.within in
    let behind : Among xs b = among_at xs k b (record { within = omega arith; is = q.is }) in
    subst (λ y. key y < key b) p.is (h.0 b behind)
ascends key (x ∷ xs) h (suc j) (suc k) a b p q less =
    let one = p.within in
    let two = q.within in
    ascends key xs h.1 j k a b (record { within = omega arith; is = p.is }) (record { within = omega arith; is = q.is }) (omega (arith, less))

-- ---- the numbers of variables

-- each variable of a list has at least that number
abbrev AreAbove : ℕ → List Variable → Type 0
AreAbove n vs = (v : Variable) → Among vs v → n ≤ v.number

-- what is behind an instance, with what it is as a leaf
abbrev with_others : ℕ → Instance → Option Leaf → List Instance → List Variable
with_others n instance leaf others = with_leaf n instance leaf (λ next. variables_from next others)

above_leaf : (n : ℕ) (instance : Instance) (leaf : Option Leaf) (others : List Instance) → ((m : ℕ) → AreAbove m (variables_from m others))
    → AreAbove n (with_others n instance leaf others)
above_leaf n instance None others h v a = h n v a
above_leaf n instance (Some leaf) others h v (inl e) = let number : n ≡ v.number = ap (λ w. w.number) e in omega (arith, number)
above_leaf n instance (Some leaf) others h v (inr a) = let rest : n + 1 ≤ v.number = h (n + 1) v a in omega (arith, rest)

above : (n : ℕ) (instances : List Instance) → AreAbove n (variables_from n instances)
above n [] v a = absurd a
above n (instance ∷ others) v a = above_leaf n instance instance.leaf others (λ m. above m others) v a

-- a variable is known by its number
abbrev AreKnown : List Variable → Type 0
AreKnown vs = (v w : Variable) → Among vs v → Among vs w → v.number ≡ w.number → v ≡ w

known_leaf : (n : ℕ) (instance : Instance) (leaf : Option Leaf) (others : List Instance) → ((m : ℕ) → AreKnown (variables_from m others))
    → AreKnown (with_others n instance leaf others)
known_leaf n instance None others h v w a b e = h n v w a b e
known_leaf n instance (Some leaf) others h v w (inl p) (inl q) e = sym p ∙ q
known_leaf n instance (Some leaf) others h v w (inl p) (inr b) e =
    let first : n ≡ v.number = ap (λ x. x.number) p in
    let rest : n + 1 ≤ w.number = above (n + 1) others w b in
    absurd (omega (arith, first, rest, e))
known_leaf n instance (Some leaf) others h v w (inr a) (inl q) e =
    let first : n ≡ w.number = ap (λ x. x.number) q in
    let rest : n + 1 ≤ v.number = above (n + 1) others v a in
    absurd (omega (arith, first, rest, e))
known_leaf n instance (Some leaf) others h v w (inr a) (inr b) e = h (n + 1) v w a b e

known : (n : ℕ) (instances : List Instance) → AreKnown (variables_from n instances)
known n [] v w a b e = absurd a
known n (instance ∷ others) v w a b e = known_leaf n instance instance.leaf others (λ m. known m others) v w a b e

pub one_variable : (tree : Tree) (v w : Variable) → Among (variables_of tree) v → Among (variables_of tree) w → v.number ≡ w.number → v ≡ w
one_variable tree = known 1 tree.instances

-- ---- flow leaves

abbrev flow_of : (Variable → Bool) → Variable → List (ℕ × Place)
flow_of is v = if is v then (v.number, v.instance.place) ∷ [] else []

abbrev flows_of : (Variable → Bool) → List Variable → List (ℕ × Place)
flows_of is vs = flat_map (flow_of is) vs

-- A flow that is listed is that of a variable.
pub record IsOf (is : Variable → Bool) (vs : List Variable) (f : ℕ × Place) : Type 0 where
  pub variable : Variable
  pub among : Among vs variable
  pub flow : is variable ≡ true
  pub listed : f ≡ (variable.number, variable.instance.place)

flow_from : (b : Bool) (v : Variable) (rest : List (ℕ × Place)) (f : ℕ × Place) → Among ((if b then (v.number, v.instance.place) ∷ [] else []) ++ rest) f
    → ((b ≡ true) × (f ≡ (v.number, v.instance.place))) ⊎ Among rest f
flow_from true v rest f (inl e) = inl (refl, sym e)
flow_from true v rest f (inr a) = inr a
flow_from false v rest f a = inr a

of_variable : (is : Variable → Bool) (vs : List Variable) (f : ℕ × Place) → Among (flows_of is vs) f → IsOf is vs f
of_variable is [] f a = absurd a
of_variable is (v ∷ vs) f a = split (flow_from (is v) v (flows_of is vs) f a) (of_variable is vs f)
  where
    split : ((is v ≡ true) × (f ≡ (v.number, v.instance.place))) ⊎ Among (flows_of is vs) f → (Among (flows_of is vs) f → IsOf is vs f) → IsOf is (v ∷ vs) f
    split (inl h) rest = record { variable = v; among = inl refl; flow = h.0; listed = h.1 }
    split (inr b) rest = let one = rest b in record { variable = one.variable; among = inr one.among; flow = one.flow; listed = one.listed }

pub never : {A : Type 0} → false ≡ true → A
never h = absurd (subst no h tt)
  where
    no : Bool → Type 0
    no false = Unit {0}
    no true = ⊥

flow_to : (b : Bool) (v : Variable) (rest : List (ℕ × Place)) → b ≡ true → Among ((if b then (v.number, v.instance.place) ∷ [] else []) ++ rest) (v.number, v.instance.place)
flow_to true v rest h = inl refl
flow_to false v rest h = never h

behind_flow : (b : Bool) (v : Variable) (rest : List (ℕ × Place)) (f : ℕ × Place) → Among rest f → Among ((if b then (v.number, v.instance.place) ∷ [] else []) ++ rest) f
behind_flow true v rest f a = inr a
behind_flow false v rest f a = a

is_listed : (is : Variable → Bool) (vs : List Variable) (v : Variable) → Among vs v → is v ≡ true → Among (flows_of is vs) (v.number, v.instance.place)
is_listed is [] v a h = absurd a
is_listed is (w ∷ vs) v (inl e) h =
    subst (λ x. Among (flows_of is (w ∷ vs)) (x.number, x.instance.place)) e (flow_to (is w) w (flows_of is vs) (ap is e ∙ h))
is_listed is (w ∷ vs) v (inr a) h = behind_flow (is w) w (flows_of is vs) (v.number, v.instance.place) (is_listed is vs v a h)

-- flow leaves ascend by their numbers
abbrev FlowsRise : (Variable → Bool) → List Variable → Type 0
FlowsRise is vs = Rises (λ f. f.0) (flows_of is vs)

rise_behind : (b : Bool) (v : Variable) (rest : List (ℕ × Place)) → ((f : ℕ × Place) → Among rest f → v.number < f.0) → Rises (λ f. f.0) rest
    → Rises (λ f. f.0) ((if b then (v.number, v.instance.place) ∷ [] else []) ++ rest)
rise_behind true v rest h r = (h, r)
rise_behind false v rest h r = r

rise_leaf : (is : Variable → Bool) (n : ℕ) (instance : Instance) (leaf : Option Leaf) (others : List Instance) → ((m : ℕ) → FlowsRise is (variables_from m others))
    → FlowsRise is (with_others n instance leaf others)
rise_leaf is n instance None others h = h n
rise_leaf is n instance (Some leaf) others h =
    rise_behind (is (record { number = n; instance = instance; leaf = leaf })) (record { number = n; instance = instance; leaf = leaf }) (flows_of is (variables_from (n + 1) others))
    (λ f a.
    let one = of_variable is (variables_from (n + 1) others) f a in
    let number : f.0 ≡ one.variable.number = ap (λ x. x.0) one.listed in
    let least : n + 1 ≤ one.variable.number = above (n + 1) others one.variable one.among in
    omega (arith, number, least))
    (h (n + 1))

rise : (is : Variable → Bool) (n : ℕ) (instances : List Instance) → FlowsRise is (variables_from n instances)
rise is n [] = tt
rise is n (instance ∷ others) = rise_leaf is n instance instance.leaf others (λ m. rise is m others)

pub flows_ascend : (tree : Tree) → Ascends (all_flows tree)
flows_ascend tree = ascends (λ f. f.0) (all_flows tree) (rise (is_flow tree) 1 tree.instances)

-- the flow leaves that are listed are those of the variables that are flows
pub listed_flow : (tree : Tree) (v : Variable) → Among (variables_of tree) v → is_flow tree v ≡ true → (k : ℕ) × IsAt (all_flows tree) k (v.number, v.instance.place)
listed_flow tree v a h = place_of (all_flows tree) (v.number, v.instance.place) (is_listed (is_flow tree) (variables_of tree) v a h)

pub only_flows : (tree : Tree) (v : Variable) (k : ℕ) (place : Place) → Among (variables_of tree) v → IsAt (all_flows tree) k (v.number, place)
    → (is_flow tree v ≡ true) × (v.instance.place ≡ place)
only_flows tree v k place a at =
    let one = of_variable (is_flow tree) (variables_of tree) (v.number, place) (among_at (all_flows tree) k (v.number, place) at) in
    let same : v ≡ one.variable = one_variable tree v one.variable a one.among (ap (λ x. x.0) one.listed) in
    (ap (is_flow tree) same ∙ one.flow, ap (λ w. w.instance.place) same ∙ sym (ap (λ x. x.1) one.listed))
