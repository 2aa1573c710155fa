-- The flows among the variables, one after another.
use Rattle.std.proofs.Common.{◌≡◌, ℕ, zero, suc, ◌+◌, ◌≤◌, Bool, cond, List, [], ◌∷◌, ◌++◌, flat_map, map, take, length, Option, Some, None, option_map, is_some, refl, ap, sym, subst, ◌∙◌, arith}
use Rattle.std.specs.Prelude.{slice_get}
use Rattle.std.proofs.lemmas.List.{append-nil, take_all}
use Rattle.mo_syntax.specs.declared.place.Place.{Place}
use Rattle.mo_scope.specs.declared.instance.Instance.{Instance as InstanceAt}
use Rattle.mo_scope.specs.declared.instance.Leaf.{Leaf as LeafAt}
use Rattle.mo_scope.specs.Frames.{Frame}
use Rattle.mo_scope.specs.Instances.{Instance, Leaf}
use Rattle.mo_scope.specs.Trees.{instance_in, leaf_in as leaf_seen}
use Rattle.mo_equations.specs.Connectors.{is_connector, is_declared_flow}
use Rattle.mo_equations.specs.declared.leaves.Leaves.{Leaves}
use Rattle.mo_equations.specs.Leaves.{Tree, Variable, variables_from, variables_of, with_leaf}
use Rattle.mo_scope.specs.Worlds.{World, frames_of}
use Rattle.mo_equations.specs.steps.Standing.{tree_in}
use Rattle.mo_equations.specs.steps.LeafTables.{AreLeaves, PlacesAreThose, flow_at, flow_in, is_flow_by, leaves_in, paths_that}
use Rattle.mo_equations.proofs.Lists.{flat_mapped, taken_got}
use Rattle.mo_equations.proofs.Located.{flow_located}

abbrev with_others : ℕ → Instance → Option Leaf → List Instance → List Variable
with_others n instance leaf others = with_leaf n instance leaf (λ next. variables_from next others)

-- the variable with so many before it
module _ (frames : List Frame) (i : InstanceAt) where
  pub record IsSlot (n k : ℕ) (all : List Variable) : Type 0 where
    pub leaf : LeafAt
    pub some : i.leaf ≡ Some leaf
    pub at : slice_get all k ≡ Some (record { number = n + k; instance = instance_in frames i; leaf = leaf_seen frames leaf })

  some_one : (a b : InstanceAt) → Some a ≡ Some b → a ≡ b
  some_one a b e = ap held e
    where
      held : Option InstanceAt → InstanceAt
      held None = a
      held (Some x) = x

  at_first : (n : ℕ) (j : InstanceAt) (leaf : LeafAt) (rest : List Variable) → j.leaf ≡ Some leaf → j ≡ i → IsSlot n 0 (record { number = n; instance = instance_in frames j; leaf = leaf_seen frames leaf } ∷ rest)
  at_first n j leaf rest some e =
      let zero_more : n ≡ n + 0 = omega arith in
      record {
        leaf = leaf;
        some = ap (λ (x : InstanceAt). x.leaf) (sym e) ∙ some;
        at = ap (λ (m : ℕ). Some (record { number = m; instance = instance_in frames j; leaf = leaf_seen frames leaf })) zero_more
            ∙ ap (λ (x : InstanceAt). Some (record { number = n + 0; instance = instance_in frames x; leaf = leaf_seen frames leaf })) e;
      }

  at_later : (n k : ℕ) (first : Variable) (rest : List Variable) → IsSlot (n + 1) k rest → IsSlot n (suc k) (first ∷ rest)
  at_later n k first rest below =
      let same : n + 1 + k ≡ n + suc k = omega arith in
      record {
        leaf = below.leaf;
        some = below.some;
        at = subst (λ (m : ℕ). slice_get rest k ≡ Some (record { number = m; instance = instance_in frames i; leaf = leaf_seen frames below.leaf })) same below.at;
      }

  slot_step : (n k : ℕ) (j : InstanceAt) (is : List InstanceAt) (o : Option LeafAt) → j.leaf ≡ o →
      ((m l : ℕ) → slice_get (leaves_in is) l ≡ Some i → IsSlot m l (variables_from m (map (instance_in frames) is))) →
      slice_get (cond (is_some o) (j ∷ leaves_in is) (leaves_in is)) k ≡ Some i → IsSlot n k (with_others n (instance_in frames j) (option_map (leaf_seen frames) o) (map (instance_in frames) is))
  slot_step n k j is None none more at = more n k at
  slot_step n zero j is (Some leaf) some more at = at_first n j leaf (variables_from (n + 1) (map (instance_in frames) is)) some (some_one j i at)
  slot_step n (suc k) j is (Some leaf) some more at =
      at_later n k (record { number = n; instance = instance_in frames j; leaf = leaf_seen frames leaf }) (variables_from (n + 1) (map (instance_in frames) is)) (more (n + 1) k at)

  pub slot_of : (n k : ℕ) (is : List InstanceAt) → slice_get (leaves_in is) k ≡ Some i → IsSlot n k (variables_from n (map (instance_in frames) is))
  slot_of n k [] at = absurd (let clash : ◌≡◌ {A = Option InstanceAt} None (Some i) = at in cc)
  slot_of n k (j ∷ is) at = slot_step n k j is j.leaf refl (λ m l h. slot_of m l is h) at

-- there are as many variables as leaves
many_step : (frames : List Frame) (n : ℕ) (j : InstanceAt) (is : List InstanceAt) (o : Option LeafAt) → ((m : ℕ) → length (variables_from m (map (instance_in frames) is)) ≡ length (leaves_in is)) →
    length (with_others n (instance_in frames j) (option_map (leaf_seen frames) o) (map (instance_in frames) is)) ≡ length (cond (is_some o) (j ∷ leaves_in is) (leaves_in is))
many_step frames n j is None more = more n
many_step frames n j is (Some leaf) more = ap suc (more (n + 1))

pub same_many : (frames : List Frame) (n : ℕ) (is : List InstanceAt) → length (variables_from n (map (instance_in frames) is)) ≡ length (leaves_in is)
same_many frames n [] = refl
same_many frames n (j ∷ is) = many_step frames n j is j.leaf (λ m. same_many frames m is)

-- ---- flows

-- the flow of a variable, by its instance
module _ (tree : Tree) (frames : List Frame) (i : InstanceAt) (k : ℕ) (slot : IsSlot frames i 1 k (variables_of tree)) where
  abbrev here : Variable
  here = record { number = 1 + k; instance = instance_in frames i; leaf = leaf_seen frames slot.leaf }

  pub flow_is : (flow : Bool) → flow ≡ is_flow_by (paths_that (is_connector tree.classes) tree.instances) (paths_that (is_declared_flow tree.classes) tree.instances) i →
      flow_at tree k ≡ cond flow ((k + 1, i.place) ∷ []) []
  flow_is flow is =
      let number : 1 + k ≡ k + 1 = omega arith in
      rw slot.at
      (ap (λ (b : Bool). cond b ((1 + k, i.place) ∷ []) []) (sym (is ∙ flow_located tree here i slot.leaf slot.some refl refl))
      ∙ ap (λ (n : ℕ). cond flow ((n, i.place) ∷ []) []) number)

-- those of the variables up to a place, and one more
pub flows_more : (tree : Tree) (k : ℕ) (v : Variable) → slice_get (variables_of tree) k ≡ Some v → flat_map (flow_in tree) (take (k + 1) (variables_of tree)) ≡ flat_map (flow_in tree) (take k (variables_of tree)) ++ flow_at tree k
flows_more tree k v at =
    ap (flat_map (flow_in tree)) (taken_got (variables_of tree) k v at)
    ∙ flat_mapped (flow_in tree) (take k (variables_of tree)) (v ∷ [])
    ∙ ap (λ (fs : List (ℕ × Place)). flat_map (flow_in tree) (take k (variables_of tree)) ++ fs) (append-nil (flow_in tree v) ∙ sym (rw at refl))

none_above : {A : Type 0} (xs : List A) (k : ℕ) → slice_get xs k ≡ None → length xs ≤ k
none_above [] k h = omega arith
none_above {A} (x ∷ xs) zero h = absurd (let clash : ◌≡◌ {A = Option A} (Some x) None = h in cc)
none_above (x ∷ xs) (suc k) h = let below = none_above xs k h in omega (arith, below)

mapped_length : {A B : Type 0} (f : A → B) (xs : List A) → length (map f xs) ≡ length xs
mapped_length f [] = refl
mapped_length f (x ∷ xs) = ap suc (mapped_length f xs)

pub flows_step : (tree : Tree) (k : ℕ) → flat_map (flow_in tree) (take (k + 1) (variables_of tree)) ≡ flat_map (flow_in tree) (take k (variables_of tree)) ++ flow_at tree k
flows_step tree k = go (slice_get (variables_of tree) k) refl
  where
    go : (o : Option Variable) → slice_get (variables_of tree) k ≡ o → flat_map (flow_in tree) (take (k + 1) (variables_of tree)) ≡ flat_map (flow_in tree) (take k (variables_of tree)) ++ flow_at tree k
    go (Some v) at = flows_more tree k v at
    go None at =
        let above = none_above (variables_of tree) k at in
        let none : flow_at tree k ≡ [] = rw at refl in
        ap (flat_map (flow_in tree)) (take_all (k + 1) (variables_of tree) (omega (arith, above)) ∙ sym (take_all k (variables_of tree) above))
        ∙ sym (ap (λ (fs : List (ℕ × Place)). flat_map (flow_in tree) (take k (variables_of tree)) ++ fs) none ∙ append-nil (flat_map (flow_in tree) (take k (variables_of tree))))

-- as many as the places that are held
pub places_many : (leaves : Leaves) (frames : List Frame) → PlacesAreThose leaves → length (variables_from 1 (map (instance_in frames) leaves.instances.now)) ≡ length leaves.places
places_many leaves frames are =
    same_many frames 1 leaves.instances.now
    ∙ sym (sym (mapped_length (slice_get leaves.instances.now) leaves.places) ∙ (ap (λ (os : List (Option InstanceAt)). length os) are ∙ mapped_length (λ instance. Some instance) (leaves_in leaves.instances.now)))

-- ---- what is put

mapped_got : {A B : Type 0} (f : A → B) (xs : List A) (k : ℕ) (x : A) → slice_get xs k ≡ Some x → slice_get (map f xs) k ≡ Some (f x)
mapped_got {A} f [] k x at = absurd (let clash : ◌≡◌ {A = Option A} None (Some x) = at in cc)
mapped_got {A} {B} f (y ∷ ys) zero x at = ap (option_map f) at
mapped_got f (y ∷ ys) (suc k) x at = mapped_got f ys k x at

same_flow : (a b : Bool) → Some a ≡ Some b → a ≡ b
same_flow a b e = ap held e
  where
    held : Option Bool → Bool
    held None = a
    held (Some x) = x

-- the flow of the variable with so many before it, by its instance and its mark
pub put_is : (world : World) (leaves : Leaves) (k : ℕ) (i : InstanceAt) (flow : Bool) → AreLeaves world leaves → slice_get (leaves_in leaves.instances.now) k ≡ Some i → slice_get leaves.flows k ≡ Some flow →
    flow_at (tree_in world leaves) k ≡ cond flow ((k + 1, i.place) ∷ []) []
put_is world leaves k i flow are at mark =
    let tree = tree_in world leaves in
    let by = is_flow_by (paths_that (is_connector tree.classes) tree.instances) (paths_that (is_declared_flow tree.classes) tree.instances) in
    let is : flow ≡ by i =
    same_flow flow (by i) (sym mark ∙ (ap (λ (fs : List Bool). slice_get fs k) are.flows ∙ mapped_got by (leaves_in leaves.instances.now) k i at)) in
    flow_is tree (frames_of world) i k (slot_of (frames_of world) i 1 k leaves.instances.now at) flow is
