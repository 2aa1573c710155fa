-- The number of the variable at a path, by the paths of all variables.
use Rattle.std.proofs.Common.{◌≡◌, ℕ, ◌+◌, Bool, true, false, List, [], ◌∷◌, find, filter, map, Option, Some, None, option_map, is_some, refl, ap, ◌∙◌, arith}
use Rattle.mo_scope.specs.declared.instance.Instance.{Instance as InstanceAt}
use Rattle.mo_scope.specs.declared.instance.Leaf.{Leaf as LeafAt}
use Rattle.mo_scope.specs.Frames.{Frame, Indexed, indexed_eq}
use Rattle.mo_scope.specs.Instances.{Instance, Leaf}
use Rattle.mo_scope.specs.Trees.{instance_in}
use Rattle.mo_scope.specs.Worlds.{World, frames_of}
use Rattle.mo_equations.specs.declared.leaves.Leaves.{Leaves}
use Rattle.mo_equations.specs.Leaves.{Variable, number_of, variables_from}
use Rattle.mo_equations.specs.steps.Standing.{tree_in}
use Rattle.mo_equations.specs.steps.LeafTables.{AreLeaves, is_leaf, number_by}
use Rattle.mo_equations.specs.steps.Tables.{paths_seen, place_among}

-- ---- variables by their paths

abbrev has_leaf : Instance → Bool
has_leaf instance = is_some instance.leaf

abbrev paths_of : List Instance → List Indexed
paths_of instances = map (λ instance. instance.path) (filter has_leaf instances)

abbrev is_at : Indexed → Variable → Bool
is_at path variable = indexed_eq variable.instance.path path

record IsFoundAt (k j : ℕ) (path : Indexed) (instances : List Instance) : Type 0 where
  variable : Variable
  is : find (is_at path) (variables_from k instances) ≡ Some variable
  number : variable.number ≡ k + j

more_none : (o : Option ℕ) → option_map (λ (n : ℕ). n + 1) o ≡ None → o ≡ None
more_none None h = refl
more_none (Some n) h = absurd (no h)
  where
    no : Some (n + 1) ≡ None → ⊥
    no e = cc

none_found : (k : ℕ) (path : Indexed) (instances : List Instance) → place_among (paths_of instances) path ≡ None → find (is_at path) (variables_from k instances) ≡ None
none_found k path [] h = refl
none_found k path (instance ∷ others) h = go instance.leaf refl (λ n. none_found n path others)
  where
    go : (leaf : Option Leaf) → instance.leaf ≡ leaf → ((n : ℕ) → place_among (paths_of others) path ≡ None → find (is_at path) (variables_from n others) ≡ None) → find (is_at path) (variables_from k (instance ∷ others)) ≡ None
    go None none more = rw none (more k (rw none at h))
    go (Some leaf) some more = at (indexed_eq instance.path path) refl
      where
        at : (b : Bool) → indexed_eq instance.path path ≡ b → find (is_at path) (variables_from k (instance ∷ others)) ≡ None
        at true is = absurd (no (rw (some, is) at h))
          where
            no : ◌≡◌ {A = Option ℕ} (Some 0) None → ⊥
            no e = cc
        at false is = rw (some, is) (more (k + 1) (more_none (place_among (paths_of others) path) (rw (some, is) at h)))

some_is : {A : Type 0} (a b : A) → Some a ≡ Some b → a ≡ b
some_is {A} a b e = ap held e
  where
    held : Option A → A
    held None = a
    held (Some x) = x

record IsMore (o : Option ℕ) (j : ℕ) : Type 0 where
  before : ℕ
  is : o ≡ Some before
  more : before + 1 ≡ j

more_some : (o : Option ℕ) (j : ℕ) → option_map (λ (n : ℕ). n + 1) o ≡ Some j → IsMore o j
more_some None j h = absurd (no h)
  where
    no : None ≡ Some j → ⊥
    no e = cc
more_some (Some n) j h = record { before = n; is = refl; more = some_is (n + 1) j h }

some_found : (k j : ℕ) (path : Indexed) (instances : List Instance) → place_among (paths_of instances) path ≡ Some j → IsFoundAt k j path instances
some_found k j path [] h = absurd (no h)
  where
    no : None ≡ Some j → ⊥
    no e = cc
some_found k j path (instance ∷ others) h = go instance.leaf refl (λ n i. some_found n i path others)
  where
    go : (leaf : Option Leaf) → instance.leaf ≡ leaf → ((n i : ℕ) → place_among (paths_of others) path ≡ Some i → IsFoundAt n i path others) → IsFoundAt k j path (instance ∷ others)
    go None none more =
        let below = more k j (rw none at h) in
        record { variable = below.variable; is = rw none below.is; number = below.number }
    go (Some leaf) some more = at (indexed_eq instance.path path) refl
      where
        at : (b : Bool) → indexed_eq instance.path path ≡ b → IsFoundAt k j path (instance ∷ others)
        at true is =
            let first : 0 ≡ j = some_is 0 j (rw (some, is) at h) in
            record { variable = record { number = k; instance = instance; leaf = leaf }; is = rw (some, is) refl; number = omega (arith, first) }
        at false is =
            let split = more_some (place_among (paths_of others) path) j (rw (some, is) at h) in
            let below = more (k + 1) split.before split.is in
            record { variable = below.variable; is = rw (some, is) below.is; number = omega (arith, below.number, split.more) }

number_is : (world : World) (leaves : Leaves) (path : Indexed) (o : Option ℕ) → place_among (paths_of (tree_in world leaves).instances) path ≡ o →
    number_by (paths_of (tree_in world leaves).instances) path ≡ number_of (tree_in world leaves) path
number_is world leaves path None h = rw (h, none_found 1 path (tree_in world leaves).instances h) refl
number_is world leaves path (Some j) h =
    let found = some_found 1 j path (tree_in world leaves).instances h in
    rw (h, found.is) (omega (arith, found.number))

-- the paths of variables, whatever frames they are seen with
seen_paths : (frames : List Frame) (instances : List InstanceAt) →
    map (λ (instance : InstanceAt). instance.path.0) (filter is_leaf instances) ≡ paths_of (map (instance_in frames) instances)
seen_paths frames [] = refl
seen_paths frames (i ∷ is) = go i.leaf refl (seen_paths frames is)
  where
    go : (leaf : Option LeafAt) → i.leaf ≡ leaf → map (λ (instance : InstanceAt). instance.path.0) (filter is_leaf is) ≡ paths_of (map (instance_in frames) is) →
        map (λ (instance : InstanceAt). instance.path.0) (filter is_leaf (i ∷ is)) ≡ paths_of (map (instance_in frames) (i ∷ is))
    go None none more = rw none more
    go (Some leaf) some more = rw some (ap (λ (paths : List Indexed). i.path.0 ∷ paths) more)

pub paths_are : (world : World) (leaves : Leaves) → AreLeaves world leaves → paths_seen leaves.numbers ≡ paths_of (tree_in world leaves).instances
paths_are world leaves are = are.numbers ∙ seen_paths (frames_of world) leaves.instances.now

pub numbered : (world : World) (leaves : Leaves) (path : Indexed) → AreLeaves world leaves → number_by (paths_seen leaves.numbers) path ≡ number_of (tree_in world leaves) path
numbered world leaves path are =
    ap (λ (ps : List Indexed). number_by ps path) (paths_are world leaves are)
    ∙ number_is world leaves path (place_among (paths_of (tree_in world leaves).instances) path) refl
