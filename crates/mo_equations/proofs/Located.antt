-- The leaves below a path, by the numbers that are kept under its text; and the flows among them.
use Rattle.std.proofs.Common.{◌≡◌, ℕ, zero, suc, ◌+◌, ◌-◌, ◌<◌, ◌≤◌, Bool, true, false, cond, ◌&&◌, List, [], ◌∷◌, ◌++◌, find, flat_map, map, Option, Some, None, option_map, is_some, if◌then◌else◌, nat_eq, refl, ap, sym, ◌∙◌, subst, append_assoc, eq-eqb, eqb-true, arith}
use Rattle.std.specs.List.{list_any}
use Rattle.std.specs.Prelude.{slice_get}
use Rattle.std.specs.Str.{bytes_eq}
use Rattle.std.proofs.lemmas.List.{append-nil}
use Rattle.std.proofs.lemmas.Slice.Eq.{bytes_eq-Decides}
use Rattle.mo_flat.specs.declared.connect.EndLeaf.{EndLeaf}
use Rattle.mo_scope.specs.declared.instance.Instance.{Instance as InstanceAt}
use Rattle.mo_scope.specs.declared.instance.Leaf.{Leaf as LeafAt}
use Rattle.mo_scope.specs.Frames.{Frame, Indexed, indexed_eq}
use Rattle.mo_scope.specs.Instances.{Instance, Leaf}
use Rattle.mo_scope.specs.Places.{Every}
use Rattle.mo_scope.specs.Trees.{instance_in, leaf_in as leaf_seen}
use Rattle.mo_scope.specs.Rows.{Table}
use Rattle.mo_equations.specs.Connectors.{is_around, is_connector, is_declared_flow, is_flow, is_joined_role, leaves_below}
use Rattle.mo_equations.specs.Leaves.{Tree, Variable, behind, path_text, variables_from, variables_of, with_leaf}
use Rattle.mo_equations.specs.steps.LeafTables.{ends_with, has_text, is_flow_by, is_joined_option, leaf_at_number, leaves_in, numbers_at, numbers_from, paths_that, prefixes}
use Rattle.mo_equations.proofs.Around.{any_that, leads}
use Rattle.mo_equations.proofs.Lists.{every_mapped, flat_mapped}
use Rattle.mo_equations.proofs.Places.{same_paths}

-- ---- the variable of a number

pub positive_by : (n : ℕ) → (n ≡ 0 → ⊥) → 1 ≤ n
positive_by zero h = absurd (h refl)
positive_by (suc n) h = omega arith

abbrev has_number : ℕ → Variable → Bool
has_number n variable = nat_eq variable.number n

abbrev AreAbove : ℕ → List Variable → Type 0
AreAbove n vs = Every (λ (v : Variable). n ≤ v.number) vs

same_number : (n m : ℕ) → n ≡ m → nat_eq n m ≡ true
same_number n m e = eq-eqb n m e

other_number : (n m : ℕ) → n < m → nat_eq n m ≡ false
other_number n m less = go (nat_eq n m) refl
  where
    go : (b : Bool) → nat_eq n m ≡ b → nat_eq n m ≡ false
    go true is = absurd (omega (arith, less, eqb-true n m is))
    go false is = is

-- what is behind an instance, with what it is as a leaf
abbrev with_others : ℕ → Instance → Option Leaf → List Instance → List Variable
with_others n instance leaf others = with_leaf n instance leaf (λ next. variables_from next others)

above_leaf : (n : ℕ) (instance : Instance) (leaf : Option Leaf) (others : List Instance) → ((m : ℕ) → AreAbove m (variables_from m others)) → AreAbove n (with_others n instance leaf others)
above_leaf n instance None others more = more n
above_leaf n instance (Some leaf) others more = (
  omega arith,
  every_mapped (λ (v : Variable). n + 1 ≤ v.number) (λ (v : Variable). n ≤ v.number) (λ v h. omega (arith, h)) (variables_from (n + 1) others) (more (n + 1)),
)

above : (n : ℕ) (instances : List Instance) → AreAbove n (variables_from n instances)
above n [] = tt
above n (instance ∷ others) = above_leaf n instance instance.leaf others (λ m. above m others)

-- each variable is the one that is found by its number
abbrev AreFound : List Variable → List Variable → Type 0
AreFound all vs = Every (λ (v : Variable). find (has_number v.number) all ≡ Some v) vs

found_behind : (x : Variable) (all vs : List Variable) → Every (λ (v : Variable). x.number < v.number) vs → AreFound all vs → AreFound (x ∷ all) vs
found_behind x all [] more are = tt
found_behind x all (v ∷ vs) more are = (rw (other_number x.number v.number more.0) are.0, found_behind x all vs more.1 are.1)

found_leaf : (n : ℕ) (instance : Instance) (leaf : Option Leaf) (others : List Instance) → ((m : ℕ) → AreFound (variables_from m others) (variables_from m others)) →
    AreFound (with_others n instance leaf others) (with_others n instance leaf others)
found_leaf n instance None others more = more n
found_leaf n instance (Some leaf) others more = (
  rw (same_number n n refl) refl,
  found_behind (record { number = n; instance = instance; leaf = leaf }) (variables_from (n + 1) others) (variables_from (n + 1) others)
      (every_mapped (λ (v : Variable). n + 1 ≤ v.number) (λ (v : Variable). n < v.number) (λ v h. omega (arith, h)) (variables_from (n + 1) others) (above (n + 1) others)) (more (n + 1)),
)

found_all : (n : ℕ) (instances : List Instance) → AreFound (variables_from n instances) (variables_from n instances)
found_all n [] = tt
found_all n (instance ∷ others) = found_leaf n instance instance.leaf others (λ m. found_all m others)

-- ---- the numbers under a text

abbrev chosen_by : List ℕ → Option LeafAt → Indexed → ℕ → List ℕ
chosen_by text leaf path n = if is_joined_option leaf && list_any (has_text text) (prefixes path) then n ∷ [] else []

abbrev chosen : List ℕ → InstanceAt → ℕ → List ℕ
chosen text i n = chosen_by text i.leaf i.path.0 n

abbrev chosen_from : List ℕ → ℕ → List InstanceAt → List ℕ
chosen_from text n [] = []
chosen_from text n (i ∷ is) = chosen text i n ++ chosen_from text (n + 1) is

abbrev AreLess : ℕ → List ℕ → Type 0
AreLess n ms = Every (λ m. m < n) ms

ends_less : (ms : List ℕ) (n : ℕ) → AreLess n ms → ends_with ms n ≡ false
ends_less [] n are = refl
ends_less (x ∷ []) n are = other_number x n are.0
ends_less (x ∷ y ∷ ms) n are = ends_less (y ∷ ms) n are.1

less_more : (n : ℕ) (ms : List ℕ) → AreLess n ms → AreLess (n + 1) ms
less_more n ms are = every_mapped (λ m. m < n) (λ m. m < n + 1) (λ m h. omega (arith, h)) ms are

less_last : (n : ℕ) (ms : List ℕ) → AreLess n ms → AreLess (n + 1) (ms ++ n ∷ [])
less_last n [] are = (omega arith, tt)
less_last n (m ∷ ms) are = let first : m < n = are.0 in (omega (arith, first), less_last n ms are.1)

from_chosen : (text : List ℕ) (n : ℕ) (ms : List ℕ) (is : List InstanceAt) → AreLess n ms → numbers_from text n ms is ≡ ms ++ chosen_from text n is
from_chosen text n ms [] are = sym (append-nil ms)
from_chosen text n ms (i ∷ is) are = go (is_joined_option i.leaf) (list_any (has_text text) (prefixes i.path.0)) refl refl (λ ks. from_chosen text (n + 1) ks is)
  where
    go : (a b : Bool) → is_joined_option i.leaf ≡ a → list_any (has_text text) (prefixes i.path.0) ≡ b → ((ks : List ℕ) → AreLess (n + 1) ks → numbers_from text (n + 1) ks is ≡ ks ++ chosen_from text (n + 1) is) →
        numbers_from text n ms (i ∷ is) ≡ ms ++ (chosen text i n ++ chosen_from text (n + 1) is)
    go true true p q more = rw (p, q, ends_less ms n are) (more (ms ++ n ∷ []) (less_last n ms are) ∙ append_assoc ms (n ∷ []) (chosen_from text (n + 1) is))
    go true false p q more = rw (p, q) (more ms (less_more n ms are))
    go false b p q more = rw p (more ms (less_more n ms are))

-- ---- leaves below a path

abbrev leaf_at : Tree → Variable → Option Indexed → List EndLeaf
leaf_at tree v None = []
leaf_at tree v (Some below) = record { below = record { 0 = below }; flow = is_flow tree v; variable = v.number; place = v.instance.place } ∷ []

abbrev leaf_in : Tree → Indexed → Variable → List EndLeaf
leaf_in tree path v = if is_joined_role v.leaf.role then leaf_at tree v (behind path v.instance.path) else []

pub leaf_found : (tree : Tree) (path : Indexed) (n : ℕ) (v : Variable) → find (has_number n) (variables_of tree) ≡ Some v → leaf_at_number tree path n ≡ leaf_in tree path v
leaf_found tree path n v h = rw h refl

-- a path that leads to another one has the text of one of its prefixes
any_of : {A : Type 0} (f g : A → Bool) → ((x : A) → f x ≡ true → g x ≡ true) → (xs : List A) → list_any f xs ≡ true → list_any g xs ≡ true
any_of f g also [] h = h
any_of f g also (x ∷ xs) h = go (f x) (g x) refl refl (any_of f g also xs)
  where
    go : (a b : Bool) → f x ≡ a → g x ≡ b → (list_any f xs ≡ true → list_any g xs ≡ true) → list_any g (x ∷ xs) ≡ true
    go a true p q more = rw q refl
    go true false p q more = absurd (let clash : false ≡ true = sym q ∙ also x p in cc)
    go false false p q more = rw q (more (rw p at h))

same_path : (a b : Indexed) → indexed_eq a b ≡ true → a ≡ b
same_path a b h = same_paths a b h

text_there : (path other : Indexed) → is_some (behind path other) ≡ true → list_any (has_text (path_text path)) (prefixes other) ≡ true
text_there path other h =
    any_of (indexed_eq path) (has_text (path_text path)) (λ around same. ap (λ (p : Indexed). bytes_eq (path_text around) (path_text p)) (same_path path around same) ∙ (bytes_eq-Decides (path_text around) (path_text around)).1 refl)
    (prefixes other) (sym (leads path other) ∙ h)

module _ (tree : Tree) (path : Indexed) (frames : List Frame) where
  abbrev text : List ℕ
  text = path_text path

  abbrev of_leaf : ℕ → InstanceAt → LeafAt → Variable
  of_leaf n i leaf = record { number = n; instance = instance_in frames i; leaf = leaf_seen frames leaf }

  one_leaf : (n : ℕ) (i : InstanceAt) (leaf : LeafAt) → i.leaf ≡ Some leaf → find (has_number n) (variables_of tree) ≡ Some (of_leaf n i leaf) →
      flat_map (leaf_at_number tree path) (chosen text i n) ≡ leaf_in tree path (of_leaf n i leaf)
  one_leaf n i leaf some found =
      ap (λ (o : Option LeafAt). flat_map (leaf_at_number tree path) (chosen_by text o i.path.0 n)) some
      ∙ go (is_joined_role leaf.role) (list_any (has_text text) (prefixes i.path.0)) (behind path i.path.0) refl refl refl
    where
      go : (a b : Bool) (o : Option Indexed) → is_joined_role leaf.role ≡ a → list_any (has_text text) (prefixes i.path.0) ≡ b → behind path i.path.0 ≡ o →
          flat_map (leaf_at_number tree path) (chosen_by text (Some leaf) i.path.0 n) ≡ leaf_in tree path (of_leaf n i leaf)
      go false b o p q r = rw p refl
      go true true o p q r =
          rw (p, q)
          (append-nil (leaf_at_number tree path n)
          ∙ (leaf_found tree path n (of_leaf n i leaf) found ∙ ap (λ (x : Bool). if x then leaf_at tree (of_leaf n i leaf) (behind path i.path.0) else []) p))
      go true false None p q r = rw (p, q, r) refl
      go true false (Some below) p q r = absurd (let clash : false ≡ true = sym q ∙ text_there path i.path.0 (rw r refl) in cc)

  leaf_step : (n : ℕ) (i : InstanceAt) (is : List InstanceAt) (o : Option LeafAt) → i.leaf ≡ o →
      ((m : ℕ) → AreFound (variables_of tree) (variables_from m (map (instance_in frames) is)) →
      flat_map (leaf_at_number tree path) (chosen_from text m (leaves_in is)) ≡ flat_map (leaf_in tree path) (variables_from m (map (instance_in frames) is))) →
      AreFound (variables_of tree) (with_others n (instance_in frames i) (option_map (leaf_seen frames) o) (map (instance_in frames) is)) →
      flat_map (leaf_at_number tree path) (chosen_from text n (cond (is_some o) (i ∷ leaves_in is) (leaves_in is)))
      ≡ flat_map (leaf_in tree path) (with_others n (instance_in frames i) (option_map (leaf_seen frames) o) (map (instance_in frames) is))
  leaf_step n i is None none more are = more n are
  leaf_step n i is (Some leaf) some more are =
      flat_mapped (leaf_at_number tree path) (chosen text i n) (chosen_from text (n + 1) (leaves_in is))
      ∙ (ap (λ (ls : List EndLeaf). ls ++ flat_map (leaf_at_number tree path) (chosen_from text (n + 1) (leaves_in is))) (one_leaf n i leaf some are.0)
      ∙ ap (λ (ls : List EndLeaf). leaf_in tree path (of_leaf n i leaf) ++ ls) (more (n + 1) are.1))

  all_leaves : (n : ℕ) (is : List InstanceAt) → AreFound (variables_of tree) (variables_from n (map (instance_in frames) is)) →
      flat_map (leaf_at_number tree path) (chosen_from text n (leaves_in is)) ≡ flat_map (leaf_in tree path) (variables_from n (map (instance_in frames) is))
  all_leaves n [] are = refl
  all_leaves n (i ∷ is) are = leaf_step n i is i.leaf refl (λ m. all_leaves m is) are

-- the leaves of the numbers under the text of a path are the leaves below it
pub leaves_located : (classes : Table) (frames : List Frame) (is : List InstanceAt) (path : Indexed) →
    flat_map (leaf_at_number (record { classes = classes; instances = map (instance_in frames) is }) path) (numbers_at (leaves_in is) (path_text path))
    ≡ leaves_below (record { classes = classes; instances = map (instance_in frames) is }) path
leaves_located classes frames is path =
    let tree : Tree = record { classes = classes; instances = map (instance_in frames) is } in
    ap (flat_map (leaf_at_number tree path)) (from_chosen (path_text path) 1 [] (leaves_in is) tt)
    ∙ all_leaves tree path frames 1 is (found_all 1 tree.instances)

-- ---- flows

-- the paths of instances that pass a test, one of which leads to a path
around_that : (tree : Tree) (is : Table → Instance → Bool) (path : Indexed) → list_any (λ other. is_some (behind other path)) (paths_that (is tree.classes) tree.instances) ≡ is_around tree is path
around_that tree is path = any_that (is tree.classes) (λ instance. instance.path) (λ other. is_some (behind other path)) tree.instances

pub flow_located : (tree : Tree) (v : Variable) (i : InstanceAt) (leaf : LeafAt) → i.leaf ≡ Some leaf → v.leaf.role ≡ leaf.role → v.instance.path ≡ i.path.0 →
    is_flow_by (paths_that (is_connector tree.classes) tree.instances) (paths_that (is_declared_flow tree.classes) tree.instances) i ≡ is_flow tree v
flow_located tree v i leaf some role path =
    rw (some, role, path)
    (rw (around_that tree is_connector i.path.0, around_that tree is_declared_flow i.path.0) refl)

-- ---- the variable with so many before it

module _ (frames : List Frame) (i : InstanceAt) where
  pub record IsVariableAt (n k : ℕ) (all : List Variable) : Type 0 where
    pub leaf : LeafAt
    pub some : i.leaf ≡ Some leaf
    pub found : find (has_number (n + k)) all ≡ Some (record { number = n + k; instance = instance_in frames i; leaf = leaf_seen frames leaf })

  some_one : (a b : InstanceAt) → Some a ≡ Some b → a ≡ b
  some_one a b e = ap held e
    where
      held : Option InstanceAt → InstanceAt
      held None = a
      held (Some x) = x

  at_first : (n : ℕ) (j : InstanceAt) (leaf : LeafAt) (rest : List Variable) → j.leaf ≡ Some leaf → j ≡ i → IsVariableAt n 0 (record { number = n; instance = instance_in frames j; leaf = leaf_seen frames leaf } ∷ rest)
  at_first n j leaf rest some e =
      let zero_more : n ≡ n + 0 = omega arith in
      record {
        leaf = leaf;
        some = ap (λ (x : InstanceAt). x.leaf) (sym e) ∙ some;
        found =
            rw (same_number n (n + 0) zero_more)
            (ap (λ (m : ℕ). Some (record { number = m; instance = instance_in frames j; leaf = leaf_seen frames leaf })) zero_more
            ∙ ap (λ (x : InstanceAt). Some (record { number = n + 0; instance = instance_in frames x; leaf = leaf_seen frames leaf })) e);
      }

  at_later : (n k : ℕ) (first : Variable) (rest : List Variable) → first.number ≡ n → IsVariableAt (n + 1) k rest → IsVariableAt n (suc k) (first ∷ rest)
  at_later n k first rest e below =
      let same : n + 1 + k ≡ n + suc k = omega arith in
      let apart : first.number < n + suc k = omega (arith, e) in
      record {
        leaf = below.leaf;
        some = below.some;
        found =
            rw (other_number first.number (n + suc k) apart)
            (subst (λ (m : ℕ). find (has_number m) rest ≡ Some (record { number = m; instance = instance_in frames i; leaf = leaf_seen frames below.leaf })) same below.found);
      }

  nth_step : (n k : ℕ) (j : InstanceAt) (is : List InstanceAt) (o : Option LeafAt) → j.leaf ≡ o →
      ((m l : ℕ) → slice_get (leaves_in is) l ≡ Some i → IsVariableAt m l (variables_from m (map (instance_in frames) is))) →
      slice_get (cond (is_some o) (j ∷ leaves_in is) (leaves_in is)) k ≡ Some i → IsVariableAt n k (with_others n (instance_in frames j) (option_map (leaf_seen frames) o) (map (instance_in frames) is))
  nth_step n k j is None none more at = more n k at
  nth_step n zero j is (Some leaf) some more at = at_first n j leaf (variables_from (n + 1) (map (instance_in frames) is)) some (some_one j i at)
  nth_step n (suc k) j is (Some leaf) some more at =
      at_later n k (record { number = n; instance = instance_in frames j; leaf = leaf_seen frames leaf }) (variables_from (n + 1) (map (instance_in frames) is)) refl (more (n + 1) k at)

  pub variable_of : (n k : ℕ) (is : List InstanceAt) → slice_get (leaves_in is) k ≡ Some i → IsVariableAt n k (variables_from n (map (instance_in frames) is))
  variable_of n k [] at = absurd (let clash : ◌≡◌ {A = Option InstanceAt} None (Some i) = at in cc)
  variable_of n k (j ∷ is) at = nth_step n k j is j.leaf refl (λ m l h. variable_of m l is h) at

-- the leaf of a number, by the instance of its variable
module _ (tree : Tree) (path : Indexed) (frames : List Frame) (i : InstanceAt) (n : ℕ) (v : IsVariableAt frames i 1 (n - 1) (variables_of tree)) (positive : 1 ≤ n) where
  abbrev variable : Variable
  variable = record { number = n; instance = instance_in frames i; leaf = leaf_seen frames v.leaf }

  found_here : find (has_number n) (variables_of tree) ≡ Some variable
  found_here =
      let same : 1 + (n - 1) ≡ n = omega (arith, positive) in
      subst (λ (m : ℕ). find (has_number m) (variables_of tree) ≡ Some (record { number = m; instance = instance_in frames i; leaf = leaf_seen frames v.leaf })) same v.found

  joined_is : is_joined_option i.leaf ≡ is_joined_role v.leaf.role
  joined_is = ap is_joined_option v.some

  pub not_joined : is_joined_option i.leaf ≡ false → leaf_at_number tree path n ≡ []
  not_joined h = leaf_found tree path n variable found_here ∙ rw (sym joined_is ∙ h) refl

  pub not_behind : behind path i.path.0 ≡ None → leaf_at_number tree path n ≡ []
  not_behind h = leaf_found tree path n variable found_here ∙ go (is_joined_role v.leaf.role) refl
    where
      go : (b : Bool) → is_joined_role v.leaf.role ≡ b → leaf_in tree path variable ≡ []
      go true is = rw (is, h) refl
      go false is = rw is refl

  pub is_behind : (below : Indexed) (flow : Bool) → is_joined_option i.leaf ≡ true → behind path i.path.0 ≡ Some below →
      flow ≡ is_flow_by (paths_that (is_connector tree.classes) tree.instances) (paths_that (is_declared_flow tree.classes) tree.instances) i →
      leaf_at_number tree path n ≡ record { below = record { 0 = below }; flow = flow; variable = n; place = i.place } ∷ []
  is_behind below flow joined h flows =
      leaf_found tree path n variable found_here
      ∙ (ap (λ (b : Bool). if b then leaf_at tree variable (behind path i.path.0) else []) (sym joined_is ∙ joined)
      ∙ ap (leaf_at tree variable) h
      ∙ ap (λ (f : Bool). record { below = record { 0 = below }; flow = f; variable = n; place = i.place } ∷ []) (sym (flows ∙ flow_located tree variable i v.leaf v.some refl refl)))
