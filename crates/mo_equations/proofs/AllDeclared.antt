-- The variables of a tree of instances, one after another.
use Rattle.std.proofs.Common.{◌≡◌, ℕ, suc, zero, ◌+◌, ◌<◌, ◌≤◌, List, [], ◌∷◌, ◌++◌, drop, get_or, length, length-append, map, take, Option, Some, None, Ok, Err, refl, ap, sym, ◌∙◌, arith}
use Rattle.std.specs.Prelude.{option_map}
use Rattle.std.proofs.lemmas.List.{append-nil, map-append, take_all, take_more}
use Rattle.mo_syntax.specs.Outcome.{Outcome, and_then, IfBroken}
use Rattle.mo_syntax.specs.declared.place.Broken.{Broken}
use Rattle.mo_syntax.specs.declared.place.Stop.{Stop}
use Rattle.mo_syntax.specs.declared.place.Stop.TheVariants.{Broken as broken_by, NoMemory as no_memory}
use Rattle.mo_flat.specs.declared.expr.FlatExpr.{FlatExpr}
use Rattle.mo_scope.specs.declared.instance.Chosen.{Chosen as ChosenAt}
use Rattle.mo_scope.specs.declared.instance.Instance.{Instance as InstanceAt}
use Rattle.mo_scope.specs.declared.instance.Leaf.{Leaf as LeafAt}
use Rattle.mo_scope.specs.Frames.{Frame}
use Rattle.mo_scope.specs.Instances.{Instance, Leaf}
use Rattle.mo_scope.specs.Trees.{IsInstance, IsLeaf, attribute_in, chosen_in, instance_in, leaf_in}
use Rattle.mo_scope.specs.Worlds.{World, Grows, frames_of}
use Rattle.mo_typing.specs.Outcome.{Gives, each}
use Rattle.mo_eval.specs.FrameBindings.{IsBoundAs, IsBoundByFrame}
use Rattle.mo_equations.specs.declared.desk.Desk.{Desk}
use Rattle.mo_equations.specs.declared.flat.Flat.{Flat}
use Rattle.mo_equations.specs.declared.variables.Variable.{Variable as VariableAt}
use Rattle.mo_equations.specs.Leaves.{Tree, Variable, variables_from, with_leaf}
use Rattle.mo_equations.specs.Variables.{declared, declared_with, flat_attribute, flat_binding, flat_option}
use Rattle.mo_equations.specs.steps.Declaring.{IsBound, IsOneOf, binding_in, variable_in}
use Rattle.mo_equations.specs.steps.Desks.{Goes, IsDesk}
use Rattle.mo_equations.specs.steps.Standing.{tree_in}
use Rattle.mo_equations.specs.steps.Flats.{Answers, IsFlat}
use Rattle.mo_equations.specs.steps.Makings.{IsFlatOption}
use Rattle.mo_equations.proofs.Declares.{variable_later}
use Rattle.mo_equations.proofs.Eaching.{Left, each_append, left_halts}
use Rattle.mo_equations.proofs.Staying.{instance_later, same_tree}

-- ---- attributes

pub attribute_within : (F : List Frame) (xs : List (ℕ × ChosenAt)) (i : ℕ) → i < length xs → i < length (map (attribute_in F) xs)
attribute_within F [] i small = let h : i < 0 = small in absurd (omega (arith, h))
attribute_within F (x ∷ xs) zero small = omega arith
attribute_within F (x ∷ xs) (suc i) small = let rest = attribute_within F xs i (omega (arith, small)) in omega (arith, rest)

pub attribute_is : (F : List Frame) (xs : List (ℕ × ChosenAt)) (i : ℕ) (x : ℕ × ChosenAt) → i < length xs → x ≡ get_or xs i x → attribute_in F x ≡ get_or (map (attribute_in F) xs) i (attribute_in F x)
attribute_is F [] i x small is = let h : i < 0 = small in absurd (omega (arith, h))
attribute_is F (y ∷ ys) zero x small is = ap (attribute_in F) is
attribute_is F (y ∷ ys) (suc i) x small is = attribute_is F ys i x (omega (arith, small)) is

pub attribute_stop : (o : Outcome FlatExpr) (number : ℕ) (stop : Stop) → Answers {T = Flat} IsFlat (Err stop) o → Gives {T = ℕ × FlatExpr} (Err stop) (and_then o (λ e. Ok (number, e)))
attribute_stop o number (broken_by broken) h = rw h refl
attribute_stop o number no_memory h = tt

pub each_stop : {T A B : Type 0} (Is : T → List B → Type 0) (f : A → Outcome B) (xs : List A) (i : ℕ) (made : List B) (x : A) (stop : Stop) → i < length xs → x ≡ get_or xs i x →
    Left f xs i made ≡ each f xs → Gives {T = B} (Err stop) (f x) → Answers {T = T} Is (Err stop) (each f xs)
each_stop Is f xs i made x (broken_by broken) small is left h = sym left ∙ left_halts f xs i made x broken small is h
each_stop Is f xs i made x no_memory small is left h = tt

-- ---- one variable

pub refused_first : {T A B : Type 0} (U : Type 0) (Is : T → A → Type 0) (o : Outcome A) (f : A → Outcome B) (stop : Stop) → Answers {T = T} Is (Err stop) o → IfBroken {T = U} (Err stop) (λ broken. and_then o f ≡ Err broken)
refused_first U Is o f (broken_by broken) h = rw h refl
refused_first U Is o f no_memory h = tt

pub refused_then : {T A B C : Type 0} (U : Type 0) (Is : T → B → Type 0) (o : Outcome A) (a : A) (p : Outcome B) (f : A → B → Outcome C) (stop : Stop) → o ≡ Ok a → Answers {T = T} Is (Err stop) p →
    IfBroken {T = U} (Err stop) (λ broken. and_then o (λ a. and_then p (f a)) ≡ Err broken)
refused_then U Is o a p f (broken_by broken) is h = rw (is, h) refl
refused_then U Is o a p f no_memory is h = tt

pub bound_of : (tree : Tree) (variable : Variable) (F : List Frame) (o : Option ChosenAt) (b : Option FlatExpr) → flat_option tree variable (option_map (chosen_in F) o) ≡ Ok b → IsBound o b
bound_of tree variable F None None is = tt
bound_of tree variable F None (Some e) is = absurd (no is)
  where
    no : ◌≡◌ {A = Outcome (Option FlatExpr)} (Ok None) (Ok (Some e)) → ⊥
    no h = cc
bound_of tree variable F (Some binding) None is = tt
bound_of tree variable F (Some binding) (Some e) is = tt

-- ---- all of them

from_append : (n : ℕ) (xs ys : List Instance) → variables_from n (xs ++ ys) ≡ variables_from n xs ++ variables_from (n + length (variables_from n xs)) ys
from_append n [] ys = ap (λ m. variables_from m ys) (plain n)
  where
    plain : (m : ℕ) → m ≡ m + 0
    plain m = omega arith
from_append n (x ∷ xs) ys = at x.leaf refl (from_append n xs ys) (from_append (n + 1) xs ys)
  where
    shift : (m k : ℕ) → (m + 1) + k ≡ m + suc k
    shift m k = omega arith

    at : (leaf : Option Leaf) → x.leaf ≡ leaf → variables_from n (xs ++ ys) ≡ variables_from n xs ++ variables_from (n + length (variables_from n xs)) ys →
        variables_from (n + 1) (xs ++ ys) ≡ variables_from (n + 1) xs ++ variables_from ((n + 1) + length (variables_from (n + 1) xs)) ys →
        variables_from n (x ∷ (xs ++ ys)) ≡ variables_from n (x ∷ xs) ++ variables_from (n + length (variables_from n (x ∷ xs))) ys
    at None is same next = rw is same
    at (Some leaf) is same next =
        let first : (zs : List Instance) → variables_from n (x ∷ zs) ≡ record { number = n; instance = x; leaf = leaf } ∷ variables_from (n + 1) zs = λ zs. ap (λ l. with_leaf n x l (λ next. variables_from next zs)) is in
        first (xs ++ ys)
        ∙ ap (λ vs. record { number = n; instance = x; leaf = leaf } ∷ vs) next
        ∙ ap (λ m. record { number = n; instance = x; leaf = leaf } ∷ (variables_from (n + 1) xs ++ variables_from m ys)) (shift n (length (variables_from (n + 1) xs)))
        ∙ sym (ap (λ vs. vs ++ variables_from (n + length vs) ys) (first xs))

module _ (F : List Frame) where
  abbrev pub seen : List InstanceAt → List Instance
  seen xs = map (instance_in F) xs

  abbrev pub so_far : List InstanceAt → ℕ → List Variable
  so_far xs i = variables_from 1 (seen (take i xs))

  next_is : (xs : List InstanceAt) (i : ℕ) (x : InstanceAt) → i < length xs → x ≡ get_or xs i x → seen (take (i + 1) xs) ≡ seen (take i xs) ++ instance_in F x ∷ []
  next_is xs i x small is = ap seen (take_more xs i x small ∙ ap (λ y. take i xs ++ y ∷ []) (sym is)) ∙ map-append (instance_in F) (take i xs) (x ∷ [])

  -- an instance that is no leaf
  pub passes : (xs : List InstanceAt) (i : ℕ) (x : InstanceAt) → i < length xs → x ≡ get_or xs i x → x.leaf ≡ None → so_far xs (i + 1) ≡ so_far xs i
  passes xs i x small is none =
      ap (variables_from 1) (next_is xs i x small is) ∙ from_append 1 (seen (take i xs)) (instance_in F x ∷ []) ∙ ap (λ vs. so_far xs i ++ vs) (nothing (1 + length (so_far xs i))) ∙ append-nil (so_far xs i)
    where
      nothing : (n : ℕ) → variables_from n (instance_in F x ∷ []) ≡ []
      nothing n = rw none refl

  -- a leaf, with the next number
  abbrev pub variable_of : ℕ → InstanceAt → LeafAt → Variable
  variable_of n x leaf = record { number = n; instance = instance_in F x; leaf = leaf_in F leaf }

  pub adds : (xs : List InstanceAt) (i : ℕ) (x : InstanceAt) (leaf : LeafAt) (n : ℕ) → i < length xs → x ≡ get_or xs i x → x.leaf ≡ Some leaf → n ≡ length (so_far xs i) →
      so_far xs (i + 1) ≡ so_far xs i ++ variable_of (n + 1) x leaf ∷ []
  adds xs i x leaf n small is some count =
      ap (variables_from 1) (next_is xs i x small is) ∙ from_append 1 (seen (take i xs)) (instance_in F x ∷ [])
      ∙ ap (λ vs. so_far xs i ++ vs) (one (1 + length (so_far xs i)) ∙ ap (λ m. variable_of m x leaf ∷ []) (number n (length (so_far xs i)) count))
    where
      one : (m : ℕ) → variables_from m (instance_in F x ∷ []) ≡ variable_of m x leaf ∷ []
      one m = rw some refl

      number : (a b : ℕ) → a ≡ b → 1 + b ≡ a + 1
      number a b h = omega (arith, h)

  pub counts : (xs : List InstanceAt) (i : ℕ) (x : InstanceAt) (leaf : LeafAt) (n : ℕ) → i < length xs → x ≡ get_or xs i x → x.leaf ≡ Some leaf → n ≡ length (so_far xs i) → n + 1 ≡ length (so_far xs (i + 1))
  counts xs i x leaf n small is some count =
      number n (length (so_far xs i)) (length (so_far xs i ++ variable_of (n + 1) x leaf ∷ [])) count (length-append (so_far xs i) (variable_of (n + 1) x leaf ∷ [])) ∙ sym (ap length (adds xs i x leaf n small is some count))
    where
      number : (a b c : ℕ) → a ≡ b → c ≡ b + 1 → a + 1 ≡ c
      number a b c h k = omega (arith, h, k)

  -- what each gives so far
  pub gives_more : {B : Type 0} (f : Variable → Outcome B) (xs : List InstanceAt) (i : ℕ) (x : InstanceAt) (leaf : LeafAt) (n : ℕ) (all : List B) (b : B) → i < length xs → x ≡ get_or xs i x → x.leaf ≡ Some leaf →
      n ≡ length (so_far xs i) → each f (so_far xs i) ≡ Ok all → f (variable_of (n + 1) x leaf) ≡ Ok b → each f (so_far xs (i + 1)) ≡ Ok (all ++ b ∷ [])
  gives_more f xs i x leaf n all b small is some count before one =
      ap (each f) (adds xs i x leaf n small is some count) ∙ each_append f (so_far xs i) (variable_of (n + 1) x leaf ∷ []) ∙ rw (before, one) refl

  -- all of them break where one does
  split_at : (xs : List InstanceAt) (i : ℕ) → seen xs ≡ seen (take i xs) ++ seen (drop i xs)
  split_at xs zero = refl
  split_at [] (suc i) = refl
  split_at (x ∷ xs) (suc i) = ap (λ ys. instance_in F x ∷ ys) (split_at xs i)

  pub all_break : {B : Type 0} (f : Variable → Outcome B) (xs : List InstanceAt) (i : ℕ) (x : InstanceAt) (leaf : LeafAt) (n : ℕ) (all : List B) (broken : Broken) → i < length xs → x ≡ get_or xs i x → x.leaf ≡ Some leaf →
      n ≡ length (so_far xs i) → each f (so_far xs i) ≡ Ok all → f (variable_of (n + 1) x leaf) ≡ Err broken → each f (variables_from 1 (seen xs)) ≡ Err broken
  all_break f xs i x leaf n all broken small is some count before one =
      let broke : each f (so_far xs i ++ variable_of (n + 1) x leaf ∷ []) ≡ Err broken = each_append f (so_far xs i) (variable_of (n + 1) x leaf ∷ []) ∙ both before one in
      ap (λ ys. each f (variables_from 1 ys)) (split_at xs (i + 1))
      ∙ ap (each f) (from_append 1 (seen (take (i + 1) xs)) (seen (drop (i + 1) xs)))
      ∙ each_append f (so_far xs (i + 1)) (variables_from (1 + length (so_far xs (i + 1))) (seen (drop (i + 1) xs)))
      ∙ ap (λ o. and_then o (λ made. and_then (each f (variables_from (1 + length (so_far xs (i + 1))) (seen (drop (i + 1) xs)))) (λ more. Ok (made ++ more))))
      (ap (each f) (adds xs i x leaf n small is some count) ∙ broke)
    where
      both : each f (so_far xs i) ≡ Ok all → f (variable_of (n + 1) x leaf) ≡ Err broken →
          and_then (each f (so_far xs i)) (λ made. and_then (each f (variable_of (n + 1) x leaf ∷ [])) (λ more. Ok (made ++ more))) ≡ Err broken
      both p q = rw (p, q) refl

  pub all_given : {B : Type 0} (f : Variable → Outcome B) (xs : List InstanceAt) (i : ℕ) (all : List B) → length xs ≤ i → each f (so_far xs i) ≡ Ok all → each f (variables_from 1 (seen xs)) ≡ Ok all
  all_given f xs i all above is = ap (λ ys. each f (variables_from 1 (seen ys))) (sym (take_all i xs above)) ∙ is

-- ---- a variable with its parts

pub declared_is : (tree : Tree) (variable : Variable) (given : List (ℕ × FlatExpr)) (b : Option FlatExpr) → each (flat_attribute tree variable) variable.leaf.attributes ≡ Ok given →
    flat_option tree variable variable.leaf.binding ≡ Ok b → declared tree variable ≡ Ok (declared_with tree variable given b)
declared_is tree variable given b p q = rw (p, q) refl

pub option_later : (u v : World) (before after : Desk) (variable : VariableAt) → IsDesk u before → Goes u v before after → IsOneOf u variable →
    flat_option (tree_in v after.leaves) (variable_in (frames_of v) variable) (binding_in (frames_of v) variable) ≡ flat_option (tree_in u before.leaves) (variable_in (frames_of u) variable) (binding_in (frames_of u) variable)
option_later u v before after variable is goes one =
    ap (λ (tree : Tree). flat_option tree (variable_in (frames_of v) variable) (binding_in (frames_of v) variable)) (same_tree u v before after is goes)
    ∙ ap (λ (x : Variable). flat_option (tree_in u before.leaves) x x.leaf.binding) (variable_later u v variable goes.grows one)

pub declared_later : (u v : World) (before after : Desk) (variable : VariableAt) → IsDesk u before → Goes u v before after → IsOneOf u variable →
    declared (tree_in v after.leaves) (variable_in (frames_of v) variable) ≡ declared (tree_in u before.leaves) (variable_in (frames_of u) variable)
declared_later u v before after variable is goes one =
    ap (λ (tree : Tree). declared tree (variable_in (frames_of v) variable)) (same_tree u v before after is goes) ∙ ap (declared (tree_in u before.leaves)) (variable_later u v variable goes.grows one)

pub attribute_given : (o : Outcome FlatExpr) (number : ℕ) (e : FlatExpr) → o ≡ Ok e → and_then {B = ℕ × FlatExpr} o (λ e. Ok (number, e)) ≡ Ok (number, e)
attribute_given o number e is = rw is refl

pub attributes_end : (F : List Frame) (xs : List (ℕ × ChosenAt)) (i : ℕ) → length xs ≤ i → length (map (attribute_in F) xs) ≤ i
attributes_end F [] i above = above
attributes_end F (x ∷ xs) zero above = let h : suc (length xs) ≤ 0 = above in absurd (omega (arith, h))
attributes_end F (x ∷ xs) (suc i) above = let rest = attributes_end F xs i (omega (arith, above)) in omega (arith, rest)

-- the leaf of an instance that exists
pub leaf_exists : (world : World) (instance : InstanceAt) (leaf : LeafAt) → IsInstance world instance → instance.leaf ≡ Some leaf → IsLeaf world leaf
leaf_exists world instance leaf is some = rw some at is.leaf

-- what binds it
pub leaf_bound : (world : World) (instance : InstanceAt) (leaf : LeafAt) → IsBoundByFrame world instance → instance.leaf ≡ Some leaf → IsBoundAs world instance.frame.0 leaf
leaf_bound world instance leaf is some = rw some at is

-- a variable that is read in a later world is the one of the first
leaf_same : (u v : World) (x : InstanceAt) (leaf : LeafAt) → Grows u v → IsInstance u x → x.leaf ≡ Some leaf → leaf_in (frames_of v) leaf ≡ leaf_in (frames_of u) leaf
leaf_same u v x leaf g is some = rw some at (ap (λ i. held i.leaf) (instance_later u v x g is))
  where
    held : Option Leaf → Leaf
    held None = leaf_in (frames_of v) leaf
    held (Some l) = l

pub declared_there : (u v : World) (before after : Desk) (n : ℕ) (x : InstanceAt) (leaf : LeafAt) → IsDesk u before → Goes u v before after → IsInstance u x → x.leaf ≡ Some leaf →
    declared (tree_in v after.leaves) (variable_of (frames_of v) n x leaf) ≡ declared (tree_in u before.leaves) (variable_of (frames_of u) n x leaf)
declared_there u v before after n x leaf is goes one some =
    ap (λ (tree : Tree). declared tree (variable_of (frames_of v) n x leaf)) (same_tree u v before after is goes)
    ∙ ap (λ (i : Instance). declared (tree_in u before.leaves) (record { number = n; instance = i; leaf = leaf_in (frames_of v) leaf })) (instance_later u v x goes.grows one)
    ∙ ap (λ (l : Leaf). declared (tree_in u before.leaves) (record { number = n; instance = instance_in (frames_of u) x; leaf = l })) (leaf_same u v x leaf goes.grows one some)

-- the one of them that breaks
pub refused_at : {T A B : Type 0} (U : Type 0) (Is : T → A → Type 0) (o : Outcome B) (p : Outcome A) (stop : Stop) → IfBroken {T = U} (Err stop) (λ broken. o ≡ Err broken) →
    ((broken : Broken) → o ≡ Err broken → p ≡ Err broken) → Answers {T = T} Is (Err stop) p
refused_at U Is o p (broken_by broken) h f = f broken h
refused_at U Is o p no_memory h f = tt

-- an option that is nowhere some
pub nowhere : {A : Type 0} (o : Option A) → ((x : A) → o ≡ Some x → ⊥) → o ≡ None
nowhere None h = refl
nowhere (Some x) h = absurd (h x refl)

pub binding_flat : (tree : Tree) (variable : Variable) (o : Option ChosenAt) (F : List Frame) (chosen : ChosenAt) (flat : Flat) → o ≡ Some chosen →
    Answers IsFlat (Ok flat) (flat_binding tree variable (chosen_in F chosen)) → Answers IsFlatOption (Ok (Some flat)) (flat_option tree variable (option_map (chosen_in F) o))
binding_flat tree variable o F chosen flat some h = (Some h.0, rw (some, h.1) refl, h.2)
