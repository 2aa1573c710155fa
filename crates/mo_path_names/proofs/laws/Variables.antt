-- The variables of a flat model have printed paths as their names, each that of another instance.
use Rattle.std.proofs.Common.{◌≡◌, ◌≢◌, ℕ, ◌+◌, List, [], ◌∷◌, map, Option, Some, None, Ok, refl, ap, sym, ◌∙◌, arith}
use Rattle.std.specs.Prelude.{AllPairs}
use Rattle.std.proofs.lemmas.List.Kept.{AllPairs-cons}
use Rattle.mo_syntax.specs.declared.meaning.Role.{Role}
use Rattle.mo_syntax.specs.declared.meaning.Role.TheVariants.{Constant, Parameter, Given, Unknown}
use Rattle.mo_flat.specs.declared.expr.FlatExpr.{FlatExpr}
use Rattle.mo_scope.specs.Frames.{Indexed}
use Rattle.mo_scope.specs.Instances.{Instance, Leaf}
use Rattle.mo_scope.specs.Places.{Every}
use Rattle.mo_typing.specs.Outcome.{each}
use Rattle.mo_instance.proofs.Trees.{DistinctPaths}
use Rattle.mo_equations.specs.Leaves.{Tree, Variable, path_text, variables_from, variables_of, with_leaf}
use Rattle.mo_equations.specs.Variables.{Declared, all_declared, declared, declared_with, flat_attribute, flat_option}
use Rattle.mo_path_names.proofs.laws.Growing.{same_value, then_inverse}
use Rattle.mo_path_names.proofs.laws.Testing.{every_all}

-- ---- leaves

-- the paths of leaves
abbrev pub leaf_paths : List Variable → List Indexed
leaf_paths variables = map (λ variable. variable.instance.path) variables

-- what holds of the paths of all instances holds of those of leaves
pub leaves_have : (P : Indexed → Type 0) (n : ℕ) (instances : List Instance) → Every (λ instance. P instance.path) instances → Every P (leaf_paths (variables_from n instances))
leaves_have P n [] h = tt
leaves_have P n (instance ∷ others) h = by instance.leaf (λ m. leaves_have P m others h.1)
  where
    by : (leaf : Option Leaf) → ((m : ℕ) → Every P (leaf_paths (variables_from m others))) → Every P (leaf_paths (with_leaf n instance leaf (λ next. variables_from next others)))
    by None rest = rest n
    by (Some leaf) rest = (h.0, rest (n + 1))

-- each path differs from those behind it
abbrev pub PathsDiffer : List Indexed → Type 0
PathsDiffer [] = Unit {0}
PathsDiffer (path ∷ paths) = Every (λ other. other ≡ path → ⊥) paths × PathsDiffer paths

pub leaves_differ : (n : ℕ) (instances : List Instance) → DistinctPaths instances → PathsDiffer (leaf_paths (variables_from n instances))
leaves_differ n [] h = tt
leaves_differ n (instance ∷ others) h = by instance.leaf (λ m. leaves_differ m others h.1)
  where
    by : (leaf : Option Leaf) → ((m : ℕ) → PathsDiffer (leaf_paths (variables_from m others))) → PathsDiffer (leaf_paths (with_leaf n instance leaf (λ next. variables_from next others)))
    by None rest = rest n
    by (Some leaf) rest = (leaves_have (λ other. other ≡ instance.path → ⊥) (n + 1) others h.0, rest (n + 1))

-- ---- variables

-- the name of what is declared, whatever its role is
name_by : (tree : Tree) (variable : Variable) (attributes : List (ℕ × FlatExpr)) (binding : Option FlatExpr) → (declared_with tree variable attributes binding).variable.name ≡ path_text variable.instance.path
name_by tree variable attributes binding = by variable.leaf.role refl
  where
    by : (role : Role) → variable.leaf.role ≡ role → (declared_with tree variable attributes binding).variable.name ≡ path_text variable.instance.path
    by Unknown is = rw is refl
    by Constant is = rw is refl
    by Parameter is = rw is refl
    by Given is = rw is refl

name_of_declared : (tree : Tree) (variable : Variable) (one : Declared) → declared tree variable ≡ Ok one → one.variable.name ≡ path_text variable.instance.path
name_of_declared tree variable one made =
    let attributes = then_inverse (each (flat_attribute tree variable) variable.leaf.attributes) _ one made in
    let binding = then_inverse (flat_option tree variable variable.leaf.binding) _ one attributes.2 in
    ap (λ (d : Declared). d.variable.name) (sym (same_value (declared_with tree variable attributes.0 binding.0) one binding.2)) ∙ name_by tree variable attributes.0 binding.0

names_of_each : (tree : Tree) (variables : List Variable) (made : List Declared) → each (declared tree) variables ≡ Ok made → map (λ one. one.variable.name) made ≡ map path_text (leaf_paths variables)
names_of_each tree [] made is = ap (λ (xs : List Declared). map (λ one. one.variable.name) xs) (sym (same_value [] made is))
names_of_each tree (variable ∷ variables) made is =
    let first = then_inverse (declared tree variable) _ made is in
    let rest = then_inverse (each (declared tree) variables) _ made first.2 in
    ap (λ (xs : List Declared). map (λ one. one.variable.name) xs) (sym (same_value (first.0 ∷ rest.0) made rest.2))
    ∙ ap (λ (name : List ℕ). name ∷ map (λ one. one.variable.name) rest.0) (name_of_declared tree variable first.0 first.1)
    ∙ ap (λ (names : List (List ℕ)). path_text variable.instance.path ∷ names) (names_of_each tree variables rest.0 rest.1)

-- the names of the variables are the printed paths of the leaves
pub names_are : (tree : Tree) (made : List Declared) → all_declared tree ≡ Ok made → map (λ one. one.variable.name) made ≡ map path_text (leaf_paths (variables_of tree))
names_are tree made is = names_of_each tree (variables_of tree) made is

-- ---- what holds of names holds of what is named

pub named_all : {A : Type 0} (name : A → List ℕ) (P : List ℕ → Type 0) (xs : List A) → Every P (map name xs) → Every (λ x. P (name x)) xs
named_all name P [] h = tt
named_all name P (x ∷ xs) h = (h.0, named_all name P xs h.1)

abbrev pub TextsDiffer : List (List ℕ) → Type 0
TextsDiffer [] = Unit {0}
TextsDiffer (text ∷ texts) = Every (λ other. text ≢ other) texts × TextsDiffer texts

pub pairs_differ : {A : Type 0} (name : A → List ℕ) (xs : List A) → TextsDiffer (map name xs) → AllPairs (λ x y. name x ≢ name y) xs
pairs_differ name [] h = λ i j d less below. absurd (search arith)
pairs_differ name (x ∷ xs) h =
    AllPairs-cons (λ x y. name x ≢ name y) x xs (every_all (λ y. name x ≢ name y) xs (named_all name (λ other. name x ≢ other) xs h.0)) (pairs_differ name xs h.1)
