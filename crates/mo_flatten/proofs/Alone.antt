-- What is told of a class leaves no choice: what its connects are made of is sound.
use Rattle.std.proofs.Common.{◌≡◌, ℕ, List, [], ◌∷◌, Ok, Err, refl}
use Rattle.mo_syntax.specs.Outcome.{Outcome, and_then}
use Rattle.mo_syntax.specs.declared.class.FileTree.{FileTree}
use Rattle.mo_flat.specs.declared.connect.Expanded.{Expanded}
use Rattle.mo_flat.specs.SoundConnects.{IsSoundConnects}
use Rattle.mo_scope.specs.Instances.{Instance}
use Rattle.mo_scope.specs.Rows.{table_of}
use Rattle.mo_instance.specs.Instances.{instances_of}
use Rattle.mo_instance.proofs.Trees.{DistinctPaths, distinct_of}
use Rattle.mo_equations.specs.Expansion.{expansion_of}
use Rattle.mo_equations.specs.Leaves.{Tree}
use Rattle.mo_equations.proofs.Below.{Distinct_paths, differ_of}
use Rattle.mo_equations.proofs.SoundLemmas.{connects_sound_in}
use Rattle.mo_flatten.specs.Flat.{FlattensOnce, expansion_in}
use Rattle.mo_flatten.proofs.Once.{flattens_once}

goes : {A B : Type 0} (o : Outcome A) (f : A → Outcome B) (b : B) → and_then o f ≡ Ok b → (a : A) × (o ≡ Ok a) × (f a ≡ Ok b)
goes (Ok a) f b e = (a, refl, e)
goes (Err x) f b e = absurd cc

distinct : (instances : List Instance) → DistinctPaths instances → Distinct_paths instances
distinct [] h = tt
distinct (x ∷ xs) h = (h.0, distinct xs h.1)

abbrev tree_with : List FileTree → List Instance → Tree
tree_with files instances = record { classes = table_of files; instances = instances }

-- the connects of a class are sound
pub connects_are_sound : (files : List FileTree) (class : ℕ) (e : Expanded) → expansion_in files class ≡ Ok e → IsSoundConnects e.connects
connects_are_sound files class e is =
    let made = goes (instances_of (table_of files) class) (λ instances. expansion_of (tree_with files instances)) e is in
    connects_sound_in (tree_with files made.0) (differ_of made.0 (distinct made.0 (distinct_of (table_of files) class made.0 made.1))) e made.2

pub flattens_alone : FlattensOnce
flattens_alone files path told other p q = flattens_once files path told other (λ row e found is. connects_are_sound files row.number e is) p q
