-- What the call that expands a tree of instances answers.
--
-- Where the flat model will be too large, its variables, equations and asserts are counted and not kept.
use Rattle.std.specs.Prelude.{◌≡◌, true, false, List, Result, Ok, Err}
use Rattle.mo_syntax.specs.declared.place.Stop.{Stop}
use Rattle.mo_syntax.specs.declared.place.Stop.TheVariants.{Broken as broken_by, NoMemory as no_memory}
use Rattle.mo_syntax.specs.SoundTree.{Naming}
use Rattle.mo_flat.specs.declared.connect.Expanded.{Expanded}
use Rattle.mo_scope.specs.declared.instance.InstanceTree.{InstanceTree}
use Rattle.mo_scope.specs.Rows.{Table}
use Rattle.mo_scope.specs.Instances.{Instance, IsInstanceTree}
use Rattle.mo_scope.specs.Trees.{tree_seen}
use Rattle.mo_scope.specs.Worlds.{table_in}
use Rattle.mo_equations.specs.declared.whole.Expansion.{Expansion}
use Rattle.mo_equations.specs.Leaves.{Tree}
use Rattle.mo_equations.specs.Expansion.{expansion_of}
use Rattle.mo_equations.specs.Size.{is_past}

-- the instances that are handed in
abbrev pub tree_of : InstanceTree → Tree
tree_of tree = record { classes = table_in tree.scopes; instances = tree_seen tree }

-- Instances of a class of this table, whose names pass some test.
pub record IsTreeOf (table : Table) (instances : List Instance) : Type 0 where
  pub naming : Naming
  pub are : IsInstanceTree naming table instances

abbrev pub HasInstances : InstanceTree → Type 0
HasInstances tree = IsTreeOf (table_in tree.scopes) (tree_seen tree)

-- All parts where the flat model may be of the right size; the name, the place and the connects in any case.
pub record IsExpansion (made : Expansion) (e : Expanded) : Type 0 where
  pub whole : made.past ≡ false → made.parts ≡ e
  pub past : made.past ≡ true → is_past e ≡ true
  pub name : made.parts.name ≡ e.name
  pub place : made.parts.place ≡ e.place
  pub connects : made.parts.connects ≡ e.connects

-- what the answer says; want of memory says nothing
abbrev pub GivesExpansion : Result Expansion Stop → Tree → Type 0
GivesExpansion (Ok made) tree = (e : Expanded) × (expansion_of tree ≡ Ok e) × IsExpansion made e
GivesExpansion (Err (broken_by broken)) tree = expansion_of tree ≡ Err broken
GivesExpansion (Err no_memory) tree = Unit {0}
