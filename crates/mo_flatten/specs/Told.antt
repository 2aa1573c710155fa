-- What the calls that flatten a class answer.
use Rattle.std.specs.Prelude.{◌≡◌, ℕ, List, Some, Result, Ok, Err}
use Rattle.mo_syntax.specs.Outcome.{Outcome}
use Rattle.mo_syntax.specs.declared.class.FileTree.{FileTree}
use Rattle.mo_syntax.specs.declared.place.Broken.{Broken}
use Rattle.mo_syntax.specs.declared.place.Stop.{Stop}
use Rattle.mo_syntax.specs.declared.place.Stop.TheVariants.{Broken as broken_by, NoMemory as no_memory}
use Rattle.mo_flat.specs.declared.connect.Expanded.{Expanded}
use Rattle.mo_flat.specs.declared.model.FlatModel.{FlatModel}
use Rattle.mo_scope.specs.Rows.{Table, Row, row_at}
use Rattle.mo_connect.specs.Alike.{IsFirstBroken}
use Rattle.mo_equations.specs.Counted.{IsExpansion}
use Rattle.mo_equations.specs.declared.whole.Expansion.{Expansion}
use Rattle.mo_flatten.specs.Flat.{Flattens, Joins}

-- what is told of an answer; want of memory says nothing
abbrev pub IfTold : Result FlatModel Stop → (Outcome FlatModel → Type 0) → Type 0
IfTold (Ok m) P = P (Ok m)
IfTold (Err (broken_by broken)) P = P (Err broken)
IfTold (Err no_memory) P = Unit {0}

-- the flat model of a class, or the first broken rule
abbrev pub Tells : List FileTree → List (List ℕ) → Result FlatModel Stop → Type 0
Tells files path result = IfTold result (Flattens files path)

-- What connections make of variables and equations: one of them breaks a rule, or the flat model is of the right size, or too large.
pub data Connects (e : Expanded) (told : Outcome FlatModel) : Type 0 where
  refuses : (b : Broken) → IsFirstBroken e.connects.list b → told ≡ Err b → Connects e told
  joins : Joins e told → Connects e told

-- what is told of the class that gives these variables and equations, or breaks a rule
pub data TellsOf (expansion : Outcome Expanded) (told : Outcome FlatModel) : Type 0 where
  stops : (b : Broken) → expansion ≡ Err b → told ≡ Err b → TellsOf expansion told
  goes_on : (e : Expanded) → expansion ≡ Ok e → Connects e told → TellsOf expansion told

-- what a class gives before its connection sets are known
abbrev pub GivesExpanded : Result Expansion Stop → Outcome Expanded → Type 0
GivesExpanded (Ok made) told = (e : Expanded) × (told ≡ Ok e) × IsExpansion made e
GivesExpanded (Err (broken_by broken)) told = told ≡ Err broken
GivesExpanded (Err no_memory) told = Unit {0}

-- the class of that number stands in a file
pub record HasRow (table : Table) (class : ℕ) : Type 0 where
  pub row : Row
  pub is : row_at table class ≡ Some row
