-- What is held of the classes of the files.
use Rattle.std.specs.Prelude.{◌≡◌, ℕ, List, map}
use Rattle.mo_syntax.specs.declared.class.FileTree.{FileTree}
use Rattle.mo_syntax.specs.declared.place.Place.{Place}
use Rattle.mo_scope.specs.declared.classes.Classes.{Classes}
use Rattle.mo_scope.specs.Extending.{is_extending_row}
use Rattle.mo_scope.specs.Held.{number_held, top_held}
use Rattle.mo_scope.specs.OwnNames.{AreOwnNames}
use Rattle.mo_scope.specs.Rows.{table_of, number_at, top_number}
use Rattle.mo_scope.specs.Sights.{row_seen}

pub record AreClasses (files : List FileTree) (classes : Classes) : Type 0 where
  -- the rows are those of the files
  pub rows : map row_seen classes.rows ≡ table_of files
  -- what each class declares itself is found by name
  pub owns : AreOwnNames classes.owns classes.rows
  -- which of them have extends clauses
  pub extending : classes.extending ≡ map (λ row. is_extending_row (row_seen row)) classes.rows
  -- a class is found where its name stands
  pub places : (place : Place) → number_held classes.places place ≡ number_at (table_of files) place
  -- a class at the top is found by its name
  pub tops : (name : List ℕ) → top_held classes.tops name ≡ top_number (table_of files) name
