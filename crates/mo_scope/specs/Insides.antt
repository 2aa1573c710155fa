-- What `Scopes` holds inside, as data.
use Rattle.std.specs.Prelude.{map}
use Rattle.mo_scope.specs.declared.scopes.Scopes.TheInside.{Inside}
use Rattle.mo_scope.specs.Bare.{AreEntered, entered_held}
use Rattle.mo_scope.specs.Classes.{AreClasses}
use Rattle.mo_scope.specs.KeptBases.{AreEnteredBases, base_held}
use Rattle.mo_scope.specs.KeptClasses.{AreFound}
use Rattle.mo_scope.specs.KeptComponents.{AreEnteredComponents}
use Rattle.mo_scope.specs.Worlds.{World, IsSound}
use Rattle.mo_scope.specs.Entries.{entry_seen, table_seen}

abbrev pub world_of : Inside → World
world_of scopes = record {
  files = scopes.tree.now.files;
  entries = map entry_seen scopes.frames.items;
  tables = map table_seen scopes.frames.items;
}

pub record IsSoundInside (scopes : Inside) : Type 0 where
  pub world : IsSound (world_of scopes)
  pub classes : AreClasses scopes.tree.now.files scopes.classes
  -- frames with no sources, no path and no owner are found by their class and the frame around it
  pub entered : AreEntered (map entry_seen scopes.frames.items) (entered_held scopes.entered)
  -- the classes that names found are those that they find
  pub found : AreFound (world_of scopes) scopes.found.classes.items
  -- the frames that components were entered as are those that they are entered as
  pub components : AreEnteredComponents (world_of scopes) scopes.components.components.items
  -- the frames that bases were entered as are those that they are entered as
  pub bases : AreEnteredBases (world_of scopes) (base_held scopes.bases)
