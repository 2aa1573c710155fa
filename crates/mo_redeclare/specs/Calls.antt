-- What the calls that compare classes and count dimensions answer, in a world.
use Rattle.std.specs.Prelude.{ℕ}
use Rattle.mo_syntax.specs.Outcome.{Outcome}
use Rattle.mo_syntax.specs.declared.place.Place.{Place}
use Rattle.mo_scope.specs.declared.row.Member.{Member as MemberAt}
use Rattle.mo_scope.specs.Compatible.{compatible, dimensions_of}
use Rattle.mo_scope.specs.Sights.{member_at}
use Rattle.mo_scope.specs.Worlds.{World, frame_at, table_in}
use Rattle.mo_names.specs.declared.found.Child.{Child as ChildAt}
use Rattle.mo_names.specs.Children.{child_at}

-- that the class of one frame is compatible with that of another
abbrev pub compatible_at : World → Place → (new wanted : ℕ) → Outcome (Unit {0})
compatible_at world place new wanted = compatible (table_in world) place (frame_at world new) (frame_at world wanted)

-- how many dimensions a component has, with its child
abbrev pub dimensions_at : World → MemberAt → ChildAt → ℕ
dimensions_at world member child = dimensions_of (table_in world) (member_at world member) (child_at world child)
