-- Dimensions as they are written, as the code holds them.
use Rattle.std.specs.Prelude.{List, [], ◌++◌, map, Ok}
use Rattle.mo_scope.specs.Rows.{Table}
use Rattle.mo_scope.specs.Frames.{Frame, Member}
use Rattle.mo_scope.specs.Names.{Child, child_of_member}
use Rattle.mo_scope.specs.Places.{Every}
use Rattle.mo_scope.specs.Sizes.{Sizes, declared_sizes, type_sizes}
use Rattle.mo_scope.specs.Worlds.{World, IsFrame, scope_in}
use Rattle.mo_lookup.specs.declared.sizes.Sizes.{Sizes as SizesAt}
use Rattle.mo_syntax.specs.Outcome.{Outcome, and_then}

abbrev pub size_seen : List Frame → SizesAt → Sizes
size_seen frames sizes = record { subscripts = sizes.subscripts.now; scope = scope_in frames sizes.scope.frame.0 sizes.scope.iters }

abbrev pub sizes_seen : List Frame → List SizesAt → List Sizes
sizes_seen frames all = map (size_seen frames) all

-- the frames of their scopes exist
abbrev pub AreSized : World → List SizesAt → Type 0
AreSized world all = Every (λ sizes. IsFrame world sizes.scope.frame.0) all

-- the dimensions that a component with this child declares, then those of the child's class
abbrev pub sizes_of_child : Table → Member → Child → List Sizes
sizes_of_child table member child = declared_sizes member child.redeclared ++ type_sizes table child.class

-- the dimensions that a component declares, then those of its type
abbrev pub all_sizes : Table → Member → Outcome (List Sizes)
all_sizes table member = and_then (child_of_member table member []) (λ child. Ok (sizes_of_child table member child))
