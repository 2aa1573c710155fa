-- The expressions that elements of arrays share, each resolved once.
use Rattle.std.specs.Prelude.{◌≡◌, ◌<◌, ℕ, List, [], Ok, length, slice_index_or}
use Rattle.mo_scope.specs.Worlds.{World, IsFrame, frames_of, scope_in, table_in}
use Rattle.mo_eval.specs.Seen.{resolved_seen}
use Rattle.mo_eval.specs.Values.{most_references, resolved}
use Rattle.mo_equations.specs.declared.desk.SharedExpression.{SharedExpression}
use Rattle.mo_equations.specs.declared.leaves.Leaves.{Leaves}
use Rattle.mo_equations.specs.declared.standing.Asked.{Asked}
use Rattle.mo_equations.specs.steps.Resolutions.{IsResolution}

-- It is what is resolved of that expression in that frame.
pub record IsShared (world : World) (leaves : Leaves) (shared : SharedExpression) : Type 0 where
  pub frame : IsFrame world shared.frame.0
  pub resolution : IsResolution world leaves shared.resolution
  pub is : resolved (table_in world) most_references (scope_in (frames_of world) shared.frame.0 []) shared.value.now ≡ Ok (resolved_seen (frames_of world) shared.resolution.resolved)

-- It is the expression that is asked of, in the same frame.
pub record IsSharedBy (shared : SharedExpression) (asked : Asked) : Type 0 where
  pub frame : shared.frame.0 ≡ asked.at.now.frame.0
  pub outside : asked.at.now.iters ≡ []
  pub value : shared.value.now ≡ asked.value.now

-- the one at that place
pub record IsSharedAt (all : List SharedExpression) (asked : Asked) (place : ℕ) : Type 0 where
  pub inside : place < length all
  pub is : (shared : SharedExpression) → shared ≡ slice_index_or all place shared → IsSharedBy shared asked
