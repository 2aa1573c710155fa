-- What is held while a tree of instances is expanded, and what stays.
use Rattle.std.specs.Prelude.{◌≡◌, ℕ, Some, Ok, IfSome, slice_get}
use Rattle.mo_flat.specs.declared.expr.FlatExpr.{FlatExpr}
use Rattle.mo_scope.specs.Places.{Every}
use Rattle.mo_scope.specs.Worlds.{World, Grows, frames_of, table_in}
use Rattle.mo_names.specs.Sights.{IsMember}
use Rattle.mo_eval.specs.Keeping.{IsKept}
use Rattle.mo_eval.specs.Seen.{element_seen}
use Rattle.mo_equations.specs.declared.desk.Desk.{Desk}
use Rattle.mo_equations.specs.declared.desk.KeptConstant.{KeptConstant}
use Rattle.mo_equations.specs.declared.leaves.Leaves.{Leaves}
use Rattle.mo_equations.specs.Leaves.{number_of, place_of_root}
use Rattle.mo_equations.specs.Replacing.{constant}
use Rattle.mo_equations.specs.steps.Arrays.{IsArrayBinding, IsValueBinding}
use Rattle.mo_equations.specs.steps.Flats.{IsFlat}
use Rattle.mo_equations.specs.steps.LeafTables.{AreLeaves}
use Rattle.mo_equations.specs.steps.Sharing.{IsShared}
use Rattle.mo_equations.specs.steps.Standing.{tree_in}

-- what a constant was replaced by
pub record IsConstantKept (world : World) (leaves : Leaves) (kept : KeptConstant) : Type 0 where
  pub member : IsMember world kept.element.member
  pub e : FlatExpr
  pub is : constant (table_in world) (number_of (tree_in world leaves)) kept.left (element_seen (frames_of world) kept.element) ≡ Ok e
  pub flat : IsFlat kept.flat e

pub record IsDesk (world : World) (desk : Desk) : Type 0 where
  pub reader : IsKept world desk.reader
  pub leaves : AreLeaves world desk.leaves
  pub constants : (k : ℕ) (kept : KeptConstant) → slice_get desk.constants k ≡ Some kept → IsConstantKept world desk.leaves kept
  pub binding : IfSome desk.binding (IsArrayBinding world desk.leaves)
  pub read : IfSome desk.read (IsValueBinding world)
  pub shared : Every (IsShared world desk.leaves) desk.shared.items
  pub asked : desk.asked ≡ place_of_root (tree_in world desk.leaves)

-- Frames are only added, the tables stay, and the desk is still one.
pub record Goes (old new : World) (before after : Desk) : Type 0 where
  pub grows : Grows old new
  pub leaves : after.leaves ≡ before.leaves
  pub asked : after.asked ≡ before.asked
  pub desk : IsDesk new after

-- besides, no turn is taken
pub record Stays (old new : World) (before after : Desk) : Type 0 where
  pub goes : Goes old new before after
  pub turns : after.turns ≡ before.turns
