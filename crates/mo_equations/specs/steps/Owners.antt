-- The elements that a class declares itself, as a table by name.
use Rattle.std.specs.Prelude.{◌≡◌, map}
use Rattle.mo_scope.specs.Lookup.{own_members}
use Rattle.mo_scope.specs.Places.{Every}
use Rattle.mo_scope.specs.Worlds.{World, IsFrame, MemberEntry, frame_at, frames_of, member_in, table_in}
use Rattle.mo_equations.specs.declared.flows.OwnElements.{OwnElements}

pub record IsOwnElements (world : World) (own : OwnElements) : Type 0 where
  pub owner : IsFrame world own.owner.0
  pub members : map (member_in (frames_of world)) own.members ≡ own_members (table_in world) (frame_at world own.owner.0)
  pub homes : Every (λ (member : MemberEntry). member.home ≡ own.owner.0) own.members
