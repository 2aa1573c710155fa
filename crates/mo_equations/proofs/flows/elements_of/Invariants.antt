-- The table, before what the parts that are left declare.
use Rattle.std.proofs.Common.{◌≡◌, List, map}
use Rattle.mo_scope.specs.Frames.{Frame}
use Rattle.mo_scope.specs.Lookup.{members_from}
use Rattle.mo_scope.specs.Places.{Every}
use Rattle.mo_scope.specs.Rows.{elements_in}
use Rattle.mo_scope.specs.Sights.{part_seen}
use Rattle.mo_scope.specs.Worlds.{MemberEntry, frame_in}
use Rattle.mo_equations.proofs.Owners.{with_left}
use Rattle.mo_equations.proofs.flows.elements_of.Given as goal

abbrev pub invariant-loop-part : goal.invariant-loop-part
invariant-loop-part l =
    ((frames : List Frame) → with_left frames l.parts l.frame l.part-index l.item l.made ≡ members_from (frame_in frames l.frame.0) 0 (elements_in (map part_seen l.parts)))
    × Every (λ (member : MemberEntry). member.home ≡ l.frame.0) l.made
