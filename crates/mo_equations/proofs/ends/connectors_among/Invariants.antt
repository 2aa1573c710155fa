-- Those so far.
use Rattle.std.proofs.Common.{◌≡◌, Ok, map, take}
use Rattle.mo_typing.specs.Outcome.{each}
use Rattle.mo_scope.specs.Worlds.{Grows, frames_of, table_in}
use Rattle.mo_names.specs.Sights.{member_of}
use Rattle.mo_equations.specs.Ends.{is_connector_member}
use Rattle.mo_equations.proofs.ends.connectors_among.Given as goal

abbrev pub invariant-loop-member : goal.invariant-loop-member
invariant-loop-member l = record {
  grows : Grows l.initial.s l.s;
  told : each (is_connector_member (table_in l.initial.s)) (map (member_of (frames_of l.initial.s)) (take l.member-index l.members)) ≡ Ok l.made;
}
