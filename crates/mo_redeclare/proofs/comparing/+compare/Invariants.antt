-- How many pairs are left, and how deep each function goes.
use Rattle.mo_names.specs.Sights.{inherited_seen}
use Rattle.mo_scope.specs.Compatible.{are_matched, compatible_from}
use Rattle.mo_scope.specs.Worlds.{Grows, frames_of, member_in, table_in}
use Rattle.std.proofs.Common.{◌≡◌, drop, map, ◌+◌, ◌*◌}
use Rattle.mo_redeclare.proofs.comparing.+compare.Given as goal

abbrev pub invariant-are_matched-loop-inherited : goal.invariant-are_matched-loop-inherited
invariant-are_matched-loop-inherited l = record {
  grows : Grows l.initial.s l.s;
  left : are_matched (table_in l.initial.s) (compatible_from (table_in l.initial.s) l.at.left l.at.place l.at.pairs.now) l.at.place (map (member_in (frames_of l.initial.s)) l.members)
      (map (λ inherited. inherited.member) (map (inherited_seen (frames_of l.initial.s)) (drop l.inherited-index l.wanted)))
      ≡ are_matched (table_in l.initial.s) (compatible_from (table_in l.initial.s) l.at.left l.at.place l.at.pairs.now) l.at.place (map (member_in (frames_of l.initial.s)) l.members)
      (map (λ inherited. inherited.member) (map (inherited_seen (frames_of l.initial.s)) l.wanted));
}

abbrev pub decreases-frames_compared : goal.decreases-frames_compared
decreases-frames_compared l = 8 * l.at.now.left + 0

abbrev pub decreases-pair_compared : goal.decreases-pair_compared
decreases-pair_compared l = 8 * l.at.now.left + 1

abbrev pub decreases-is_matched : goal.decreases-is_matched
decreases-is_matched l = 8 * l.at.now.left + 2

abbrev pub decreases-element_matched : goal.decreases-element_matched
decreases-element_matched l = 8 * l.at.now.left + 3

abbrev pub decreases-are_matched : goal.decreases-are_matched
decreases-are_matched l = 8 * l.at.now.left + 4

abbrev pub decreases-members_compared : goal.decreases-members_compared
decreases-members_compared l = 8 * l.at.now.left + 5

abbrev pub decreases-walks_compared : goal.decreases-walks_compared
decreases-walks_compared l = 8 * l.at.now.left + 6

abbrev pub decreases-components_compared : goal.decreases-components_compared
decreases-components_compared l = 8 * l.at.now.left + 7
