-- How many names are left, and what the arguments and items that are left say.
use Rattle.std.proofs.Common.{◌≡◌, ◌+◌, ◌-◌, ◌*◌, ◌++◌, List, drop, flat_map, length, take, []}
use Rattle.mo_scope.specs.Frames.{Frame, Source}
use Rattle.mo_scope.specs.Parts.{Saying, said_by_argument, said_by_elements}
use Rattle.mo_scope.specs.steps.Picks.{name_at, picked_said, view_in, view_of}
use Rattle.mo_scope.specs.Rows.{Table, replacing_in}
use Rattle.mo_scope.proofs.pick_path.+pick.Given as goal

abbrev pub decreases-pick_anew : goal.decreases-pick_anew
decreases-pick_anew l = 8 * (length l.names.now - l.at) + 1

abbrev pub decreases-pick_behind : goal.decreases-pick_behind
decreases-pick_behind l = 8 * (length l.names.now - l.at) + 2

abbrev pub decreases-pick_by_argument : goal.decreases-pick_by_argument
decreases-pick_by_argument l = 8 * (length l.names.now - l.at) + 3

abbrev pub decreases-pick_by_element : goal.decreases-pick_by_element
decreases-pick_by_element l = 8 * (length l.names.now - l.at) + 2

abbrev pub decreases-pick_by_item : goal.decreases-pick_by_item
decreases-pick_by_item l = 8 * (length l.names.now - l.at) + 3

abbrev pub decreases-pick_further : goal.decreases-pick_further
decreases-pick_further l = 8 * (length l.names.now - l.at) + 3

abbrev pub decreases-pick_in_given : goal.decreases-pick_in_given
decreases-pick_in_given l = 8 * (length l.names.now - l.at) + 5

abbrev pub decreases-pick_in_items : goal.decreases-pick_in_items
decreases-pick_in_items l = 8 * (length l.names.now - l.at) + 4

abbrev pub decreases-pick_in_list : goal.decreases-pick_in_list
decreases-pick_in_list l = 8 * (length l.names.now - l.at) + 4

abbrev pub decreases-pick_in_view : goal.decreases-pick_in_view
decreases-pick_in_view l = 8 * (length l.names.now - l.at) + 6

abbrev pub invariant-pick_in_items-loop-item : goal.invariant-pick_in_items-loop-item
invariant-pick_in_items-loop-item l = record {
  is : (frames : List Frame) → (table : Table) → (source : Source) → (more : List Saying) → view_of source ≡ view_in frames l.view →
      picked_said table (drop l.at l.wins) (flat_map (λ item. said_by_elements table source (name_at l.names l.at) [] (replacing_in item)) (drop l.item-index l.items) ++ more) (drop (l.at + 1) l.names)
      ≡ picked_said table (drop l.at l.initial.wins) (flat_map (λ item. said_by_elements table source (name_at l.names l.at) [] (replacing_in item)) l.items ++ more) (drop (l.at + 1) l.names);
  kept : take l.at l.wins ≡ take l.at l.initial.wins;
  size : length l.wins ≡ length l.initial.wins;
}

abbrev pub invariant-pick_in_list-loop-argument : goal.invariant-pick_in_list-loop-argument
invariant-pick_in_list-loop-argument l = record {
  is : (frames : List Frame) → (table : Table) → (source : Source) → (more : List Saying) → view_of source ≡ view_in frames l.view →
      picked_said table (drop l.at l.wins) (flat_map (said_by_argument table source (name_at l.names l.at) []) (drop l.argument-index l.list) ++ more) (drop (l.at + 1) l.names)
      ≡ picked_said table (drop l.at l.initial.wins) (flat_map (said_by_argument table source (name_at l.names l.at) []) l.list ++ more) (drop (l.at + 1) l.names);
  kept : take l.at l.wins ≡ take l.at l.initial.wins;
  size : length l.wins ≡ length l.initial.wins;
}
