-- What is left to be looked up, and how deep each function goes.
use Rattle.mo_names.proofs.Circling.{depth}
use Rattle.mo_names.proofs.OwnElements.{elements_before}
use Rattle.mo_names.specs.steps.Bases.{parts_walked}
use Rattle.mo_names.specs.steps.Parts.{imports_of, parts_of}
use Rattle.mo_names.specs.Sights.{IsFound, asks, found_in, classed_seen, IsWalk, found_at, walk_at}
use Rattle.mo_names.specs.steps.Lookup.{package_behind, found_by_all}
use Rattle.mo_scope.specs.Lookup.{import_behind, found_from, class_behind}
use Rattle.mo_scope.specs.Rows.{row_at}
use Rattle.mo_scope.specs.Worlds.{Grows, frames_of, table_in, IsFrame, frame_at, row_of_frame}
use Rattle.std.proofs.Common.{◌≡◌, false, drop, map, None, ◌+◌, ◌*◌}
use Rattle.std.specs.Prelude.{option_map, IfSome}
use Rattle.mo_names.proofs.+names.Given as goal

abbrev pub invariant-circle::import_behind-loop-at : goal.invariant-circle::import_behind-loop-at
invariant-circle::import_behind-loop-at l = record {
  grows : Grows l.initial.s l.s;
  stand : IsFound l.s l.found;
  left : import_behind (table_in l.initial.s) (asks (table_in l.initial.s) l.ask) l.ask.place l.place (found_at l.s l.found) (map (λ name. name.now) (drop l.at l.names))
      ≡ import_behind (table_in l.initial.s) (asks (table_in l.initial.s) l.ask) l.ask.place l.place (found_at l.initial.s l.initial.found) (map (λ name. name.now) l.names);
}

abbrev pub invariant-circle::package_behind-loop-name : goal.invariant-circle::package_behind-loop-name
invariant-circle::package_behind-loop-name l = record {
  grows : Grows l.initial.s l.s;
  stand : IsFrame l.s l.frame.0;
  left : package_behind (table_in l.initial.s) (asks (table_in l.initial.s) l.ask) l.ask.place l.place (frame_at l.s l.frame.0) (drop l.name-index l.names)
      ≡ package_behind (table_in l.initial.s) (asks (table_in l.initial.s) l.ask) l.ask.place l.place (frame_at l.initial.s l.initial.frame.0) l.names;
}

abbrev pub invariant-circle::found_by_each-loop-at : goal.invariant-circle::found_by_each-loop-at
invariant-circle::found_by_each-loop-at l = record {
  grows : Grows l.initial.s l.s;
  stand : IfSome l.found (IsFound l.s);
  left : found_by_all (table_in l.initial.s) (asks (table_in l.initial.s) l.ask) l.ask.place l.star l.name (option_map (found_at l.s) l.found) (drop l.at (imports_of (row_at (table_in l.initial.s) l.class.0)))
      ≡ found_by_all (table_in l.initial.s) (asks (table_in l.initial.s) l.ask) l.ask.place l.star l.name None (imports_of (row_at (table_in l.initial.s) l.class.0));
}

abbrev pub invariant-bases::found_from-loop-met : goal.invariant-bases::found_from-loop-met
invariant-bases::found_from-loop-met l = record {
  grows : Grows l.initial.s l.s;
  stand : IsFrame l.s l.frame.0;
  left : found_from (table_in l.initial.s) (asks (table_in l.initial.s) l.ask) false false (frame_at l.s l.frame.0) l.ask.place l.name
      ≡ found_from (table_in l.initial.s) (asks (table_in l.initial.s) l.ask) false false (frame_at l.initial.s l.initial.frame.0) l.ask.place l.name;
}

abbrev pub decreases-bases::found_from-loop-met : goal.decreases-bases::found_from-loop-met
decreases-bases::found_from-loop-met l = depth (frame_at l.s l.frame.0)

abbrev pub invariant-bases::class_behind-loop-part : goal.invariant-bases::class_behind-loop-part
invariant-bases::class_behind-loop-part l = record {
  grows : Grows l.initial.s l.s;
  stand : IsFrame l.s l.class.frame.0;
  left : class_behind (table_in l.initial.s) (asks (table_in l.initial.s) l.ask) (classed_seen (frames_of l.s) l.class) (drop l.part-index l.parts)
      ≡ class_behind (table_in l.initial.s) (asks (table_in l.initial.s) l.ask) (classed_seen (frames_of l.initial.s) l.initial.class) l.parts;
}

abbrev pub invariant-bases::walked_parts-loop-at : goal.invariant-bases::walked_parts-loop-at
invariant-bases::walked_parts-loop-at l = record {
  grows : Grows l.initial.s l.s;
  stand : IsWalk l.s l.so_far;
  left : parts_walked (table_in l.initial.s) (asks (table_in l.initial.s) l.ask) (frame_at l.initial.s l.frame.0) (row_of_frame l.initial.s l.frame.0) l.item (drop l.at (parts_of (row_of_frame l.initial.s l.frame.0))) (walk_at l.s l.so_far)
      ≡ parts_walked (table_in l.initial.s) (asks (table_in l.initial.s) l.ask) (frame_at l.initial.s l.frame.0) (row_of_frame l.initial.s l.frame.0) 0 (parts_of (row_of_frame l.initial.s l.frame.0)) (walk_at l.initial.s l.initial.so_far);
  counted : l.item ≡ elements_before l.at (parts_of (row_of_frame l.initial.s l.frame.0));
}

abbrev pub decreases-circle::walked : goal.decreases-circle::walked
decreases-circle::walked l = 40 * l.ask.now.left + 0

abbrev pub decreases-circle::walked_and_kept : goal.decreases-circle::walked_and_kept
decreases-circle::walked_and_kept l = 40 * l.ask.now.left + 1

abbrev pub decreases-circle::reached : goal.decreases-circle::reached
decreases-circle::reached l = 40 * l.ask.now.left + 2

abbrev pub decreases-circle::is_package : goal.decreases-circle::is_package
decreases-circle::is_package l = 40 * l.ask.now.left + 2

abbrev pub decreases-circle::counted : goal.decreases-circle::counted
decreases-circle::counted l = 40 * l.ask.now.left + 3

abbrev pub decreases-circle::counted_given : goal.decreases-circle::counted_given
decreases-circle::counted_given l = 40 * l.ask.now.left + 4

abbrev pub decreases-circle::behind_class : goal.decreases-circle::behind_class
decreases-circle::behind_class l = 40 * l.ask.now.left + 5

abbrev pub decreases-circle::import_step : goal.decreases-circle::import_step
decreases-circle::import_step l = 40 * l.ask.now.left + 6

abbrev pub decreases-circle::import_behind : goal.decreases-circle::import_behind
decreases-circle::import_behind l = 40 * l.ask.now.left + 7

abbrev pub decreases-circle::imported : goal.decreases-circle::imported
decreases-circle::imported l = 40 * l.ask.now.left + 8

abbrev pub decreases-circle::package_step : goal.decreases-circle::package_step
decreases-circle::package_step l = 40 * l.ask.now.left + 9

abbrev pub decreases-circle::package_behind : goal.decreases-circle::package_behind
decreases-circle::package_behind l = 40 * l.ask.now.left + 10

abbrev pub decreases-circle::package_named : goal.decreases-circle::package_named
decreases-circle::package_named l = 40 * l.ask.now.left + 11

abbrev pub decreases-circle::imported_package : goal.decreases-circle::imported_package
decreases-circle::imported_package l = 40 * l.ask.now.left + 12

abbrev pub decreases-circle::through_star : goal.decreases-circle::through_star
decreases-circle::through_star l = 40 * l.ask.now.left + 13

abbrev pub decreases-circle::found_by_import : goal.decreases-circle::found_by_import
decreases-circle::found_by_import l = 40 * l.ask.now.left + 14

abbrev pub decreases-circle::found_by_star : goal.decreases-circle::found_by_star
decreases-circle::found_by_star l = 40 * l.ask.now.left + 15

abbrev pub decreases-circle::found_by : goal.decreases-circle::found_by
decreases-circle::found_by l = 40 * l.ask.now.left + 16

abbrev pub decreases-circle::also_by : goal.decreases-circle::also_by
decreases-circle::also_by l = 40 * l.ask.now.left + 17

abbrev pub decreases-circle::found_by_each : goal.decreases-circle::found_by_each
decreases-circle::found_by_each l = 40 * l.ask.now.left + 18

abbrev pub decreases-circle::found_by_imports : goal.decreases-circle::found_by_imports
decreases-circle::found_by_imports l = 40 * l.ask.now.left + 19

abbrev pub decreases-circle::met_by_imports : goal.decreases-circle::met_by_imports
decreases-circle::met_by_imports l = 40 * l.ask.now.left + 20

abbrev pub decreases-circle::found_element : goal.decreases-circle::found_element
decreases-circle::found_element l = 40 * l.ask.now.left + 21

abbrev pub decreases-circle::found_in : goal.decreases-circle::found_in
decreases-circle::found_in l = 40 * l.ask.now.left + 22

abbrev pub decreases-bases::found_from : goal.decreases-bases::found_from
decreases-bases::found_from l = 40 * l.ask.now.left + 23

abbrev pub decreases-bases::found_around : goal.decreases-bases::found_around
decreases-bases::found_around l = 40 * l.ask.now.left + 24

abbrev pub decreases-bases::found_near : goal.decreases-bases::found_near
decreases-bases::found_near l = 40 * l.ask.now.left + 25

abbrev pub decreases-bases::found_first : goal.decreases-bases::found_first
decreases-bases::found_first l = 40 * l.ask.now.left + 26

abbrev pub decreases-bases::first_class : goal.decreases-bases::first_class
decreases-bases::first_class l = 40 * l.ask.now.left + 27

abbrev pub decreases-bases::class_first : goal.decreases-bases::class_first
decreases-bases::class_first l = 40 * l.ask.now.left + 28

abbrev pub decreases-bases::found_behind : goal.decreases-bases::found_behind
decreases-bases::found_behind l = 40 * l.ask.now.left + 29

abbrev pub decreases-bases::class_step : goal.decreases-bases::class_step
decreases-bases::class_step l = 40 * l.ask.now.left + 30

abbrev pub decreases-bases::class_behind : goal.decreases-bases::class_behind
decreases-bases::class_behind l = 40 * l.ask.now.left + 31

abbrev pub decreases-bases::class_named : goal.decreases-bases::class_named
decreases-bases::class_named l = 40 * l.ask.now.left + 32

abbrev pub decreases-bases::base_class : goal.decreases-bases::base_class
decreases-bases::base_class l = 40 * l.ask.now.left + 33

abbrev pub decreases-bases::base_found : goal.decreases-bases::base_found
decreases-bases::base_found l = 40 * l.ask.now.left + 34

abbrev pub decreases-bases::base_elements : goal.decreases-bases::base_elements
decreases-bases::base_elements l = 40 * l.ask.now.left + 35

abbrev pub decreases-bases::base_walked : goal.decreases-bases::base_walked
decreases-bases::base_walked l = 40 * l.ask.now.left + 36

abbrev pub decreases-bases::part_walked : goal.decreases-bases::part_walked
decreases-bases::part_walked l = 40 * l.ask.now.left + 37

abbrev pub decreases-bases::walked_parts : goal.decreases-bases::walked_parts
decreases-bases::walked_parts l = 40 * l.ask.now.left + 38

abbrev pub decreases-bases::walked_class : goal.decreases-bases::walked_class
decreases-bases::walked_class l = 40 * l.ask.now.left + 39
