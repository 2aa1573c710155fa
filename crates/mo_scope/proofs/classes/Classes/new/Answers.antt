-- The classes are those of the files.
use Rattle.std.proofs.Common.{◌≡◌, find, map, ap, ◌∙◌, subst}
use Rattle.std.specs.Prelude.{option_map}
use Rattle.std.specs.Str.{bytes_eq}
use Rattle.mo_scope.specs.Extending.{is_extending_row}
use Rattle.mo_scope.specs.Held.{number_held, group_held, placed_among, row_with}
use Rattle.mo_scope.specs.OwnNames.{AreOwnNames}
use Rattle.mo_scope.specs.steps.Listed.{class_seen}
use Rattle.mo_scope.specs.Rows.{number_among, placed_part, table_of, top_classes, entries_of}
use Rattle.mo_scope.specs.Sights.{row_seen}
use Rattle.mo_scope.proofs.RowsMade.{number_at_table, rows_made}
use Rattle.mo_scope.proofs.classes.Classes.new.Goals as goal

pub returns : goal.returns
returns c =
    let listed : map class_seen c.in_ok-classes.classes ≡ entries_of c.args.files.now = c.in_ok-classes.ensures in
    let rows : map row_seen c.in_ok-rows.rows ≡ table_of c.args.files.now =
    rows_made c.args.files.now (number_held c.in_ok-places.places) (group_held c.in_ok-groups.groups) (map class_seen c.in_ok-classes.classes) (map row_seen c.in_ok-rows.rows)
    (c.in_ok-rows.ensures ∙ ap (λ classes. map (row_with (number_held c.in_ok-places.places) (group_held c.in_ok-groups.groups)) (map class_seen classes)) c.as_slice-3.ensures) listed
    (λ place. c.in_ok-places.ensures place ∙ ap (λ classes. number_among (map class_seen classes) place) c.as_slice.ensures)
    (λ path. c.in_ok-groups.ensures path ∙ ap (λ classes. map placed_part (placed_among path (map class_seen classes))) c.as_slice-2.ensures) in
    record {
      rows = rows;
      owns = subst (AreOwnNames c.in_ok-owns.owns) c.as_slice-4.ensures c.in_ok-owns.ensures;
      extending = c.in_ok-extending.ensures ∙ ap (map (λ row. is_extending_row (row_seen row))) c.as_slice-5.ensures;
      places = λ place. c.in_ok-places.ensures place ∙ ap (λ classes. number_among (map class_seen classes) place) c.as_slice.ensures
          ∙ number_at_table c.args.files.now (map class_seen c.in_ok-classes.classes) place listed;
      tops = λ name. c.in_ok-tops.ensures name
          ∙ ap (λ table. option_map (λ row. row.number) (find (λ row. bytes_eq row.class.name name) (top_classes table))) (ap (map row_seen) c.as_slice-6.ensures ∙ rows);
    }
