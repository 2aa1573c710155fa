-- The class that a part declares exists.
use Rattle.std.proofs.Common.{◌≡◌, ◌<◌, length, map, ap, sym, subst, ◌∙◌, arith, List}
use Rattle.std.specs.Prelude.{slice_get}
use Rattle.std.proofs.lemmas.List.{length-map}
use Rattle.mo_scope.specs.declared.row.Part.{Part}
use Rattle.mo_scope.specs.Sights.{part_seen}
use Rattle.mo_scope.specs.Rows.{number_of_classes}
use Rattle.mo_scope.specs.Worlds.{table_in}
use Rattle.mo_names.specs.steps.Parts.{parts_of}
use Rattle.mo_names.proofs.Ends.{part_exists}
use Rattle.mo_names.proofs.Reading.{read_element}
use Rattle.mo_names.proofs.parts.part_at.Goals as goal

pub returns-clause-exists : goal.returns-clause-exists
returns-clause-exists c =
    let held : c.args.at < length (map part_seen c.in-Some.row.now.parts) = subst (λ o. c.args.at < length (parts_of o)) (sym c.in-Some.ensures.is) c.requires in
    let same : length (map part_seen c.in-Some.row.now.parts) ≡ length c.in-Some.row.now.parts = length-map c.in-Some.row.now.parts part_seen in
    let slice : length c.as_slice.result.now ≡ length c.in-Some.row.now.parts = ap length c.as_slice.ensures in
    part_exists (number_of_classes (table_in c.args.s.now)) (map part_seen c.in-Some.row.now.parts) c.args.at (part_seen c.index-as_slice-at.result) c.in-Some.ensures.exist
    (ap (λ (xs : List Part). slice_get (map part_seen xs) c.args.at) (sym c.as_slice.ensures)
    ∙ read_element part_seen c.as_slice.result.now c.args.at c.index-as_slice-at.result (omega arith) c.index-as_slice-at.is)
