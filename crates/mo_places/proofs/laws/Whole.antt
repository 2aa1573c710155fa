-- What is told of the classes in files stands in the files.
use Rattle.std.proofs.Common.{ℕ, List, Option, Some, sym, subst}
use Rattle.mo_syntax.specs.Outcome.{Outcome, and_then}
use Rattle.mo_syntax.specs.declared.class.FileTree.{FileTree}
use Rattle.mo_flat.specs.declared.connect.Expanded.{Expanded}
use Rattle.mo_flat.specs.declared.model.FlatModel.{FlatModel}
use Rattle.mo_scope.specs.Rows.{Row, Table, table_of}
use Rattle.mo_values.specs.Asked.{for_flat}
use Rattle.mo_eval.specs.Values.{most_references}
use Rattle.mo_equations.specs.Expansion.{expansion_of}
use Rattle.mo_equations.specs.Leaves.{Tree, place_of_root}
use Rattle.mo_instance.specs.Instances.{instances_by, instances_in, instances_of}
use Rattle.mo_flatten.specs.Flat.{Flattens, expansion_in}
use Rattle.mo_flatten.specs.Told.{HasRow}
use Rattle.mo_places.specs.Written.{Written, At}
use Rattle.mo_places.specs.TreeWritten.{places_in_files}
use Rattle.mo_places.specs.Stands.{Every, IfAny, Answers, RowStands, TableStands}
use Rattle.mo_places.specs.InFiles.{Descends}
use Rattle.mo_places.specs.MadeStands.{ExpandedStands, InstanceStands, ToldStands}
use Rattle.mo_places.proofs.laws.Standing.{then_answers}
use Rattle.mo_places.proofs.laws.Sources.{row_stands}
use Rattle.mo_places.proofs.laws.Referring.{NamedStands}
use Rattle.mo_places.proofs.laws.Ends.{connect_answers}
use Rattle.mo_places.proofs.laws.Chosen.{Reads}
use Rattle.mo_places.proofs.laws.Answered.{expansion_answers}
use Rattle.mo_places.proofs.laws.Instancing.{AllStand, instances_in_stand, instances_stand}
use Rattle.mo_places.proofs.laws.Flattening.{told_stands}
use Rattle.mo_places.proofs.laws.values.Answered.{component_dims_stand, element_value_stands, known_stands, part_stands, resolved_for_value_stands, resolved_stands, there_stands}
use Rattle.mo_places.proofs.laws.values.Ended.{EndSelects, end_names, handed_answers, selected_answers}
use Rattle.mo_places.proofs.laws.values.Layered.{layers_stand}

module _ (P : Written → Type 0) (descends : Descends P) where
  module _ (table : Table) (stands : TableStands P table) where
    pub reads : Reads P table
    reads = record {
      there = there_stands P descends table stands;
      dims = component_dims_stand P descends table stands;
      value = element_value_stands P descends table stands;
      resolved = resolved_stands P descends table stands;
      for_value = resolved_for_value_stands P descends table stands;
      known = known_stands P descends table stands;
      made = λ scope e hf he. (part_stands P descends table stands most_references scope e hf he).1 for_flat;
    }

    pub instances_answer : (class : ℕ) → Answers P (Every (InstanceStands P)) (instances_of table class)
    instances_answer class = instances_stand P descends table stands (reads.there most_references) (reads.dims most_references) class

    rooted_answer : (row : Row) → RowStands P row → Answers P (AllStand P descends table stands (reads.there most_references) (reads.dims most_references)) (instances_in table row)
    rooted_answer row h = instances_in_stand P descends table stands (reads.there most_references) (reads.dims most_references) row h

  pub expansion_answer : (tree : Tree) (stands : TableStands P tree.classes) → P (At (place_of_root tree)) → Every (InstanceStands P) tree.instances → Answers P (ExpandedStands P) (expansion_of tree)
  expansion_answer tree stands asked instances =
      expansion_answers P descends (layers_stand P) tree stands (reads tree.classes stands)
      (connect_answers P tree instances (NamedStands P) (EndSelects P) (end_names P descends tree.classes stands) (selected_answers P descends tree.classes stands) (handed_answers P descends tree.classes stands))
      asked instances

  module _ (files : List FileTree) (all : Every P (places_in_files files)) (stands : TableStands P (table_of files)) where
    abbrev expanded : Option Row → Outcome Expanded
    expanded row = and_then (instances_by (table_of files) row) (λ instances. expansion_of (record { classes = table_of files; instances = instances }))

    row_expands : (row : Row) → RowStands P row → Answers P (ExpandedStands P) (expanded (Some row))
    row_expands row h =
        then_answers P (AllStand P descends (table_of files) stands ((reads (table_of files) stands).there most_references) ((reads (table_of files) stands).dims most_references)) (ExpandedStands P)
        (instances_in (table_of files) row) _ (rooted_answer (table_of files) stands row h)
        (λ instances hi. expansion_answer (record { classes = table_of files; instances = instances }) stands hi.root hi.each)

    expands : (class : ℕ) → HasRow (table_of files) class → Answers P (ExpandedStands P) (expansion_in files class)
    expands class has = subst (λ (row : Option Row). Answers P (ExpandedStands P) (expanded row)) (sym has.is) (row_expands has.row (subst (IfAny (RowStands P)) has.is (row_stands P (table_of files) stands class)))

    pub flattens_stand : (path : List (List ℕ)) (told : Outcome FlatModel) → Flattens files path told → ToldStands P told
    flattens_stand path told flattens = told_stands P files all expands path told flattens
