-- The laws, for each call.
use Rattle.std.proofs.Common.{inl, inr, List, refl}
use Rattle.mo_syntax.specs.declared.class.FileTree.{FileTree}
use Rattle.mo_syntax.specs.declared.place.Place.{Place}
use Rattle.mo_scope.specs.Rows.{table_of}
use Rattle.mo_scope.specs.Frames.{Frame, Member}
use Rattle.mo_scope.specs.Lookup.{Found}
use Rattle.mo_places.specs.Written.{Written, At}
use Rattle.mo_places.specs.TreeWritten.{nowhere, places_in_files}
use Rattle.mo_places.specs.Stands.{FoundStands, FrameStands, MemberStands, TableStands}
use Rattle.mo_places.specs.InFiles.{IsWritten, WrittenOrAsked}
use Rattle.mo_places.specs.Laws.{EquationsStand, FlatModelsStand, InstancesStand, NamesStand, RedeclarationsStand, ValuesStand}
use Rattle.mo_places.proofs.laws.Standing.{every_weaker}
use Rattle.mo_places.proofs.laws.Comparing.{compatible_answers}
use Rattle.mo_places.proofs.laws.Files.{files_descend, files_stand, files_written}
use Rattle.mo_places.proofs.laws.Naming.{base_frame_of_stands, child_of_member_stands, child_of_stands, elements_of_stand, found_path_stands, found_stands, inner_of_stands, stands_for_stands, walk_of_stands}
use Rattle.mo_places.proofs.laws.Redeclaring.{redeclarations_answer}
use Rattle.mo_places.proofs.laws.Tables.{table_stands}
use Rattle.mo_places.proofs.laws.Weaker.{found_weaker, frame_weaker, member_weaker}
use Rattle.mo_places.proofs.laws.Whole.{expansion_answer, flattens_stand, instances_answer}
use Rattle.mo_places.proofs.laws.values.Answered.{component_dims_stand, element_value_stands, known_stands, resolved_for_value_stands, resolved_stands, sides_stand, sizes_stand, there_stands, value_stands}
use Rattle.mo_places.proofs.laws.values.Ended.{ended_stands}

module _ (files : List FileTree) where
  abbrev In : Written → Type 0
  In = IsWritten files

  abbrev Or : Place → Written → Type 0
  Or asked = WrittenOrAsked files asked

  in_or : (asked : Place) (w : Written) → In w → Or asked w
  in_or asked w h = inl h

  asked_stands : (asked : Place) → Or asked (At asked)
  asked_stands asked = inr refl

  table_or : (asked : Place) → TableStands (Or asked) (table_of files)
  table_or asked = table_stands (Or asked) files (every_weaker In (Or asked) (in_or asked) (places_in_files files) (files_written files))

  frame_or : (asked : Place) (frame : Frame) → FrameStands In frame → FrameStands (Or asked) frame
  frame_or asked frame h = frame_weaker In (Or asked) (in_or asked) frame h

  member_or : (asked : Place) (member : Member) → MemberStands In member → MemberStands (Or asked) member
  member_or asked member h = member_weaker In (Or asked) (in_or asked) member h

  found_or : (asked : Place) (it : Found) → FoundStands In it → FoundStands (Or asked) it
  found_or asked it h = found_weaker In (Or asked) (in_or asked) it h

  pub names_law : NamesStand files
  names_law = record {
    walk = λ frame hf. walk_of_stands In (table_of files) (files_stand files) frame hf;
    elements = λ frame hf. elements_of_stand In (table_of files) (files_stand files) frame hf;
    base = λ frame clause hf hc. base_frame_of_stands In (table_of files) (files_stand files) frame clause hf hc;
    find = λ scope name place hf. found_stands (Or place) (table_of files) (table_or place) scope name place (asked_stands place) (frame_or place scope.frame hf);
    path = λ scope reference class_wanted hf h. found_path_stands In (table_of files) (files_stand files) scope reference class_wanted h hf;
    child = λ frame name index hf. child_of_stands (Or nowhere) (table_of files) (table_or nowhere) frame name index (asked_stands nowhere) (frame_or nowhere frame hf);
    child_of_member = λ member index hm. child_of_member_stands In (table_of files) (files_stand files) member index hm;
    inner = λ place outer hm. inner_of_stands (Or place) (table_of files) (table_or place) place outer (asked_stands place) (member_or place outer hm);
    standing = λ place it h. stands_for_stands (Or place) (table_of files) (table_or place) place it (asked_stands place) (found_or place it h);
  }

  pub redeclarations_law : RedeclarationsStand files
  redeclarations_law = record {
    checked = λ walked frame hw hf. redeclarations_answer In (table_of files) (files_stand files) walked frame hw hf;
    compared = λ place new wanted hp hn hw. compatible_answers In (table_of files) (files_stand files) place new wanted hp hn hw;
  }

  pub values_law : ValuesStand files
  values_law = record {
    resolved = resolved_stands In (files_descend files) (table_of files) (files_stand files);
    for_value = resolved_for_value_stands In (files_descend files) (table_of files) (files_stand files);
    sides = sides_stand In (files_descend files) (table_of files) (files_stand files);
    sizes = sizes_stand In (files_descend files) (table_of files) (files_stand files);
    value = value_stands In (files_descend files) (table_of files) (files_stand files);
    known = known_stands In (files_descend files) (table_of files) (files_stand files);
    element = element_value_stands In (files_descend files) (table_of files) (files_stand files);
    there = there_stands In (files_descend files) (table_of files) (files_stand files);
    dims = component_dims_stand In (files_descend files) (table_of files) (files_stand files);
    ends = ended_stands In (files_descend files) (table_of files) (files_stand files);
  }

  pub instances_law : InstancesStand files
  instances_law = instances_answer In (files_descend files) (table_of files) (files_stand files)

  pub equations_law : EquationsStand files
  equations_law = λ instances h asked. expansion_answer In (files_descend files) (record { classes = table_of files; instances = instances }) (files_stand files) asked h

  pub flat_models_law : FlatModelsStand files
  flat_models_law = flattens_stand In (files_descend files) files (files_written files) (files_stand files)
