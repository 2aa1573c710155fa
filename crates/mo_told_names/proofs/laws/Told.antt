-- The flat models that texts and named files give have identifiers as their names.
use Rattle.std.proofs.Common.{◌≡◌, ℕ, List, Ok, ap, sym, subst}
use Rattle.mo_syntax.specs.declared.class.FileTree.{FileTree}
use Rattle.mo_syntax.specs.declared.place.Broken.{Broken}
use Rattle.mo_syntax.specs.SoundTree.{IsSoundNamedTree, Naming}
use Rattle.mo_flat.specs.declared.model.FlatModel.{FlatModel}
use Rattle.mo_flatten.specs.Flat.{Flattens}
use Rattle.mo_front.specs.Told.{Outcome, TextsGive, TreesGive, broken, flat, flattened, no_tokens, no_tree, no_trees, not_flattened, read, trees, unread}
use Rattle.mo_path_names.specs.Identifiers.{is_identifier}
use Rattle.mo_path_names.proofs.laws.Flattening.{models_law}
use Rattle.mo_path_names.proofs.laws.Readable.{report_names}
use Rattle.mo_path_names.proofs.laws.Splitting.{are_delimited}
use Rattle.mo_told_names.specs.Laws.{FilesName, TextsHaveNames, TextsName, TextsPass}
use Rattle.mo_told_names.proofs.laws.Read.{texts_pass, trees_sound}

no_model : (m : FlatModel) (b : Broken) → flat m ≡ broken b → ⊥
no_model m b e = cc

same_model : (m other : FlatModel) → flat m ≡ flat other → other ≡ m
same_model m other e = sym (ap model e)
  where
    model : Outcome → FlatModel
    model (flat made) = made
    model (broken b) = m

-- what files tell whose names pass a test, where texts give a model
record ToldBy (naming : Naming) (path : List (List ℕ)) (m : FlatModel) : Type 0 where
  files : List FileTree
  sound : IsSoundNamedTree naming files
  flattens : Flattens files path (Ok m)

told_by : (naming : Naming) (path texts : List (List ℕ)) (m : FlatModel) → TextsPass naming texts → TextsGive path texts (flat m) → ToldBy naming path m
told_by naming path texts m pass (no_tokens b are e) = absurd (no_model m b e)
told_by naming path texts m pass (no_trees b tokens are refused e) = absurd (no_model m b e)
told_by naming path texts m pass (trees tokens files lexed made gives) = by gives
  where
    by : TreesGive path files (flat m) → ToldBy naming path m
    by (no_tree b is e) = absurd (no_model m b e)
    by (not_flattened b fine flattens e) = absurd (no_model m b e)
    by (flattened other fine flattens e) = record {
      files = files;
      sound = trees_sound naming tokens files (pass tokens lexed) made;
      flattens = subst (λ (model : FlatModel). Flattens files path (Ok model)) (same_model m other e) flattens;
    }

pub texts_printed : TextsHaveNames
texts_printed naming path texts m pass gives =
    let told = told_by naming path texts m pass gives in
    (models_law naming told.files told.sound).printed path m told.flattens

pub of_texts : TextsName
of_texts path texts m gives =
    let told = told_by is_identifier path texts m (texts_pass texts) gives in
    let law = models_law is_identifier told.files told.sound in
    record {
      asked = law.asked path m told.flattens;
      names = law.named are_delimited.identifiers path m told.flattens;
      readable = report_names told.files told.sound path m told.flattens;
    }

pub of_files : FilesName
of_files path names contents m (unread b are e) = absurd (no_model m b e)
of_files path names contents m (read texts are gives) = of_texts path texts m gives
