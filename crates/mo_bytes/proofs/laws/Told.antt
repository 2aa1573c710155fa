-- What named files give stands at bytes of them: the flat model, or the first rule that is broken.
use Rattle.std.proofs.Common.{◌≡◌, ◌⊎◌, inl, inr, ℕ, List, Result, Ok, Err, sym, ap, subst, ◌∙◌}
use Rattle.mo_syntax.specs.Outcome.{breach, breaks}
use Rattle.mo_syntax.specs.declared.class.FileTree.{FileTree}
use Rattle.mo_syntax.specs.declared.place.Broken.{Broken}
use Rattle.mo_syntax.specs.declared.place.Place.{Place}
use Rattle.mo_flat.specs.declared.model.FlatEquation.{FlatEquation}
use Rattle.mo_flat.specs.declared.model.FlatModel.{FlatModel}
use Rattle.mo_flat.specs.declared.model.FlatVar.{FlatVar}
use Rattle.mo_front.specs.Told.{Outcome, flat as flat_model, broken as broken_rule, TreesGive, no_tree, not_flattened, flattened, TextsGive, no_tokens, no_trees, trees, unread, read, bytes_of_all}
use Rattle.mo_places.specs.Written.{Written, At}
use Rattle.mo_places.specs.TreeWritten.{nowhere}
use Rattle.mo_places.specs.Stands.{Every}
use Rattle.mo_places.specs.InFiles.{IsWritten}
use Rattle.mo_places.specs.MadeStands.{EquationStands, ModelStands, ToldStands}
use Rattle.mo_places.proofs.laws.Standing.{every_weaker}
use Rattle.mo_places.proofs.laws.Stated.{flat_models_law}
use Rattle.mo_bytes.specs.Bytes.{IsByteOfSome}
use Rattle.mo_bytes.specs.Held.{HoldsAll}
use Rattle.mo_bytes.specs.Laws.{ModelsStand, RefusalsStand}
use Rattle.mo_bytes.proofs.laws.ClassTree.{broken_tree_stands}
use Rattle.mo_bytes.proofs.laws.Holding.{holds_at, written_holds}
use Rattle.mo_bytes.proofs.laws.Phases.{FileStands, all_listed, reads_refused, reads_texts, tokens_given, tokens_refused, trees_given, trees_refused}
use Rattle.mo_syntax.specs.declared.rules.TheConstants.{CLASS_NOT_FOUND}

same_rule : (b c : Broken) → ◌≡◌ {A = Outcome} (broken_rule b) (broken_rule c) → b ≡ c
same_rule b c is = ap held is
  where
    held : Outcome → Broken
    held (broken_rule x) = x
    held (flat_model m) = b

same_model : (m n : FlatModel) → ◌≡◌ {A = Outcome} (flat_model m) (flat_model n) → m ≡ n
same_model m n is = ap held is
  where
    held : Outcome → FlatModel
    held (flat_model x) = x
    held (broken_rule b) = m

same_error : (b c : Broken) → ◌≡◌ {A = Result FlatModel Broken} (Err b) (Err c) → b ≡ c
same_error b c is = ap held is
  where
    held : Result FlatModel Broken → Broken
    held (Err x) = x
    held (Ok m) = b

model_weaker : (P R : Written → Type 0) → ((place : Place) → P (At place) → R (At place)) → (m : FlatModel) → ModelStands P m → ModelStands R m
model_weaker P R f m h = record {
  place = f m.place h.place;
  variables = every_weaker (λ (v : FlatVar). P (At v.place)) (λ (v : FlatVar). R (At v.place)) (λ v. f v.place) m.vars h.variables;
  first = every_weaker (EquationStands P) (EquationStands R) (λ (q : FlatEquation). f q.place) m.first h.first;
  equations = every_weaker (EquationStands P) (EquationStands R) (λ (q : FlatEquation). f q.place) m.equations h.equations;
}

module _ (texts : List (List ℕ)) where
  abbrev Q : Place → Type 0
  Q place = IsByteOfSome 1 texts place

  -- a rule at a byte of a text, or rule 11 on the command line
  abbrev Refused : Broken → Type 0
  Refused b = Q b.place ⊎ (b ≡ breach CLASS_NOT_FOUND nowhere)

  at_byte : (b c : Broken) → ◌≡◌ {A = Outcome} (broken_rule b) (broken_rule c) → Q c.place → Refused b
  at_byte b c is h = inl (subst (λ (x : Broken). Q x.place) (sym (same_rule b c is)) h)

  -- ---- trees

  module _ (path : List (List ℕ)) (files : List FileTree) (stand : Every (FileStands Q) files) where
    told_refused : (b c : Broken) → ◌≡◌ {A = Outcome} (broken_rule b) (broken_rule c) → ToldStands (IsWritten files) (Err c) → Refused b
    told_refused b c is (inl answers) = at_byte b c is (holds_at Q c.place (written_holds Q files (all_listed Q files stand).0 answers.holds))
    told_refused b c is (inr told) = inr (same_rule b c is ∙ same_error c (breach CLASS_NOT_FOUND nowhere) told)

    told_model : (m : FlatModel) → ToldStands (IsWritten files) (Ok m) → ModelStands (HoldsAll Q) m
    told_model m (inl answers) = model_weaker (IsWritten files) (HoldsAll Q) (λ place h. written_holds Q files (all_listed Q files stand).0 h) m answers.holds
    told_model m (inr told) = absurd (let clash : ◌≡◌ {A = Result FlatModel Broken} (Ok m) (breaks CLASS_NOT_FOUND nowhere) = told in cc)

    trees_refuse : (b : Broken) → TreesGive path files (broken_rule b) → Refused b
    trees_refuse b (no_tree c is at) = at_byte b c at (holds_at Q c.place (broken_tree_stands (HoldsAll Q) files (all_listed Q files stand).0 (all_listed Q files stand).1 c is))
    trees_refuse b (not_flattened c fine flattens at) = told_refused b c at (flat_models_law files path (Err c) flattens)
    trees_refuse b (flattened m fine flattens at) = absurd (let clash : ◌≡◌ {A = Outcome} (broken_rule b) (flat_model m) = at in cc)

    trees_model : (m : FlatModel) → TreesGive path files (flat_model m) → ModelStands (HoldsAll Q) m
    trees_model m (no_tree c is at) = absurd (let clash : ◌≡◌ {A = Outcome} (flat_model m) (broken_rule c) = at in cc)
    trees_model m (not_flattened c fine flattens at) = absurd (let clash : ◌≡◌ {A = Outcome} (flat_model m) (broken_rule c) = at in cc)
    trees_model m (flattened n fine flattens at) = subst (ModelStands (HoldsAll Q)) (sym (same_model m n at)) (told_model n (flat_models_law files path (Ok n) flattens))

  -- ---- texts

  pub texts_refuse : (path : List (List ℕ)) (b : Broken) → TextsGive path texts (broken_rule b) → Refused b
  texts_refuse path b (no_tokens c lexed at) = at_byte b c at (tokens_refused 1 texts c lexed)
  texts_refuse path b (no_trees c tokens lexed grown at) = at_byte b c at (trees_refused 1 texts tokens c grown (tokens_given 1 texts tokens lexed))
  texts_refuse path b (trees tokens files lexed grown gives) = trees_refuse path files (trees_given Q 1 texts tokens files grown (tokens_given 1 texts tokens lexed) (λ place h. h)) b gives

  pub texts_model : (path : List (List ℕ)) (m : FlatModel) → TextsGive path texts (flat_model m) → ModelStands (HoldsAll Q) m
  texts_model path m (no_tokens c lexed at) = absurd (let clash : ◌≡◌ {A = Outcome} (flat_model m) (broken_rule c) = at in cc)
  texts_model path m (no_trees c tokens lexed grown at) = absurd (let clash : ◌≡◌ {A = Outcome} (flat_model m) (broken_rule c) = at in cc)
  texts_model path m (trees tokens files lexed grown gives) = trees_model path files (trees_given Q 1 texts tokens files grown (tokens_given 1 texts tokens lexed) (λ place h. h)) m gives

-- ---- files

pub refusals_law : RefusalsStand
refusals_law path names contents b (unread c reads at) = inl (subst (λ (x : Broken). IsByteOfSome 1 (bytes_of_all contents names) x.place) (sym (same_rule b c at)) (reads_refused contents 1 _ names c reads))
refusals_law path names contents b (read texts reads gives) =
    subst (λ (all : List (List ℕ)). IsByteOfSome 1 all b.place ⊎ (b ≡ breach CLASS_NOT_FOUND nowhere)) (sym (reads_texts contents 1 _ names texts reads)) (texts_refuse texts path b gives)

pub models_law : ModelsStand
models_law path names contents m (unread c reads at) = absurd (let clash : ◌≡◌ {A = Outcome} (flat_model m) (broken_rule c) = at in cc)
models_law path names contents m (read texts reads gives) =
    subst (λ (all : List (List ℕ)). ModelStands (HoldsAll (IsByteOfSome 1 all)) m) (sym (reads_texts contents 1 _ names texts reads)) (texts_model texts path m gives)
