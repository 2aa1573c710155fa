-- From what each step finds to what is told.
use Rattle.std.proofs.Common.{◌≡◌, ◌+◌, ◌-◌, ℕ, Bool, true, false, if◌then◌else◌, List, [], ◌∷◌, length, Option, Some, None, unwrap_or, IfSome, Result, Ok, Err, IfOk, refl, ap, sym, ◌∙◌, subst}
use Rattle.std.specs.Prelude.{nat_lt}
use Rattle.mo_syntax.specs.Outcome.{IfBroken}
use Rattle.mo_syntax.specs.declared.class.FileTree.{FileTree}
use Rattle.mo_syntax.specs.declared.place.Broken.{Broken}
use Rattle.mo_syntax.specs.declared.place.NoMemory.{NoMemory}
use Rattle.mo_syntax.specs.declared.place.Stop.{Stop}
use Rattle.mo_syntax.specs.declared.place.Stop.TheVariants.{Broken as broken_by, NoMemory as no_memory}
use Rattle.mo_syntax.specs.ClassTable.{broken_tree}
use Rattle.mo_syntax.specs.Lexeme.{Lexeme}
use Rattle.mo_flat.specs.declared.model.FlatModel.{FlatModel}
use Rattle.mo_flatten.specs.Told.{Tells as TellsFlat}
use Rattle.mo_ports.specs.Contents.{Contents}
use Rattle.mo_front.specs.declared.load.Unread.TheVariants.{Refused}
use Rattle.mo_front.specs.declared.status.Status.{Status}
use Rattle.mo_front.specs.declared.status.Status.TheVariants.{Differs, Done, Singular, Refused as refused_status}
use Rattle.mo_front.specs.declared.words.Emit.{Emit}
use Rattle.mo_front.specs.declared.words.Emit.TheVariants as asks
use Rattle.mo_front.specs.Emitted.{Refuses, Writes, analysed, without_aliases, reduced_model, flat_text, is_singular}
use Rattle.mo_front.specs.Files.{Reads, none, text, Tokens, Trees}
use Rattle.mo_front.specs.Limits.{all_files_limit}
use Rattle.mo_front.specs.steps.Loading.{RefusesReading, TellsTexts}
use Rattle.mo_front.specs.Run.{IsAnswer}
use Rattle.mo_front.specs.Told.{broken, flat, TreesGive, no_tree, not_flattened, flattened, TextsGive, trees, no_trees, no_tokens, read, unread, line_of_broken, bytes_of_all, Breaks, FilesGive, Tells, WritesGiven, no_model, no_text, refused, written}

-- ---- trees

pub told_flat : (path : List (List ℕ)) (files : List FileTree) (r : Result FlatModel Stop) → broken_tree files ≡ None → TellsFlat files path r → IfOk r (λ m. TreesGive path files (flat m))
told_flat path files (Ok m) accepted tells = flattened m accepted tells refl
told_flat path files (Err s) accepted tells = tt

pub told_broken : (path : List (List ℕ)) (files : List FileTree) (r : Result FlatModel Stop) → broken_tree files ≡ None → TellsFlat files path r → IfBroken r (λ b. TreesGive path files (broken b))
told_broken path files (Ok m) accepted tells = tt
told_broken path files (Err (broken_by b)) accepted tells = not_flattened b accepted tells refl
told_broken path files (Err no_memory) accepted tells = tt

pub no_tree_holds : {T : Type 0} (path : List (List ℕ)) (files : List FileTree) (r : Result T Stop) (s : Stop) → r ≡ Err s → IfBroken r (λ b. broken_tree files ≡ Some b) → IfBroken {T = FlatModel} (Err s) (λ b. TreesGive path files (broken b))
no_tree_holds {T} path files r s is was = at s (rw is at was)
  where
    at : (s : Stop) → IfBroken {T = T} (Err s) (λ b. broken_tree files ≡ Some b) → IfBroken {T = FlatModel} (Err s) (λ b. TreesGive path files (broken b))
    at (broken_by b) was = no_tree b was refl
    at no_memory was = tt

-- ---- texts

pub trees_flat : (path texts : List (List ℕ)) (lists : List (List Lexeme)) (files : List FileTree) (r : Result FlatModel Stop) → Tokens texts (Ok lists) → Trees lists (Ok files)
    → IfOk r (λ m. TreesGive path files (flat m)) → IfOk r (λ m. TextsGive path texts (flat m))
trees_flat path texts lists files (Ok m) tokens trees_are gives = trees lists files tokens trees_are gives
trees_flat path texts lists files (Err s) tokens trees_are gives = tt

pub trees_refusal : (path texts : List (List ℕ)) (lists : List (List Lexeme)) (files : List FileTree) (r : Result FlatModel Stop) → Tokens texts (Ok lists) → Trees lists (Ok files)
    → IfBroken r (λ b. TreesGive path files (broken b)) → IfBroken r (λ b. TextsGive path texts (broken b))
trees_refusal path texts lists files (Ok m) tokens trees_are gives = tt
trees_refusal path texts lists files (Err (broken_by b)) tokens trees_are gives = trees lists files tokens trees_are gives
trees_refusal path texts lists files (Err no_memory) tokens trees_are gives = tt

pub no_trees_holds : {T : Type 0} (path texts : List (List ℕ)) (lists : List (List Lexeme)) (r : Result T Stop) (s : Stop) → r ≡ Err s → Tokens texts (Ok lists) → IfBroken r (λ b. Trees lists (Err b))
    → IfBroken {T = FlatModel} (Err s) (λ b. TextsGive path texts (broken b))
no_trees_holds {T} path texts lists r s is tokens was = at s (rw is at was)
  where
    at : (s : Stop) → IfBroken {T = T} (Err s) (λ b. Trees lists (Err b)) → IfBroken {T = FlatModel} (Err s) (λ b. TextsGive path texts (broken b))
    at (broken_by b) was = no_trees b lists tokens was refl
    at no_memory was = tt

pub no_tokens_holds : {T : Type 0} (path texts : List (List ℕ)) (r : Result T Stop) (s : Stop) → r ≡ Err s → IfBroken r (λ b. Tokens texts (Err b)) → IfBroken {T = FlatModel} (Err s) (λ b. TextsGive path texts (broken b))
no_tokens_holds {T} path texts r s is was = at s (rw is at was)
  where
    at : (s : Stop) → IfBroken {T = T} (Err s) (λ b. Tokens texts (Err b)) → IfBroken {T = FlatModel} (Err s) (λ b. TextsGive path texts (broken b))
    at (broken_by b) was = no_tokens b was refl
    at no_memory was = tt

-- ---- what is told

pub told_written : (path : List (List ℕ)) (emit : Emit) (names texts : List (List ℕ)) (status : Status) (bytes line : List ℕ) → line ≡ bytes → WritesGiven (TextsGive path texts) emit status bytes
    → TellsTexts path emit names texts status line
told_written path emit names texts status bytes line is writes = written (subst (λ (x : List ℕ). WritesGiven (TextsGive path texts) emit status x) (sym is) writes)

pub told_refused : (path : List (List ℕ)) (emit : Emit) (names texts : List (List ℕ)) (b : Broken) (line : List ℕ) → line ≡ line_of_broken names texts b → Breaks (TextsGive path texts) emit b
    → TellsTexts path emit names texts refused_status line
told_refused path emit names texts b line is breaks = refused b breaks refl is

-- of the model that the texts give
pub written_given : (path texts : List (List ℕ)) (emit : Emit) (m : FlatModel) (r : Result (Status × List ℕ) Stop) → TextsGive path texts (flat m) → IfOk r (λ w. Writes emit m w.0 w.1)
    → IfOk r (λ w. WritesGiven (TextsGive path texts) emit w.0 w.1)
written_given path texts emit m (Ok w) gives writes = record { m = m; given = gives; writes = writes }
written_given path texts emit m (Err s) gives writes = tt

pub broken_given : (path texts : List (List ℕ)) (emit : Emit) (m : FlatModel) (r : Result (Status × List ℕ) Stop) → TextsGive path texts (flat m) → IfBroken r (λ b. Refuses emit m b)
    → IfBroken r (λ b. Breaks (TextsGive path texts) emit b)
broken_given path texts emit m (Ok w) gives refuses = tt
broken_given path texts emit m (Err (broken_by b)) gives refuses = no_text m gives refuses
broken_given path texts emit m (Err no_memory) gives refuses = tt

-- the texts give no model
pub broken_before : (path texts : List (List ℕ)) (emit : Emit) (r : Result FlatModel Stop) (s : Stop) → r ≡ Err s → IfBroken r (λ b. TextsGive path texts (broken b))
    → IfBroken {T = Status × List ℕ} (Err s) (λ b. Breaks (TextsGive path texts) emit b)
broken_before path texts emit r s is was = at s (rw is at was)
  where
    at : (s : Stop) → IfBroken {T = FlatModel} (Err s) (λ b. TextsGive path texts (broken b)) → IfBroken {T = Status × List ℕ} (Err s) (λ b. Breaks (TextsGive path texts) emit b)
    at (broken_by b) was = no_model was
    at no_memory was = tt

-- the bytes of files that were read are their texts
pub read_bytes : (contents : Contents) (k left : ℕ) (names texts : List (List ℕ)) → Reads contents k left names (Ok texts) → bytes_of_all contents names ≡ texts
read_bytes contents k left [] [] none = refl
read_bytes contents k left [] (t ∷ texts) r = elim r [ ]
read_bytes contents k left (name ∷ names) [] r = elim r [ ]
read_bytes contents k left (name ∷ names) (t ∷ texts) (text it more) =
    ap (λ (x : List ℕ). x ∷ bytes_of_all contents names) (ap (λ (o : Option (List ℕ)). unwrap_or o []) it.holds) ∙ ap (λ (xs : List (List ℕ)). t ∷ xs) (read_bytes contents (k + 1) (left - length t) names texts more)

-- what is given by the texts of files is given by the files
breaks_of_files : (path : List (List ℕ)) (emit : Emit) (names texts : List (List ℕ)) (contents : Contents) (b : Broken) → Reads contents 1 all_files_limit names (Ok texts)
    → Breaks (TextsGive path texts) emit b → Breaks (FilesGive path names contents) emit b
breaks_of_files path emit names texts contents b reads (no_model gives) = no_model (read texts reads gives)
breaks_of_files path emit names texts contents b reads (no_text m gives refuses) = no_text m (read texts reads gives) refuses

tells : (path : List (List ℕ)) (emit : Emit) (names texts : List (List ℕ)) (contents : Contents) (status : Status) (line : List ℕ) → Reads contents 1 all_files_limit names (Ok texts)
    → TellsTexts path emit names texts status line → Tells path emit names contents status line
tells path emit names texts contents status line reads (written w) = written (record { m = w.m; given = read texts reads w.given; writes = w.writes })
tells path emit names texts contents status line reads (refused b breaks is line_is) =
    refused b (breaks_of_files path emit names texts contents b reads breaks) is
    (line_is ∙ ap (λ (x : List (List ℕ)). line_of_broken names x b) (sym (read_bytes contents 1 all_files_limit names texts reads)))

pub told_texts : (tells_of : Option Contents) (path : List (List ℕ)) (emit : Emit) (names texts : List (List ℕ)) (r : Result (Status × List ℕ) NoMemory) (a : Status × List ℕ) → r ≡ Ok a
    → IfSome tells_of (λ contents. Reads contents 1 all_files_limit names (Ok texts)) → IfOk r (λ x. TellsTexts path emit names texts x.0 x.1) → IfSome tells_of (λ contents. Tells path emit names contents a.0 a.1)
told_texts None path emit names texts r a is reads gives = tt
told_texts (Some contents) path emit names texts r a is reads gives = tells path emit names texts contents a.0 a.1 reads (rw is at gives)

pub told_line : (tells_of : Option Contents) (path : List (List ℕ)) (emit : Emit) (names : List (List ℕ)) (line : List ℕ) → IfSome tells_of (λ contents. RefusesReading contents names (Refused line))
    → IfSome tells_of (λ contents. Tells path emit names contents refused_status line)
told_line None path emit names line refuses = tt
told_line (Some contents) path emit names line refuses = refused refuses.b (no_model (unread refuses.b refuses.reads refl)) refl refuses.is

-- ---- the status

pub answer_of : (b : Bool) → IsAnswer (if b then Singular else Done)
answer_of true = tt
answer_of false = tt

writes_answer : (emit : Emit) (m : FlatModel) (status : Status) (bytes : List ℕ) → Writes emit m status bytes → IsAnswer status
writes_answer emit m status bytes (flat_text asked is bytes_are) = rw is tt
writes_answer emit m status bytes (without_aliases r asked accepted right passed is bytes_are) = rw is tt
writes_answer emit m status bytes (reduced_model o asked accepted least passed is bytes_are) = rw is (answer_of (nat_lt (length o.c.items) (length o.d.items)))
writes_answer emit m status bytes (analysed r asked also alone accepted right passed is bytes_are) = rw is (answer_of (is_singular r))

pub answers : (path : List (List ℕ)) (emit : Emit) (names texts : List (List ℕ)) (status : Status) (line : List ℕ) → TellsTexts path emit names texts status line → IsAnswer status
answers path emit names texts status line (written w) = writes_answer emit w.m status line w.writes
answers path emit names texts status line (refused b breaks is line_is) = rw is tt

-- a text never differs
no_difference : (b : Bool) → (if b then Singular else Done) ≡ Differs → ⊥
no_difference true e = cc
no_difference false e = cc

writes_never_differs : (emit : Emit) (m : FlatModel) (status : Status) (bytes : List ℕ) → Writes emit m status bytes → status ≡ Differs → ⊥
writes_never_differs emit m status bytes (flat_text asked is bytes_are) e = cc
writes_never_differs emit m status bytes (without_aliases r asked accepted right passed is bytes_are) e = cc
writes_never_differs emit m status bytes (reduced_model o asked accepted least passed is bytes_are) e = no_difference (nat_lt (length o.c.items) (length o.d.items)) (sym is ∙ e)
writes_never_differs emit m status bytes (analysed r asked also alone accepted right passed is bytes_are) e = no_difference (is_singular r) (sym is ∙ e)

pub never_differs : (path : List (List ℕ)) (emit : Emit) (names texts : List (List ℕ)) (status : Status) (line : List ℕ) → TellsTexts path emit names texts status line → status ≡ Differs → ⊥
never_differs path emit names texts status line (written w) e = writes_never_differs emit w.m status line w.writes e
never_differs path emit names texts status line (refused b breaks is line_is) e = cc

-- a flat text is never singular, nor is that of aliases
flat_done : (emit : Emit) (m : FlatModel) (status : Status) (bytes : List ℕ) → Writes emit m status bytes → emit ≡ asks.Flat → status ≡ Singular → ⊥
flat_done emit m status bytes (flat_text asked is bytes_are) only_flat singular = cc
flat_done emit m status bytes (without_aliases r asked accepted right passed is bytes_are) only_flat singular = cc
flat_done emit m status bytes (reduced_model o asked accepted least passed is bytes_are) only_flat singular = cc
flat_done emit m status bytes (analysed r asked also alone accepted right passed is bytes_are) only_flat singular = asked only_flat

alias_done : (emit : Emit) (m : FlatModel) (status : Status) (bytes : List ℕ) → Writes emit m status bytes → emit ≡ asks.Alias → status ≡ Singular → ⊥
alias_done emit m status bytes (flat_text asked is bytes_are) only_alias singular = cc
alias_done emit m status bytes (without_aliases r asked accepted right passed is bytes_are) only_alias singular = cc
alias_done emit m status bytes (reduced_model o asked accepted least passed is bytes_are) only_alias singular = cc
alias_done emit m status bytes (analysed r asked also alone accepted right passed is bytes_are) only_alias singular = also only_alias

pub never_singular : (path : List (List ℕ)) (emit : Emit) (names texts : List (List ℕ)) (status : Status) (line : List ℕ) → TellsTexts path emit names texts status line → emit ≡ asks.Flat → status ≡ Singular → ⊥
never_singular path emit names texts status line (written w) only_flat singular = flat_done emit w.m status line w.writes only_flat singular
never_singular path emit names texts status line (refused b breaks is line_is) only_flat singular = cc

pub alias_never_singular : (path : List (List ℕ)) (emit : Emit) (names texts : List (List ℕ)) (status : Status) (line : List ℕ) → TellsTexts path emit names texts status line → emit ≡ asks.Alias → status ≡ Singular → ⊥
alias_never_singular path emit names texts status line (written w) only_alias singular = alias_done emit w.m status line w.writes only_alias singular
alias_never_singular path emit names texts status line (refused b breaks is line_is) only_alias singular = cc
