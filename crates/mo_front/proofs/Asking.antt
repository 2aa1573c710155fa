-- What the words of the command line ask for, by what `clap` made of them.
use Rattle.std.proofs.Common.{◌≡◌, ◌⊎◌, ◌<◌, ◌≤◌, ℕ, List, [], Option, Some, None, is_some, true, false, inl, inr, length, map, option_map}
use Rattle.std.proofs.Common.{codes, refl, ap, sym, ◌∙◌, subst, zero, suc, arith}
use Rattle.std.specs.Borrow.{Bor}
use Rattle.std.proofs.lemmas.List.{length-map}
use Rattle.clap.specs.Kinds.{IsAmong, Kinds}
use Rattle.clap.specs.Words.{App, Row, Text, all_of, fault_of, first_of, first_value, is_simple, is_simple_and_free, matched_of, matches_of}
use Rattle.clap.specs.Words.{raw_values, rows_of}
use Rattle.clap.specs.declared.parser.matches.Found.{Found}
use Rattle.clap.proofs.WalkLemmas.{first_value-rows, raw_values-rows}
use Rattle.clap.specs.declared.error.kind.ErrorKind.{ErrorKind}
use Rattle.clap.specs.declared.error.kind.ErrorKind.TheVariants as kind
use Rattle.clap.proofs.OnLiterals.{clap_on_literals}
use Rattle.mo_front.specs.declared.words.Emit.{Emit}
use Rattle.mo_front.specs.declared.words.Words.{Words}
use Rattle.mo_front.specs.declared.words.Words.TheVariants.{Job, Make}
use Rattle.mo_front.specs.declared.words.Emit.TheVariants as emits
use Rattle.mo_front.specs.Words.{Asks, AsksFor, AsksForClass, AsksForLadder, AsksForVerdict, Names, NamesClass, NamesJob, NamesRungs, command}

-- ---- options and files that name no class, or no files

pub no_class_holds : (f : Found) (read : Option (Bor Text)) (path files : List (List ℕ))
    → option_map (λ s. s.now) read ≡ first_value f (codes "class")
    → read ≡ None → NamesJob (rows_of f) path files → ⊥
no_class_holds f read path files is none a =
    clash (sym (ap (option_map (λ (s : Bor Text). s.now)) none) ∙ is ∙ first_value-rows f (codes "class") ∙ a.class_given)
  where
    clash : None ≡ Some a.class → ⊥
    clash eq = cc

pub no_path : (f : Found) (word : Text) (path files : List (List ℕ)) → Some word ≡ first_value f (codes "class")
    → ((path : List (List ℕ)) → NamesClass word path → ⊥) → NamesJob (rows_of f) path files → ⊥
no_path f word path files is none a = none path (subst (λ (x : List ℕ). NamesClass x path) (sym same) a.names_class)
  where
    same : word ≡ a.class
    same =
        let both : Some word ≡ Some a.class = is ∙ first_value-rows f (codes "class") ∙ a.class_given in
        cc

pub no_files_holds : (f : Found) (path files : List (List ℕ))
    → None ≡ option_map raw_values (matched_of f (codes "file")) → NamesJob (rows_of f) path files → ⊥
no_files_holds f path files is a = clash (is ∙ raw_values-rows f (codes "file") ∙ a.files_given)
  where
    clash : None ≡ Some files → ⊥
    clash eq = cc

pub other_count : (f : Found) (read : List (Bor Text)) (path files : List (List ℕ))
    → Some (map (λ s. s.now) read) ≡ option_map raw_values (matched_of f (codes "file"))
    → (length read ≡ 0) ⊎ (64 < length read) → NamesJob (rows_of f) path files → ⊥
other_count f read path files is other a = elim other [
  | inl none ↦ absurd (omega (arith, a.some, count, none))
  | inr more ↦ absurd (omega (arith, a.few, count, more))
]
  where
    same : map (λ (s : Bor Text). s.now) read ≡ files
    same =
        let both : Some (map (λ (s : Bor Text). s.now) read) ≡ Some files =
        is ∙ raw_values-rows f (codes "file") ∙ a.files_given in
        cc

    count : length files ≡ length read
    count = sym (ap length same) ∙ length-map read (λ (s : Bor Text). s.now)

-- ---- one form or the other

-- no ladder is asked for where nothing stands behind `--make`
no_ladder_holds : (f : Found) (n : ℕ) → first_value f (codes "make") ≡ None → AsksForLadder (rows_of f) n → ⊥
no_ladder_holds f n none a = clash (sym none ∙ first_value-rows f (codes "make") ∙ a.ladder_given)
  where
    clash : None ≡ Some a.word → ⊥
    clash eq = cc

-- no verdict is asked for where nothing stands behind `--verify`
no_verdict : (f : Found) (path files : List (List ℕ)) (emit : Emit) (report : List ℕ) → first_value f (codes "verify") ≡ None → AsksForVerdict (rows_of f) path emit files report → ⊥
no_verdict f path files emit report none a = clash (sym none ∙ first_value-rows f (codes "verify") ∙ a.report_given)
  where
    clash : None ≡ Some report → ⊥
    clash eq = cc

pub only_class : (f : Found) → first_value f (codes "make") ≡ None → first_value f (codes "verify") ≡ None
    → ((path files : List (List ℕ)) (emit : Emit) → AsksForClass (rows_of f) path emit files → ⊥) → (asked : Words) → Asks (rows_of f) asked → ⊥
only_class f no_make no_verify other (Job class emit files None) a = other class.0 files emit a
only_class f no_make no_verify other (Job class emit files (Some report)) a = no_verdict f class.0 files emit report no_verify a
only_class f no_make no_verify other (Make n) a = no_ladder_holds f n no_make a

-- no text is asked for where a word stands behind `--verify`
no_text : (f : Found) (word : Text) (path files : List (List ℕ)) (emit : Emit) → Some word ≡ first_value f (codes "verify") → AsksForClass (rows_of f) path emit files → ⊥
no_text f word path files emit is a = clash (is ∙ first_value-rows f (codes "verify") ∙ a.no_report)
  where
    clash : Some word ≡ None → ⊥
    clash eq = cc

pub only_verdict : (f : Found) (word : Text) → first_value f (codes "make") ≡ None → Some word ≡ first_value f (codes "verify")
    → ((path files : List (List ℕ)) (emit : Emit) (report : List ℕ) → AsksForVerdict (rows_of f) path emit files report → ⊥) → (asked : Words) → Asks (rows_of f) asked → ⊥
only_verdict f word no_make is other (Job class emit files None) a = no_text f word class.0 files emit is a
only_verdict f word no_make is other (Job class emit files (Some report)) a = other class.0 files emit report a
only_verdict f word no_make is other (Make n) a = no_ladder_holds f n no_make a

-- no class is asked for where a word stands behind `--make`
no_job : (f : Found) (word : Text) (path files : List (List ℕ)) → Some word ≡ first_value f (codes "make") → NamesJob (rows_of f) path files → ⊥
no_job f word path files is a = clash (is ∙ first_value-rows f (codes "make") ∙ a.no_ladder)
  where
    clash : Some word ≡ None → ⊥
    clash eq = cc

pub only_ladder : (f : Found) (word : Text) → Some word ≡ first_value f (codes "make") → ((n : ℕ) → AsksForLadder (rows_of f) n → ⊥)
    → (asked : Words) → Asks (rows_of f) asked → ⊥
only_ladder f word is other (Job class emit files None) a = no_job f word class.0 files is a.job
only_ladder f word is other (Job class emit files (Some report)) a = no_job f word class.0 files is a.job
only_ladder f word is other (Make n) a = other n a

pub no_rungs : (f : Found) (word : Text) → Some word ≡ first_value f (codes "make") → ((n : ℕ) → NamesRungs word n → ⊥) → (n : ℕ) → AsksForLadder (rows_of f) n → ⊥
no_rungs f word is none n a = none n (subst (λ (x : List ℕ). NamesRungs x n) (sym same) a.names_rungs)
  where
    same : word ≡ a.word
    same =
        let both : Some word ≡ Some a.word = is ∙ first_value-rows f (codes "make") ∙ a.ladder_given in
        cc

-- a word that stands behind an option, or none
pub word_given : (f : Found) (name : Text) (read : Option (Bor Text)) → option_map (λ s. s.now) read ≡ first_value f name → is_some read ≡ true → first_of name (rows_of f) ≡ None → ⊥
word_given f name None is there none = cc
word_given f name (Some word) is there none = clash (is ∙ first_value-rows f name ∙ none)
  where
    clash : Some word.now ≡ None → ⊥
    clash eq = cc

pub word_missing : (f : Found) (name : Text) (read : Option (Bor Text)) → option_map (λ s. s.now) read ≡ first_value f name → is_some read ≡ false → first_of name (rows_of f) ≡ None
word_missing f name None is absent = sym (first_value-rows f name) ∙ sym is
word_missing f name (Some word) is absent = absurd clash
  where
    clash : ⊥
    clash = cc

-- files that are named, or none
pub files_given_holds : (f : Found) (read : Option (Bor (List (Bor Text)))) → option_map (λ s. map (λ v. v.now) s.now) read ≡ option_map raw_values (matched_of f (codes "file"))
    → is_some read ≡ true → all_of (codes "file") (rows_of f) ≡ None → ⊥
files_given_holds f None is there none = cc
files_given_holds f (Some files) is there none = clash (is ∙ raw_values-rows f (codes "file") ∙ none)
  where
    clash : Some (map (λ (v : Bor Text). v.now) files.now) ≡ None → ⊥
    clash eq = cc

pub files_missing : (f : Found) (read : Option (Bor (List (Bor Text)))) → option_map (λ s. map (λ v. v.now) s.now) read ≡ option_map raw_values (matched_of f (codes "file"))
    → is_some read ≡ false → all_of (codes "file") (rows_of f) ≡ None
files_missing f None is absent = sym (raw_values-rows f (codes "file")) ∙ sym is
files_missing f (Some files) is absent = absurd clash
  where
    clash : ⊥
    clash = cc

pub asks_ladder : (f : Found) (word : Text) (n : ℕ) → Some word ≡ first_value f (codes "make") → NamesRungs word n → first_of (codes "class") (rows_of f) ≡ None
    → first_of (codes "emit") (rows_of f) ≡ None → first_of (codes "verify") (rows_of f) ≡ None → all_of (codes "file") (rows_of f) ≡ None → AsksForLadder (rows_of f) n
asks_ladder f word n is names class emit verify files = record {
  word = word;
  ladder_given = sym (first_value-rows f (codes "make")) ∙ sym is;
  names_rungs = names;
  no_class = class;
  no_emit = emit;
  no_report = verify;
  no_files = files;
}

-- ---- those that ask for something

pub named_job : (f : Found) (word : Text) (read : List (Bor Text)) (path files : List (List ℕ)) → Some word ≡ first_value f (codes "class") → NamesClass word path
    → Some (map (λ s. s.now) read) ≡ option_map raw_values (matched_of f (codes "file")) → files ≡ map (λ s. s.now) read
    → (length read ≡ 0 → ⊥) → length read ≤ 64 → first_value f (codes "make") ≡ None → NamesJob (rows_of f) path files
named_job f word read path files class_is names files_is same some few no_make = record {
  class = word;
  class_given = sym (class_is ∙ first_value-rows f (codes "class"));
  names_class = names;
  no_ladder = sym (first_value-rows f (codes "make")) ∙ no_make;
  files_given = sym (files_is ∙ raw_values-rows f (codes "file")) ∙ ap Some (sym same);
  some = at_least (length files) (λ none. some (sym count ∙ none));
  few = rw count few;
}
  where
    count : length files ≡ length read
    count = ap length same ∙ length-map read (λ (s : Bor Text). s.now)

    at_least : (n : ℕ) → (n ≡ 0 → ⊥) → 1 ≤ n
    at_least zero some = absurd (some refl)
    at_least (suc n) some = omega arith

pub asks_class : (f : Found) (emit_word : Option Text) (path files : List (List ℕ)) (emit : Emit) → NamesJob (rows_of f) path files → emit_word ≡ first_value f (codes "emit")
    → AsksFor emit_word emit → first_value f (codes "verify") ≡ None → AsksForClass (rows_of f) path emit files
asks_class f emit_word path files emit job emit_is for no_verify = record {
  job = job;
  asks_for = subst (λ (x : Option Text). AsksFor x emit) (emit_is ∙ first_value-rows f (codes "emit")) for;
  no_report = sym (first_value-rows f (codes "verify")) ∙ no_verify;
}

pub no_emit_holds : (f : Found) (read : Option Text) (path files : List (List ℕ)) (emit : Emit) → read ≡ first_value f (codes "emit")
    → ((emit : Emit) → AsksFor read emit → ⊥) → AsksForClass (rows_of f) path emit files → ⊥
no_emit_holds f read path files emit is none a =
    none emit (subst (λ (x : Option Text). AsksFor x emit) (sym (is ∙ first_value-rows f (codes "emit"))) a.asks_for)

pub asks_verdict : (f : Found) (word : Text) (path files : List (List ℕ)) → NamesJob (rows_of f) path files → first_of (codes "emit") (rows_of f) ≡ None
    → Some word ≡ first_value f (codes "verify") → AsksForVerdict (rows_of f) path emits.Report files word
asks_verdict f word path files job no_emit is = record {
  job = job;
  as_report = refl;
  no_emit = no_emit;
  report_given = sym (first_value-rows f (codes "verify")) ∙ sym is;
}

-- ---- the command

-- it is one whose matches and faults `clap` gives exactly
is_simple_holds : is_simple command ≡ true
unfolding clap_on_literals
is_simple_holds = refl

is_free : is_simple_and_free command ≡ true
unfolding clap_on_literals
is_free = refl

pub named : {Rest : Type 0} (app : App) (words : List Text) (given : List Row) (asked : Words)
    → app ≡ command → (is_simple_and_free app ≡ true → fault_of app words ≡ [])
    → (is_simple app ≡ true → (given ≡ matches_of app words) × Rest)
    → Asks given asked → Names words asked
named app words given asked is faults matched a = record {
  no_fault = ap (λ (x : App). fault_of x words) (sym is) ∙ faults (ap is_simple_and_free is ∙ is_free);
  asks = subst (λ (x : List Row). Asks x asked) ((matched (ap is_simple is ∙ is_simple_holds)).0 ∙ ap (λ (x : App). matches_of x words) is) a;
}

pub not_named : {Rest : Type 0} (app : App) (words : List Text) (given : List Row) (asked : Words)
    → app ≡ command → (is_simple app ≡ true → (given ≡ matches_of app words) × Rest) → (Asks given asked → ⊥)
    → Names words asked → ⊥
not_named app words given asked is matched none n =
    none (subst (λ (x : List Row). Asks x asked)
    (sym ((matched (ap is_simple is ∙ is_simple_holds)).0 ∙ ap (λ (x : App). matches_of x words) is)) n.asks)

pub at_fault : (app : App) (words : List Text) (k : ErrorKind) (asked : Words) → app ≡ command
    → (is_simple_and_free app ≡ true → (k ≡ kind.OutOfMemory) ⊎ IsAmong k (fault_of app words)) → (k ≡ kind.OutOfMemory → ⊥)
    → Names words asked → ⊥
at_fault app words k asked is kinds other n = elim (kinds (ap is_simple_and_free is ∙ is_free)) [
  | inl memory ↦ other memory
  | inr among ↦ subst (λ (x : Kinds). IsAmong k x) (ap (λ (x : App). fault_of x words) is ∙ n.no_fault) among
]
