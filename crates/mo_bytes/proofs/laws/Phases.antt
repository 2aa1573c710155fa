-- The phases that files go through one by one break rules at bytes of the texts, and the trees that they give stand there.
use Rattle.std.proofs.Common.{◌≡◌, ℕ, ◌+◌, ◌-◌, ◌≤◌, inl, inr, arith, List, [], ◌∷◌, flat_map, length, Option, Ok, Err, refl, sym, ap, subst, ◌∙◌}
use Rattle.std.specs.Prelude.{unwrap_or}
use Rattle.std.specs.Str.Lossy.{utf8_valid_len}
use Rattle.std.proofs.lemmas.Str.{utf8_valid_len_le}
use Rattle.mo_syntax.specs.declared.class.FileTree.{FileTree}
use Rattle.mo_syntax.specs.declared.place.Broken.{Broken}
use Rattle.mo_syntax.specs.declared.place.Place.{Place}
use Rattle.mo_syntax.specs.Lexeme.{Lexeme}
use Rattle.mo_grammar.specs.Language.{whole_limits}
use Rattle.mo_lexer.specs.Lexing.{Lexes, IsRefused}
use Rattle.mo_ports.specs.Contents.{Contents}
use Rattle.mo_front.specs.Files.{BreaksFile, too_long, not_utf8, Reads, none, broken, text, later, Each, given, HasNoTree, HasTree}
use Rattle.mo_front.specs.Told.{bytes_of_all}
use Rattle.mo_places.specs.Written.{At}
use Rattle.mo_places.specs.TreeWritten.{places_in_class, places_in_files}
use Rattle.mo_places.specs.Stands.{Every}
use Rattle.mo_places.proofs.laws.Standing.{every_append, every_flat_map, every_weaker}
use Rattle.mo_bytes.specs.Bytes.{IsByteOf, IsByteOfSome}
use Rattle.mo_bytes.specs.Held.{HoldsAll}
use Rattle.mo_bytes.proofs.laws.ClassTree.{WithinStands}
use Rattle.mo_bytes.proofs.laws.Holding.{at_holds, holding_ascends, holding_descends}
use Rattle.mo_bytes.proofs.laws.Lexed.{impossible_in, refused_in, tokens_in}
use Rattle.mo_bytes.proofs.laws.Trees.{file_stands}

-- ---- reading

file_refused : (contents : Contents) (k left : ℕ) (name : List ℕ) (b : Broken) → BreaksFile contents k left name b → IsByteOf k (unwrap_or (contents name) []) b.place
file_refused contents k left name b (too_long bytes holds past is) =
    subst (λ (x : Broken). IsByteOf k (unwrap_or (contents name) []) x.place) (sym is) (record { file = refl; byte = omega arith })
file_refused contents k left name b (not_utf8 bytes holds small bad is) =
    subst (λ (x : Broken). IsByteOf k (unwrap_or (contents name) []) x.place) (sym is)
    (record { file = refl; byte = subst (λ (o : Option (List ℕ)). utf8_valid_len bytes ≤ length (unwrap_or o [])) (sym holds) (utf8_valid_len_le bytes) })

pub reads_refused : (contents : Contents) (k left : ℕ) (names : List (List ℕ)) (b : Broken) → Reads contents k left names (Err b) → IsByteOfSome k (bytes_of_all contents names) b.place
reads_refused contents k left [] b reads = elim reads [ ]
reads_refused contents k left (name ∷ names) b (broken breaks) = inl (file_refused contents k left name b breaks)
reads_refused contents k left (name ∷ names) b (later bytes is more) = inr (reads_refused contents (k + 1) (left - length bytes) names b more)

-- the texts are the bytes of the files
pub reads_texts : (contents : Contents) (k left : ℕ) (names texts : List (List ℕ)) → Reads contents k left names (Ok texts) → bytes_of_all contents names ≡ texts
reads_texts contents k left [] [] none = refl
reads_texts contents k left [] (bytes ∷ texts) reads = elim reads [ ]
reads_texts contents k left (name ∷ names) [] reads = elim reads [ ]
reads_texts contents k left (name ∷ names) (bytes ∷ texts) (text is more) =
    ap (λ (o : Option (List ℕ)). unwrap_or o [] ∷ bytes_of_all contents names) is.holds
    ∙ ap (λ (others : List (List ℕ)). bytes ∷ others) (reads_texts contents (k + 1) (left - length bytes) names texts more)

-- ---- tokens

pub tokens_refused : (k : ℕ) (texts : List (List ℕ)) (b : Broken) → Each Lexes IsRefused k texts (Err b) → IsByteOfSome k texts b.place
tokens_refused k [] b each = elim each [ ]
tokens_refused k (bytes ∷ texts) b (broken refused) = inl (refused_in k bytes b refused)
tokens_refused k (bytes ∷ texts) b (later list lexes more) = inr (tokens_refused (k + 1) texts b more)

-- the tokens of each text stand in it
abbrev pub TokensIn : ℕ → List (List ℕ) → List (List Lexeme) → Type 0
TokensIn k [] [] = Unit {0}
TokensIn k (bytes ∷ texts) (list ∷ tokens) = Every (λ (t : Lexeme). IsByteOf k bytes t.place) list × TokensIn (k + 1) texts tokens
TokensIn k texts tokens = ⊥

pub tokens_given : (k : ℕ) (texts : List (List ℕ)) (tokens : List (List Lexeme)) → Each Lexes IsRefused k texts (Ok tokens) → TokensIn k texts tokens
tokens_given k [] [] each = tt
tokens_given k [] (list ∷ tokens) each = elim each [ ]
tokens_given k (bytes ∷ texts) [] each = elim each [ ]
tokens_given k (bytes ∷ texts) (list ∷ tokens) (given lexes more) = (tokens_in k bytes list lexes, tokens_given (k + 1) texts tokens more)

-- ---- trees

pub trees_refused : (k : ℕ) (texts : List (List ℕ)) (tokens : List (List Lexeme)) (b : Broken) → Each HasTree HasNoTree k tokens (Err b) → TokensIn k texts tokens → IsByteOfSome k texts b.place
trees_refused k texts [] b each h = elim each [ ]
trees_refused k [] (list ∷ tokens) b each h = absurd h
trees_refused k (bytes ∷ texts) (list ∷ tokens) b (broken at) h = inl (impossible_in (IsByteOf k bytes) list b at h.0)
trees_refused k (bytes ∷ texts) (list ∷ tokens) b (later tree spells more) h = inr (trees_refused (k + 1) texts tokens b more h.1)

module _ (Q : Place → Type 0) where
  -- what the classes of a file list, and the path behind `within`
  abbrev pub FileStands : FileTree → Type 0
  FileStands file = Every (HoldsAll Q) (flat_map places_in_class file.classes) × WithinStands (HoldsAll Q) file

  tree_stands : (k : ℕ) (bytes : List ℕ) (list : List Lexeme) (file : FileTree) → HasTree k list file → ((t : Lexeme) → IsByteOf k bytes t.place → Q t.place) →
      Every (λ (t : Lexeme). IsByteOf k bytes t.place) list → FileStands file
  tree_stands k bytes list file spells inside h =
      let spelled = file_stands (HoldsAll Q) (holding_ascends Q) (holding_descends Q) whole_limits list file spells
      (every_weaker (λ (t : Lexeme). IsByteOf k bytes t.place) (λ (t : Lexeme). HoldsAll Q (At t.place)) (λ t p. at_holds Q t.place (inside t p)) list h) in
      (every_flat_map (HoldsAll Q) places_in_class file.classes spelled.0, spelled.1)

  pub trees_given : (k : ℕ) (texts : List (List ℕ)) (tokens : List (List Lexeme)) (files : List FileTree) → Each HasTree HasNoTree k tokens (Ok files) → TokensIn k texts tokens →
      ((place : Place) → IsByteOfSome k texts place → Q place) → Every FileStands files
  trees_given k texts [] [] each h inside = tt
  trees_given k texts [] (file ∷ files) each h inside = elim each [ ]
  trees_given k texts (list ∷ tokens) [] each h inside = elim each [ ]
  trees_given k [] (list ∷ tokens) (file ∷ files) each h inside = absurd h
  trees_given k (bytes ∷ texts) (list ∷ tokens) (file ∷ files) (given spells more) h inside =
      (tree_stands k bytes list file spells (λ t p. inside t.place (inl p)) h.0, trees_given (k + 1) texts tokens files more h.1 (λ place p. inside place (inr p)))

  files_listed : (files : List FileTree) → Every FileStands files → Every (HoldsAll Q) (places_in_files files)
  files_listed [] h = tt
  files_listed (file ∷ files) h = every_append (HoldsAll Q) (flat_map places_in_class file.classes) (places_in_files files) h.0.0 (files_listed files h.1)

  pub all_listed : (files : List FileTree) → Every FileStands files → Every (HoldsAll Q) (places_in_files files) × Every (WithinStands (HoldsAll Q)) files
  all_listed files h = (files_listed files h, every_weaker FileStands (WithinStands (HoldsAll Q)) (λ file k. k.1) files h)
