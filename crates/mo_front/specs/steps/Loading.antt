-- What reading the named files comes to.
use Rattle.std.specs.Prelude.{◌≡◌, ℕ, ◌<◌, List, [], ◌++◌, length, Some, unwrap_or, Result, Ok, Err, IsUtf8}
use Rattle.std.specs.Str.Lossy.{utf8_valid_len}
use Rattle.mo_syntax.specs.declared.place.Broken.{Broken}
use Rattle.mo_ports.specs.Contents.{Contents}
use Rattle.mo_front.specs.declared.load.Unread.{Unread}
use Rattle.mo_front.specs.declared.load.Unread.TheVariants.{Fault, NoMemory, Refused}
use Rattle.mo_front.specs.Files.{BreaksFile, Each, Reads, breaks_at}
use Rattle.mo_flat.specs.declared.model.FlatModel.{FlatModel}
use Rattle.mo_front.specs.Limits.{all_files_limit, printed_limit}
use Rattle.mo_front.specs.declared.status.Status.{Status}
use Rattle.mo_front.specs.declared.status.Status.TheVariants.{Refused as refused_status}
use Rattle.mo_front.specs.declared.words.Emit.{Emit}
use Rattle.mo_front.specs.declared.words.Emit.TheVariants as emit
use Rattle.mo_front.specs.Told.{Breaks, TellsOf, TextsGive, bytes_of_all, flat, line_of_broken}
use Rattle.mo_front.specs.Refusal.{refusal_line}
use Rattle.mo_front.specs.Verified.{IsJudged, IsTooLong}
use Rattle.mo_syntax.specs.declared.rules.TheConstants.{NOT_UTF_8, FILE_TOO_LONG}

-- the line of a broken rule in a file of that name with these bytes, where memory suffices
abbrev pub IsLine : Broken → List ℕ → List ℕ → Unread → Type 0
IsLine b name bytes (Refused line) = line ≡ refusal_line name bytes b
IsLine b name bytes Fault = ⊥
IsLine b name bytes NoMemory = Unit {0}

-- the bytes are UTF-8, and this is the text
abbrev pub IsTextOf : List ℕ → List ℕ → Type 0
IsTextOf bytes text = (text ≡ bytes) × IsUtf8 bytes

-- the bytes of a file are no UTF-8, and the line names rule 2 behind their longest valid front
abbrev pub RefusesBytes : ℕ → List ℕ → List ℕ → Unread → Type 0
RefusesBytes file name bytes (Refused line) = (IsUtf8 bytes → ⊥) × (line ≡ refusal_line name bytes (breaks_at NOT_UTF_8 file (utf8_valid_len bytes)))
RefusesBytes file name bytes Fault = ⊥
RefusesBytes file name bytes NoMemory = Unit {0}

-- a rule that the named file breaks, with the line that names it
pub record IsRefusal (contents : Contents) (k left : ℕ) (name line : List ℕ) : Type 0 where
  pub b : Broken
  pub breaks : BreaksFile contents k left name b
  pub at : b.place.file ≡ k
  pub is : line ≡ refusal_line name (unwrap_or (contents name) []) b

abbrev pub RefusesFile : Contents → ℕ → ℕ → List ℕ → Unread → Type 0
RefusesFile contents k left name (Refused line) = IsRefusal contents k left name line
RefusesFile contents k left name Fault = Unit {0}
RefusesFile contents k left name NoMemory = Unit {0}

-- the first rule that reading the named files breaks, with the line that names it
pub record IsFirstRefusal (contents : Contents) (names : List (List ℕ)) (line : List ℕ) : Type 0 where
  pub b : Broken
  pub reads : Reads contents 1 all_files_limit names (Err b)
  pub is : line ≡ line_of_broken names (bytes_of_all contents names) b

-- the named report is past its limit, and the line names rule 1 at its first byte, in the file of the number k
pub record IsLongReport (contents : Contents) (k : ℕ) (name line : List ℕ) : Type 0 where
  pub bytes : List ℕ
  pub holds : contents name ≡ Some bytes
  pub past : printed_limit < length bytes
  pub is : line ≡ refusal_line name bytes (breaks_at FILE_TOO_LONG k 0)

abbrev pub RefusesReport : Contents → ℕ → List ℕ → Unread → Type 0
RefusesReport contents k name (Refused line) = IsLongReport contents k name line
RefusesReport contents k name Fault = Unit {0}
RefusesReport contents k name NoMemory = Unit {0}

abbrev pub RefusesReading : Contents → List (List ℕ) → Unread → Type 0
RefusesReading contents names (Refused line) = IsFirstRefusal contents names line
RefusesReading contents names Fault = Unit {0}
RefusesReading contents names NoMemory = Unit {0}

-- what is told of a class and of files with these texts
abbrev pub TellsTexts : (path : List (List ℕ)) → Emit → (names texts : List (List ℕ)) → Status → List ℕ → Type 0
TellsTexts path emit names texts = TellsOf (TextsGive path texts) (line_of_broken names texts) emit

-- the first rule that reading the named files and a report behind them breaks, with the line that names it
pub data IsFirstRefusalOfAll (contents : Contents) (names : List (List ℕ)) (report line : List ℕ) : Type 0 where
  of_files : IsFirstRefusal contents names line → IsFirstRefusalOfAll contents names report line
  of_report : (b : Broken) (long : IsTooLong names report contents b) → line ≡ refusal_line report long.bytes b → IsFirstRefusalOfAll contents names report line

abbrev pub RefusesReadingAll : Contents → List (List ℕ) → List ℕ → Unread → Type 0
RefusesReadingAll contents names report (Refused line) = IsFirstRefusalOfAll contents names report line
RefusesReadingAll contents names report Fault = Unit {0}
RefusesReadingAll contents names report NoMemory = Unit {0}

-- the verdict on the bytes of a printed report by the model that texts give
pub record JudgesTexts (path texts : List (List ℕ)) (bytes : List ℕ) (status : Status) (line : List ℕ) : Type 0 where
  pub m : FlatModel
  pub given : TextsGive path texts (flat m)
  pub judged : IsJudged m bytes status line

-- what is told of the bytes of a printed report, by a class and files with these texts
pub data TellsBytes (path names texts : List (List ℕ)) (bytes : List ℕ) (status : Status) (line : List ℕ) : Type 0 where
  judges : JudgesTexts path texts bytes status line → TellsBytes path names texts bytes status line
  refuses : (b : Broken) → Breaks (TextsGive path texts) emit.Report b → status ≡ refused_status → line ≡ line_of_broken names texts b → TellsBytes path names texts bytes status line

-- ---- what is left of a phase

abbrev pub behind_values : {B : Type 0} → List B → Result (List B) Broken → Result (List B) Broken
behind_values ys (Ok more) = Ok (ys ++ more)
behind_values ys (Err b) = Err b

-- what comes of the files that are left comes of all files, behind what was gathered
abbrev pub More : {A B : Type 0} → (ℕ → A → B → Type 0) → (ℕ → A → Broken → Type 0) → List A → List B → ℕ → List A → Type 0
More {A} {B} gives breaks all gathered k rest = (r : Result (List B) Broken) → Each gives breaks k rest r → Each gives breaks 1 all (behind_values gathered r)

abbrev pub MoreFiles : Contents → List (List ℕ) → List (List ℕ) → ℕ → ℕ → List (List ℕ) → Type 0
MoreFiles contents names gathered k left rest =
    (r : Result (List (List ℕ)) Broken) → Reads contents k left rest r → Reads contents 1 all_files_limit names (behind_values gathered r)
