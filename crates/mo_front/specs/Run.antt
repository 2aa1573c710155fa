-- What the whole program writes, and where its answers come from.
use Rattle.std.specs.Prelude.{◌≡◌, ◌⊎◌, ℕ, List, [], ◌∷◌, ◌++◌, map, IfSome, Option, Some, None, Contains, string_bytes}
use Rattle.std.specs.declared.string.String.{String}
use Rattle.std.specs.declared.alloc.Global.{Global}
use Rattle.mo_syntax.specs.declared.text.Path.{Path}
use Rattle.mo_ports.specs.Contents.{Contents}
use Rattle.mo_ports.specs.Counts.{Rose}
use Rattle.mo_ports.specs.Written.{AppendsFront, appended}
use Rattle.mo_front.specs.declared.status.Status.{Status}
use Rattle.mo_front.specs.declared.status.Status.TheVariants.{Done, Refused, Singular, Usage, ReadFault, WriteFault, NoMemory, Differs}
use Rattle.mo_front.specs.Told.{Tells}
use Rattle.mo_front.specs.Verified.{TellsVerdict}
use Rattle.mo_front.specs.declared.words.Emit.{Emit}
use Rattle.mo_front.specs.declared.words.Emit.TheVariants as emit
use Rattle.mo_front.specs.declared.words.Words.{Words}
use Rattle.mo_front.specs.declared.words.Words.TheVariants.{Job, Make}
use Rattle.mo_front.specs.Ladder.{TellsLadder}
use Rattle.mo_front.specs.Words.{Names}

-- what is told of a class in files, or of a printed report by these
abbrev pub TellsFiles : (path : List (List ℕ)) → Emit → (files : List (List ℕ)) → Option (List ℕ) → Contents → Status → List ℕ → Type 0
TellsFiles path emit files None contents status text = Tells path emit files contents status text
TellsFiles path emit files (Some report) contents status text = TellsVerdict path files report contents status text

-- what is told of what the words ask for
abbrev pub TellsAsked : Words → Contents → Status → List ℕ → Type 0
TellsAsked (Job class emit files verify) contents status text = TellsFiles class.0 emit files verify contents status text
TellsAsked (Make n) contents status text = TellsLadder n status text

-- the words ask for something, and of that the text is told with this status
pub record TellsWords (words : List (List ℕ)) (contents : Contents) (status : Status) (text : List ℕ) : Type 0 where
  pub asked : Words
  pub names : Names words asked
  pub tells : TellsAsked asked contents status text

-- the statuses that come with a text
abbrev pub IsAnswer : Status → Type 0
IsAnswer Done = Unit {0}
IsAnswer Refused = Unit {0}
IsAnswer Singular = Unit {0}
IsAnswer Usage = ⊥
IsAnswer ReadFault = ⊥
IsAnswer WriteFault = ⊥
IsAnswer NoMemory = ⊥
IsAnswer Differs = Unit {0}

-- the statuses with which nothing is written
abbrev pub IsSilent : Status → Type 0
IsSilent Done = ⊥
IsSilent Refused = ⊥
IsSilent Singular = ⊥
IsSilent Usage = Unit {0}
IsSilent ReadFault = Unit {0}
IsSilent WriteFault = ⊥
IsSilent NoMemory = Unit {0}
IsSilent Differs = ⊥

-- the number that the program ends with
abbrev pub status_number : Status → ℕ
status_number Done = 0
status_number Refused = 1
status_number Singular = 2
status_number Usage = 3
status_number ReadFault = 4
status_number WriteFault = 5
status_number NoMemory = 6
status_number Differs = 7

-- the words of the command line as bytes
abbrev pub words_of : List (String Global) → List (List ℕ)
words_of strings = map string_bytes strings

-- a text that is told with this status was appended
pub record WritesTold (Tells : Status → List ℕ → Type 0) (before after : Option (List ℕ)) (status : Status) : Type 0 where
  pub text : List ℕ
  pub told : Tells status text
  pub written : after ≡ appended before text

-- of a text that is told some of the first bytes were appended
pub record WritesFront (Tells : Status → List ℕ → Type 0) (before after : Option (List ℕ)) : Type 0 where
  pub status : Status
  pub text : List ℕ
  pub told : Tells status text
  pub written : AppendsFront before after text

-- the same of what is told of the files that the shelf holds; nothing is said of a shelf that tells nothing
abbrev pub WritesOf : (Contents → Status → List ℕ → Type 0) → Option Contents → (before after : Option (List ℕ)) → Status → Type 0
WritesOf tells told before after status = IfSome told (λ contents. WritesTold (tells contents) before after status)

abbrev pub WritesFrontOf : (Contents → Status → List ℕ → Type 0) → Option Contents → (before after : Option (List ℕ)) → Type 0
WritesFrontOf tells told before after = IfSome told (λ contents. WritesFront (tells contents) before after)

-- With a status that comes with a text, one that is told of the words and of what the shelf holds was appended.
abbrev pub Answers : List (String Global) → Option Contents → (before after : Option (List ℕ)) → Status → Type 0
Answers words told before after status = IsAnswer status → WritesOf (TellsWords (words_of words)) told before after status

-- Where a write failed, some of the first bytes of such a text were appended.
abbrev pub BeginsAnswer : List (String Global) → Option Contents → (before after : Option (List ℕ)) → Status → Type 0
BeginsAnswer words told before after status = status ≡ WriteFault → WritesFrontOf (TellsWords (words_of words)) told before after

-- the words ask for nothing
abbrev pub NamesNothing : List (List ℕ) → Type 0
NamesNothing words = (asked : Words) → Names words asked → ⊥

-- what holds where the words ask for that of a class in files, with no printed report
abbrev pub WhereAsked : Emit → List (List ℕ) → Type 0 → Type 0
WhereAsked emit words P = (class : Path) → (files : List (List ℕ)) → Names words (Job class emit files None) → P

-- what holds where they ask for a ladder
abbrev pub WhereLadder : List (List ℕ) → Type 0 → Type 0
WhereLadder words P = (n : ℕ) → Names words (Make n) → P

-- the count of faults stays
abbrev pub Kept : {A : Type 0} → (A → ℕ) → (old new : A) → Type 0
Kept faults old new = Rose (faults old) (faults new) → ⊥

-- Where the words ask for something, the program ends with an answer or for want of memory.
abbrev pub IsAnswered : List (String Global) → Status → Type 0
IsAnswered words status = (asked : Words) → Names (words_of words) asked → IsAnswer status ⊎ (status ≡ NoMemory)

-- two texts that are told are equal, and so are their statuses
abbrev pub TellsOne : (Status → List ℕ → Type 0) → Type 0
TellsOne tells = (status other : Status) (text more : List ℕ) → tells status text → tells other more → (status ≡ other) × (text ≡ more)

-- what is told of a class in named files, whatever they hold
abbrev pub FilesTellOne : (path names : List (List ℕ)) → Emit → Type 0
FilesTellOne path names emit = (contents : Contents) → TellsOne (Tells path emit names contents)

-- the name of the last failed read is one of these
pub record IsNamedFault (failed : Option (List ℕ)) (names : List (List ℕ)) : Type 0 where
  pub name : List ℕ
  pub is : failed ≡ Some name
  pub among : Contains names name

-- the files that the words name, a printed report behind the others
abbrev pub with_report : List (List ℕ) → Option (List ℕ) → List (List ℕ)
with_report files None = files
with_report files (Some report) = files ++ report ∷ []

-- the words ask for the verdict on a printed report
pub record NamesReport (words : List (List ℕ)) : Type 0 where
  pub class : Path
  pub files : List (List ℕ)
  pub report : List ℕ
  pub names : Names words (Job class emit.Report files (Some report))

-- it is one of the files that the words name
pub record NamesFault (words : List (List ℕ)) (failed : Option (List ℕ)) : Type 0 where
  pub class : Path
  pub emit : Emit
  pub files : List (List ℕ)
  pub verify : Option (List ℕ)
  pub names : Names words (Job class emit files verify)
  pub fault : IsNamedFault failed (with_report files verify)
