-- What is told of a printed report: one line with the verdict on it, or the line of the first broken rule.
use Rattle.std.specs.Prelude.{◌≡◌, ℕ, ◌+◌, ◌<◌, ◌≤◌, List, ◌++◌, length, codes, decimal, Option, Some, None, Ok, Err}
use Rattle.mo_syntax.specs.declared.place.Broken.{Broken}
use Rattle.mo_flat.specs.declared.model.FlatModel.{FlatModel}
use Rattle.mo_incidence.specs.Model.{refusal_of}
use Rattle.mo_ports.specs.Contents.{Contents}
use Rattle.mo_incidence.specs.declared.findings.Offsets.{Offsets}
use Rattle.mo_syntax.specs.declared.rules.TheConstants.{FILE_TOO_LONG}
use Rattle.mo_verify.specs.declared.verdict.Verdict.{Verdict}
use Rattle.mo_verify.specs.declared.verdict.Verdict.TheVariants as said
use Rattle.mo_verify.specs.Verdict.{IsVerdict}
use Rattle.mo_front.specs.declared.status.Status.{Status}
use Rattle.mo_front.specs.declared.status.Status.TheVariants.{Refused, Differs}
use Rattle.mo_front.specs.declared.words.Emit.TheVariants as emit
use Rattle.mo_front.specs.Emitted.{PhasesBreak, asked_by, least_status}
use Rattle.mo_front.specs.Files.{Reads, breaks_at}
use Rattle.mo_front.specs.Least.{IsLeastOf}
use Rattle.mo_front.specs.Limits.{all_files_limit, printed_limit}
use Rattle.mo_front.specs.Refusal.{refusal_line}
use Rattle.mo_front.specs.Told.{Breaks, Outcome, TextsGive, broken, flat, bytes_of_all, line_of_broken}

-- ---- the line

-- a line with a word on it
unfoldable pub line_word : ℕ → List ℕ → List ℕ
line_word n word = codes "line " ++ (decimal n ++ (codes ": " ++ word))

-- an equation with a word on it
unfoldable pub equation_word : ℕ → List ℕ → List ℕ
equation_word n word = codes "equation " ++ (decimal n ++ (codes ": " ++ word))

-- what is said of a verdict; of two equations with one unknown the second is named
abbrev pub said_of : Verdict → List ℕ
said_of said.Yes = codes "holds"
said_of said.Admissible = codes "admissible"
said_of (said.Unreadable n) = line_word n (codes "unreadable")
said_of (said.Line n printed found) = line_word n (codes "differs")
said_of (said.Shape n printed wanted) = line_word n (codes "shape")
said_of (said.Order i unknown printed found) = equation_word i (codes "order")
said_of (said.Low i unknown order c d) = equation_word i (codes "low")
said_of (said.Loose i unknown order c d) = equation_word i (codes "loose")
said_of (said.Twice i k unknown) = equation_word k (codes "twice")
said_of (said.NotLeast i printed smaller) = equation_word i (codes "not least")

abbrev pub verdict_line : Verdict → List ℕ
verdict_line v = codes "verify: " ++ said_of v ++ codes "\n"

-- What holds ends as the report on the model would; anything else differs.
abbrev pub verdict_status : Verdict → Status → Status
verdict_status said.Yes ends = ends
verdict_status said.Admissible ends = ends
verdict_status v ends = Differs

-- ---- what is read

-- the contents of the named report, which count in no limit of the files and need be no UTF-8
pub record ReadsReport (contents : Contents) (name bytes : List ℕ) : Type 0 where
  pub holds : contents name ≡ Some bytes
  pub within : length bytes ≤ printed_limit

-- What is read and cut gives, where the report behind the files is within its limit: all is read, the report last, before any text is cut
-- into tokens.
pub data FilesGiveWith (path names : List (List ℕ)) (report : List ℕ) (contents : Contents) (o : Outcome) : Type 0 where
  unread : (b : Broken) → Reads contents 1 all_files_limit names (Err b) → o ≡ broken b → FilesGiveWith path names report contents o
  read : (texts : List (List ℕ)) (bytes : List ℕ) → Reads contents 1 all_files_limit names (Ok texts) → ReadsReport contents report bytes → TextsGive path texts o
      → FilesGiveWith path names report contents o

-- The report, which has the number behind those of the files, breaks rule 1 at its first byte.
pub record IsTooLong (names : List (List ℕ)) (report : List ℕ) (contents : Contents) (b : Broken) : Type 0 where
  pub texts : List (List ℕ)
  pub bytes : List ℕ
  pub reads : Reads contents 1 all_files_limit names (Ok texts)
  pub holds : contents report ≡ Some bytes
  pub past : printed_limit < length bytes
  pub is : b ≡ breaks_at FILE_TOO_LONG (length names + 1) 0

-- ---- what is told

-- the line of the verdict on these bytes, with its status, where a report on the model would end so
pub record SaysVerdict (m : FlatModel) (bytes : List ℕ) (ends status : Status) (text : List ℕ) : Type 0 where
  pub verdict : Verdict
  pub is_verdict : IsVerdict m bytes verdict
  pub is_status : status ≡ verdict_status verdict ends
  pub is : text ≡ verdict_line verdict

-- the verdict, where the phases that a report asks for break no rule
pub record IsJudged (m : FlatModel) (bytes : List ℕ) (status : Status) (text : List ℕ) : Type 0 where
  pub offsets : Option Offsets
  pub accepted : refusal_of m ≡ None
  pub least : IsLeastOf m offsets
  pub passed : PhasesBreak m offsets (asked_by emit.Report).phases None
  pub says : SaysVerdict m bytes (least_status offsets) status text

-- the verdict on the bytes of the report by the model that the files give
pub record JudgesGiven (path names : List (List ℕ)) (report : List ℕ) (contents : Contents) (status : Status) (text : List ℕ) : Type 0 where
  pub m : FlatModel
  pub bytes : List ℕ
  pub given : FilesGiveWith path names report contents (flat m)
  pub read : ReadsReport contents report bytes
  pub judged : IsJudged m bytes status text

-- What is told of the report by the class of the path in the named files: the line of the verdict, or that of the first broken rule.
pub data TellsVerdict (path names : List (List ℕ)) (report : List ℕ) (contents : Contents) (status : Status) (text : List ℕ) : Type 0 where
  judged : JudgesGiven path names report contents status text → TellsVerdict path names report contents status text
  refused : (b : Broken) → Breaks (FilesGiveWith path names report contents) emit.Report b → status ≡ Refused → text ≡ line_of_broken names (bytes_of_all contents names) b
      → TellsVerdict path names report contents status text
  too_long : (b : Broken) (long : IsTooLong names report contents b) → status ≡ Refused → text ≡ refusal_line report long.bytes b → TellsVerdict path names report contents status text
