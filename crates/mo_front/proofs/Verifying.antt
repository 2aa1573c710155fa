-- From what is read of files and of a printed report behind them to what is told of it.
use Rattle.std.proofs.Common.{◌≡◌, ◌+◌, ◌<◌, ◌≤◌, ℕ, List, [], ◌∷◌, ◌++◌, length, Option, Some, None, IfSome, IsSomeAnd, Result, Ok, Err, IfOk, OnOk, refl, ap, sym, ◌∙◌, subst}
use Rattle.std.specs.Prelude.{nat_lt}
use Rattle.std.proofs.lemmas.List.Elements.{Contains-append_left, Contains-push}
use Rattle.mo_syntax.specs.Outcome.{IfBroken}
use Rattle.mo_syntax.specs.declared.place.Broken.{Broken}
use Rattle.mo_syntax.specs.declared.place.NoMemory.{NoMemory as memory_refused}
use Rattle.mo_syntax.specs.declared.place.Stop.{Stop}
use Rattle.mo_syntax.specs.declared.place.Stop.TheVariants.{Broken as broken_by, NoMemory as no_memory}
use Rattle.mo_flat.specs.declared.model.FlatModel.{FlatModel}
use Rattle.mo_incidence.specs.Model.{refusal_of}
use Rattle.mo_ports.specs.Contents.{Contents}
use Rattle.mo_incidence.specs.declared.findings.Offsets.{Offsets}
use Rattle.mo_syntax.specs.declared.rules.TheConstants.{FILE_TOO_LONG}
use Rattle.mo_verify.specs.declared.verdict.Verdict.{Verdict}
use Rattle.mo_verify.specs.declared.verdict.Verdict.TheVariants as said
use Rattle.mo_front.specs.declared.load.Unread.{Unread}
use Rattle.mo_front.specs.declared.load.Unread.TheVariants.{Fault, NoMemory, Refused}
use Rattle.mo_front.specs.declared.status.Status.{Status}
use Rattle.mo_front.specs.declared.status.Status.TheVariants.{Refused as refused_status}
use Rattle.mo_front.specs.declared.words.Emit.TheVariants as emit
use Rattle.mo_front.specs.Emitted.{PhasesBreak, Refuses, asked_by, least_status, no_text as no_part}
use Rattle.mo_front.specs.Files.{Reads, breaks_at}
use Rattle.mo_front.specs.Least.{IsLeastOf}
use Rattle.mo_front.specs.Limits.{all_files_limit, printed_limit}
use Rattle.mo_front.specs.steps.Loading.{IsLine, JudgesTexts, RefusesReading, RefusesReadingAll, RefusesReport, TellsBytes, judges, of_files, of_report, refuses}
use Rattle.mo_front.specs.Run.{IsAnswer, IsNamedFault}
use Rattle.mo_front.specs.Told.{Breaks, TextsGive, flat, line_of_broken, no_model, no_text}
use Rattle.mo_front.specs.Verified.{FilesGiveWith, IsJudged, ReadsReport, SaysVerdict, TellsVerdict, judged, read, refused, too_long, unread, verdict_status}
use Rattle.mo_front.proofs.Answering.{answer_of, read_bytes}
use Rattle.mo_front.proofs.Laddering.{report_no_flat}

-- ---- of a model

module _ (m : FlatModel) (o : Option Offsets) (accepted : refusal_of m ≡ None) (least : IsLeastOf m o) where
  pub judged_by_holds : (bytes : List ℕ) (t : Result (Status × List ℕ) Stop) → OnOk t (PhasesBreak m o (asked_by emit.Report).phases None) → IfOk t (λ a. SaysVerdict m bytes (least_status o) a.0 a.1)
      → IfOk t (λ a. IsJudged m bytes a.0 a.1)
  judged_by_holds bytes (Ok a) passed says = record { offsets = o; accepted = accepted; least = least; passed = passed; says = says }
  judged_by_holds bytes (Err s) passed says = tt

  pub verdict_refused : (t : Result (Status × List ℕ) Stop) → IfBroken t (λ b. PhasesBreak m o (asked_by emit.Report).phases (Some b)) → IfBroken t (λ b. Refuses emit.Report m b)
  verdict_refused (Ok a) was = tt
  verdict_refused (Err (broken_by b)) was = no_part o report_no_flat accepted least was
  verdict_refused (Err no_memory) was = tt

-- ---- of texts

pub judges_given : (path texts : List (List ℕ)) (bytes : List ℕ) (m : FlatModel) (r : Result (Status × List ℕ) Stop) → TextsGive path texts (flat m) → IfOk r (λ a. IsJudged m bytes a.0 a.1)
    → IfOk r (λ a. JudgesTexts path texts bytes a.0 a.1)
judges_given path texts bytes m (Ok a) gives is = record { m = m; given = gives; judged = is }
judges_given path texts bytes m (Err s) gives is = tt

pub bytes_judged : (path names texts : List (List ℕ)) (bytes : List ℕ) (status : Status) (line items : List ℕ) → items ≡ line → JudgesTexts path texts bytes status line → TellsBytes path names texts bytes status items
bytes_judged path names texts bytes status line items is told = judges (subst (λ (x : List ℕ). JudgesTexts path texts bytes status x) (sym is) told)

pub bytes_refused : (path names texts : List (List ℕ)) (bytes : List ℕ) (b : Broken) (line : List ℕ) → line ≡ line_of_broken names texts b → Breaks (TextsGive path texts) emit.Report b
    → TellsBytes path names texts bytes refused_status line
bytes_refused path names texts bytes b line is breaks = refuses b breaks refl is

-- ---- of files

module _ (contents : Contents) (path names texts : List (List ℕ)) (report bytes : List ℕ) (reads : Reads contents 1 all_files_limit names (Ok texts)) (held : ReadsReport contents report bytes) where
  breaks_with : (b : Broken) → Breaks (TextsGive path texts) emit.Report b → Breaks (FilesGiveWith path names report contents) emit.Report b
  breaks_with b (no_model gives) = no_model (read texts bytes reads held gives)
  breaks_with b (no_text m gives not) = no_text m (read texts bytes reads held gives) not

  tells_with : (status : Status) (line : List ℕ) → TellsBytes path names texts bytes status line → TellsVerdict path names report contents status line
  tells_with status line (judges j) = judged (record { m = j.m; bytes = bytes; given = read texts bytes reads held j.given; read = held; judged = j.judged })
  tells_with status line (refuses b breaks is line_is) =
      refused b (breaks_with b breaks) is (line_is ∙ ap (λ (x : List (List ℕ)). line_of_broken names x b) (sym (read_bytes contents 1 all_files_limit names texts reads)))

pub told_bytes : (tells_of : Option Contents) (path names texts : List (List ℕ)) (report bytes : List ℕ) (r : Result (Status × List ℕ) memory_refused) (a : Status × List ℕ) → r ≡ Ok a
    → IfSome tells_of (λ contents. Reads contents 1 all_files_limit names (Ok texts)) → IfSome tells_of (λ contents. ReadsReport contents report bytes)
    → IfOk r (λ x. TellsBytes path names texts bytes x.0 x.1) → IfSome tells_of (λ contents. TellsVerdict path names report contents a.0 a.1)
told_bytes None path names texts report bytes r a is reads held gives = tt
told_bytes (Some contents) path names texts report bytes r a is reads held gives = tells_with contents path names texts report bytes reads held a.0 a.1 (rw is at gives)

pub told_unread : (tells_of : Option Contents) (path names : List (List ℕ)) (report line : List ℕ) → IfSome tells_of (λ contents. RefusesReadingAll contents names report (Refused line))
    → IfSome tells_of (λ contents. TellsVerdict path names report contents refused_status line)
told_unread None path names report line was = tt
told_unread (Some contents) path names report line (of_files first) = refused first.b (no_model (unread first.b first.reads refl)) refl first.is
told_unread (Some contents) path names report line (of_report b long is) = too_long b long refl is

-- ---- the status

ends_answer : (v : Verdict) (ends : Status) → IsAnswer ends → IsAnswer (verdict_status v ends)
ends_answer said.Yes ends is = is
ends_answer said.Admissible ends is = is
ends_answer (said.Unreadable n) ends is = tt
ends_answer (said.Line n printed found) ends is = tt
ends_answer (said.Shape n printed wanted) ends is = tt
ends_answer (said.Order i unknown printed found) ends is = tt
ends_answer (said.Low i unknown order c d) ends is = tt
ends_answer (said.Loose i unknown order c d) ends is = tt
ends_answer (said.Twice i k unknown) ends is = tt
ends_answer (said.NotLeast i printed smaller) ends is = tt

least_answers : (o : Option Offsets) → IsAnswer (least_status o)
least_answers None = tt
least_answers (Some offsets) = answer_of (nat_lt (length offsets.c.items) (length offsets.d.items))

pub verdict_answers : (path names texts : List (List ℕ)) (bytes : List ℕ) (status : Status) (line : List ℕ) → TellsBytes path names texts bytes status line → IsAnswer status
verdict_answers path names texts bytes status line (judges j) =
    subst (λ (s : Status). IsAnswer s) (sym j.judged.says.is_status) (ends_answer j.judged.says.verdict (least_status j.judged.offsets) (least_answers j.judged.offsets))
verdict_answers path names texts bytes status line (refuses b breaks is line_is) = rw is tt

-- ---- reading

refused_long : (contents : Contents) (k : ℕ) (name : List ℕ) (u : Unread) (o : Option (List ℕ)) → contents name ≡ o → IsSomeAnd o (λ bytes. printed_limit < length bytes)
    → IsLine (breaks_at FILE_TOO_LONG k 0) name [] u → RefusesReport contents k name u
refused_long contents k name (Refused line) (Some bytes) held long line_is = record { bytes = bytes; holds = held; past = long; is = line_is }
refused_long contents k name (Refused line) None held long line_is = absurd long
refused_long contents k name Fault o held long line_is = tt
refused_long contents k name NoMemory o held long line_is = tt

pub report_long : (told : Option Contents) (k : ℕ) (name : List ℕ) (u : Unread) → IfSome told (λ contents. IsSomeAnd (contents name) (λ bytes. printed_limit < length bytes))
    → IsLine (breaks_at FILE_TOO_LONG k 0) name [] u → IfSome told (λ contents. RefusesReport contents k name u)
report_long None k name u long line_is = tt
report_long (Some contents) k name u long line_is = refused_long contents k name u (contents name) refl long line_is

pub report_read : (told : Option Contents) (name bytes : List ℕ) → IfSome told (λ contents. contents name ≡ Some bytes) → length bytes ≤ printed_limit → IfSome told (λ contents. ReadsReport contents name bytes)
report_read None name bytes holds within = tt
report_read (Some contents) name bytes holds within = record { holds = holds; within = within }

files_refused_first : (contents : Contents) (names : List (List ℕ)) (report : List ℕ) (u : Unread) → RefusesReading contents names u → RefusesReadingAll contents names report u
files_refused_first contents names report (Refused line) was = of_files was
files_refused_first contents names report Fault was = tt
files_refused_first contents names report NoMemory was = tt

pub files_refused : (told : Option Contents) (names : List (List ℕ)) (report : List ℕ) (u : Unread) → IfSome told (λ contents. RefusesReading contents names u) → IfSome told (λ contents. RefusesReadingAll contents names report u)
files_refused None names report u was = tt
files_refused (Some contents) names report u was = files_refused_first contents names report u was

report_refused_last : (contents : Contents) (names texts : List (List ℕ)) (report : List ℕ) (k : ℕ) (u : Unread) → k ≡ length names + 1 → Reads contents 1 all_files_limit names (Ok texts)
    → RefusesReport contents k report u → RefusesReadingAll contents names report u
report_refused_last contents names texts report k (Refused line) number reads was =
    of_report (breaks_at FILE_TOO_LONG k 0) (record { texts = texts; bytes = was.bytes; reads = reads; holds = was.holds; past = was.past; is = ap (λ (n : ℕ). breaks_at FILE_TOO_LONG n 0) number }) was.is
report_refused_last contents names texts report k Fault number reads was = tt
report_refused_last contents names texts report k NoMemory number reads was = tt

pub report_refused : (told held : Option Contents) (names texts : List (List ℕ)) (report : List ℕ) (k : ℕ) (u : Unread) → held ≡ told → k ≡ length names + 1
    → IfSome told (λ contents. Reads contents 1 all_files_limit names (Ok texts)) → IfSome held (λ contents. RefusesReport contents k report u)
    → IfSome told (λ contents. RefusesReadingAll contents names report u)
report_refused None held names texts report k u same number reads was = tt
report_refused (Some contents) held names texts report k u same number reads was =
    report_refused_last contents names texts report k u number reads (subst (λ (o : Option Contents). IfSome o (λ c. RefusesReport c k report u)) same was)

pub same_report : (told held : Option Contents) (report bytes : List ℕ) → held ≡ told → IfSome held (λ contents. ReadsReport contents report bytes) → IfSome told (λ contents. ReadsReport contents report bytes)
same_report told held report bytes same was = subst (λ (o : Option Contents). IfSome o (λ c. ReadsReport c report bytes)) same was

-- ---- names

pub fault_of_files : (failed : Option (List ℕ)) (names : List (List ℕ)) (report : List ℕ) → IsNamedFault failed names → IsNamedFault failed (names ++ report ∷ [])
fault_of_files failed names report fault = record { name = fault.name; is = fault.is; among = Contains-append_left names (report ∷ []) fault.name fault.among }

pub fault_of_report : (failed : Option (List ℕ)) (names : List (List ℕ)) (report : List ℕ) → failed ≡ Some report → IsNamedFault failed (names ++ report ∷ [])
fault_of_report failed names report is = record { name = report; is = is; among = Contains-push names report }
