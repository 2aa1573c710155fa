-- What is told of a printed report is one thing: one status and one line.
use Rattle.std.proofs.Common.{◌≡◌, ℕ, ◌≤◌, List, length, Some, None, Result, Ok, Err, refl, ap, sym, ◌∙◌, subst, arith}
use Rattle.mo_syntax.specs.declared.place.Broken.{Broken}
use Rattle.mo_flat.specs.declared.model.FlatModel.{FlatModel}
use Rattle.mo_ports.specs.Contents.{Contents}
use Rattle.mo_verify.proofs.Deciding.{one_verdict}
use Rattle.mo_front.specs.declared.status.Status.{Status}
use Rattle.mo_front.specs.declared.words.Emit.TheVariants as emit
use Rattle.mo_front.specs.Emitted.{Refuses, asked_by, no_incidence, least_status, no_text as no_part}
use Rattle.mo_front.specs.Limits.{all_files_limit, printed_limit}
use Rattle.mo_front.specs.Refusal.{refusal_line}
use Rattle.mo_front.specs.Told.{Breaks, FilesGive, Outcome, broken, bytes_of_all, flat, line_of_broken, no_model, no_text, read as read_files, unread as unread_files}
use Rattle.mo_front.specs.Verified.{FilesGiveWith, IsJudged, IsTooLong, JudgesGiven, ReadsReport, SaysVerdict, TellsVerdict, judged, read, refused, too_long, unread, verdict_line, verdict_status}
use Rattle.mo_front.proofs.Once.{one_of_files, one_reading}
use Rattle.mo_front.proofs.OneLeast.{one_least}
use Rattle.mo_front.proofs.OneTold.{one_break_of, one_rule_by, same_least_status}

some_is : {A : Type 0} (a b : A) → Some a ≡ Some b → a ≡ b
some_is a b e = cc

some_none : {A : Type 0} (a : A) → Some a ≡ None → ⊥
some_none a e = cc

-- ---- a verdict

says_one : (m : FlatModel) (bytes : List ℕ) (ends again status other : Status) (text more : List ℕ) → ends ≡ again → SaysVerdict m bytes ends status text → SaysVerdict m bytes again other more → (status ≡ other) × (text ≡ more)
says_one m bytes ends again status other text more e a b =
    let one : a.verdict ≡ b.verdict = one_verdict m bytes a.verdict b.verdict a.is_verdict b.is_verdict in
    let ended : verdict_status a.verdict ends ≡ verdict_status b.verdict again = rw (one, e) refl in
    (a.is_status ∙ (ended ∙ sym b.is_status), a.is ∙ (ap verdict_line one ∙ sym b.is))

one_judged : (m : FlatModel) (bytes : List ℕ) (status other : Status) (text more : List ℕ) → IsJudged m bytes status text → IsJudged m bytes other more → (status ≡ other) × (text ≡ more)
one_judged m bytes status other text more a b =
    says_one m bytes (least_status a.offsets) (least_status b.offsets) status other text more (same_least_status m a.offsets b.offsets (one_least m a.offsets b.offsets a.least b.least)) a.says b.says

-- where a verdict is told, no phase breaks a rule
judged_no_refusal : (m : FlatModel) (bytes : List ℕ) (status : Status) (text : List ℕ) (b : Broken) → IsJudged m bytes status text → Refuses emit.Report m b → ⊥
judged_no_refusal m bytes status text b j (no_incidence not is) = some_none b (sym is ∙ j.accepted)
judged_no_refusal m bytes status text b j (no_part p not accepted least breaks) =
    some_none b (sym (one_rule_by m j.offsets p (asked_by emit.Report).phases None (Some b) j.least least j.passed breaks))

-- ---- what is read

ok_is_no_stop : (texts : List (List ℕ)) (b : Broken) → ◌≡◌ {A = Result (List (List ℕ)) Broken} (Ok texts) (Err b) → ⊥
ok_is_no_stop texts b e = cc

module _ (path names : List (List ℕ)) (report : List ℕ) (contents : Contents) where
  as_files : (o : Outcome) → FilesGiveWith path names report contents o → FilesGive path names contents o
  as_files o (unread b reading is) = unread_files b reading is
  as_files o (read texts bytes reading held gives) = read_files texts reading gives

  once : (o p : Outcome) → FilesGiveWith path names report contents o → FilesGiveWith path names report contents p → o ≡ p
  once o p a b = one_of_files path names contents o p (as_files o a) (as_files p b)

  one_bytes : (bytes other : List ℕ) → ReadsReport contents report bytes → ReadsReport contents report other → bytes ≡ other
  one_bytes bytes other a b = some_is bytes other (sym a.holds ∙ b.holds)

  read_not_long : (bytes : List ℕ) (b : Broken) → ReadsReport contents report bytes → IsTooLong names report contents b → ⊥
  read_not_long bytes b held long =
      let same : long.bytes ≡ bytes = some_is long.bytes bytes (sym long.holds ∙ held.holds) in
      let within : length long.bytes ≤ printed_limit = subst (λ (x : List ℕ). length x ≤ printed_limit) (sym same) held.within in
      omega (arith, within, long.past)

  given_not_long : (o : Outcome) (b : Broken) → FilesGiveWith path names report contents o → IsTooLong names report contents b → ⊥
  given_not_long o b (unread c reading is) long = ok_is_no_stop long.texts c (one_reading contents 1 all_files_limit names (Ok long.texts) (Err c) long.reads reading)
  given_not_long o b (read texts bytes reading held gives) long = read_not_long bytes b held long

  broken_not_long : (b c : Broken) → Breaks (FilesGiveWith path names report contents) emit.Report b → IsTooLong names report contents c → ⊥
  broken_not_long b c (no_model gives) long = given_not_long (broken b) c gives long
  broken_not_long b c (no_text m gives refuses) long = given_not_long (flat m) c gives long

  same_model : (m n : FlatModel) → FilesGiveWith path names report contents (flat m) → FilesGiveWith path names report contents (flat n) → m ≡ n
  same_model m n a b = let same : flat m ≡ flat n = once (flat m) (flat n) a b in cc

  judged_not_broken : (status : Status) (text : List ℕ) (b : Broken) → JudgesGiven path names report contents status text → Breaks (FilesGiveWith path names report contents) emit.Report b → ⊥
  judged_not_broken status text b j (no_model gives) = let same : flat j.m ≡ broken b = once (flat j.m) (broken b) j.given gives in absurd cc
  judged_not_broken status text b j (no_text n gives refuses) =
      judged_no_refusal j.m j.bytes status text b j.judged (subst (λ (k : FlatModel). Refuses emit.Report k b) (sym (same_model j.m n j.given gives)) refuses)

  one_given : (status other : Status) (text more : List ℕ) → JudgesGiven path names report contents status text → JudgesGiven path names report contents other more → (status ≡ other) × (text ≡ more)
  one_given status other text more a b =
      one_judged a.m a.bytes status other text more a.judged
      (subst (λ (k : FlatModel). IsJudged k a.bytes other more) (sym (same_model a.m b.m a.given b.given))
      (subst (λ (x : List ℕ). IsJudged b.m x other more) (sym (one_bytes a.bytes b.bytes a.read b.read)) b.judged))

  same_long : (b c : Broken) (long : IsTooLong names report contents b) (again : IsTooLong names report contents c) → refusal_line report long.bytes b ≡ refusal_line report again.bytes c
  same_long b c long again =
      let same : long.bytes ≡ again.bytes = some_is long.bytes again.bytes (sym long.holds ∙ again.holds) in
      let one : b ≡ c = long.is ∙ sym again.is in
      rw (same, one) refl

  pub one_verdict_told : (status other : Status) (text more : List ℕ) → TellsVerdict path names report contents status text → TellsVerdict path names report contents other more → (status ≡ other) × (text ≡ more)
  one_verdict_told status other text more (judged a) (judged b) = one_given status other text more a b
  one_verdict_told status other text more (judged a) (refused b breaks is text_is) = absurd (judged_not_broken status text b a breaks)
  one_verdict_told status other text more (judged a) (too_long b long is text_is) = absurd (read_not_long a.bytes b a.read long)
  one_verdict_told status other text more (refused b breaks is text_is) (judged a) = absurd (judged_not_broken other more b a breaks)
  one_verdict_told status other text more (refused b breaks is text_is) (refused c breaks' is' text_is') = (
    is ∙ sym is',
    text_is ∙ (ap (line_of_broken names (bytes_of_all contents names))
        (one_break_of (FilesGiveWith path names report contents) once (line_of_broken names (bytes_of_all contents names)) emit.Report b c breaks breaks') ∙ sym text_is'),
  )
  one_verdict_told status other text more (refused b breaks is text_is) (too_long c long is' text_is') = absurd (broken_not_long b c breaks long)
  one_verdict_told status other text more (too_long b long is text_is) (judged a) = absurd (read_not_long a.bytes b a.read long)
  one_verdict_told status other text more (too_long b long is text_is) (refused c breaks is' text_is') = absurd (broken_not_long c b breaks long)
  one_verdict_told status other text more (too_long b long is text_is) (too_long c again is' text_is') = (is ∙ sym is', text_is ∙ (same_long b c long again ∙ sym text_is'))
