-- What was written of what is told.
use Rattle.std.proofs.Common.{◌≡◌, ℕ, List, Option, Some, None, IfSome, ap, sym, ◌∙◌, subst, refl, slice_index, if◌then◌else◌, ◌==◌, ◌⊎◌, inl, inr}
use Rattle.mo_syntax.specs.declared.text.Path.{Path}
use Rattle.clap.specs.Words.{matches_of}
use Rattle.mo_ports.specs.Contents.{Contents}
use Rattle.mo_ports.specs.Written.{AppendsFront, appended}
use Rattle.mo_front.specs.declared.status.Status.{Status}
use Rattle.mo_front.specs.declared.status.Status.TheVariants.{Done, Refused, Singular, Usage, ReadFault, WriteFault, NoMemory, Differs}
use Rattle.mo_front.specs.declared.words.Emit.{Emit}
use Rattle.mo_front.specs.declared.words.Words.{Words}
use Rattle.mo_front.specs.declared.words.Words.TheVariants.{Job, Make}
use Rattle.mo_front.specs.Ladder.{TellsLadder}
use Rattle.mo_front.specs.Run.{IsAnswer, IsNamedFault, NamesFault, NamesReport, TellsAsked, TellsFiles, TellsWords, WritesFront, WritesTold, with_report}
use Rattle.mo_front.specs.Told.{Tells}
use Rattle.mo_front.specs.Verified.{TellsVerdict}
use Rattle.mo_front.specs.declared.words.Emit.TheVariants as asks
use Rattle.mo_front.specs.Words.{AsksFor, Names, NamesJob, command, word_of}

pub writes_told : (told : Option Contents) (path : List (List ℕ)) (emit : Emit) (files : List (List ℕ)) (before after : Option (List ℕ)) (status : Status) (line bytes : List ℕ) → IfSome told (λ contents. Tells path emit files contents status line)
    → after ≡ appended before bytes → bytes ≡ line → IfSome told (λ contents. WritesTold (Tells path emit files contents) before after status)
writes_told None path emit files before after status line bytes tells wrote is = tt
writes_told (Some contents) path emit files before after status line bytes tells wrote is = record { text = line; told = tells; written = wrote ∙ ap (appended before) is }

pub writes_front : (told : Option Contents) (path : List (List ℕ)) (emit : Emit) (files : List (List ℕ)) (before after : Option (List ℕ)) (status : Status) (line bytes : List ℕ) → IfSome told (λ contents. Tells path emit files contents status line)
    → AppendsFront before after bytes → bytes ≡ line → IfSome told (λ contents. WritesFront (Tells path emit files contents) before after)
writes_front None path emit files before after status line bytes tells wrote is = tt
writes_front (Some contents) path emit files before after status line bytes tells wrote is =
    record { status = status; text = line; told = tells; written = subst (λ (x : List ℕ). AppendsFront before after x) is wrote }

pub words_told : (told : Option Contents) (words : List (List ℕ)) (before after : Option (List ℕ)) (status : Status) (asked : Words) → Names words asked
    → IfSome told (λ contents. WritesTold (TellsAsked asked contents) before after status) → IfSome told (λ contents. WritesTold (TellsWords words contents) before after status)
words_told None words before after status asked names wrote = tt
words_told (Some contents) words before after status asked names wrote =
    record { text = wrote.text; told = record { asked = asked; names = names; tells = wrote.told }; written = wrote.written }

pub words_front : (told : Option Contents) (words : List (List ℕ)) (before after : Option (List ℕ)) (asked : Words) → Names words asked
    → IfSome told (λ contents. WritesFront (TellsAsked asked contents) before after) → IfSome told (λ contents. WritesFront (TellsWords words contents) before after)
words_front None words before after asked names wrote = tt
words_front (Some contents) words before after asked names wrote =
    record { status = wrote.status; text = wrote.text; told = record { asked = asked; names = names; tells = wrote.told }; written = wrote.written }

-- whatever the files hold, the ladder is the same
pub ladder_told : (told : Option Contents) (words : List (List ℕ)) (before after : Option (List ℕ)) (status : Status) (n : ℕ) → Names words (Make n)
    → WritesTold (TellsLadder n) before after status → IfSome told (λ contents. WritesTold (TellsWords words contents) before after status)
ladder_told None words before after status n names wrote = tt
ladder_told (Some contents) words before after status n names wrote =
    record { text = wrote.text; told = record { asked = Make n; names = names; tells = wrote.told }; written = wrote.written }

pub ladder_front : (told : Option Contents) (words : List (List ℕ)) (before after : Option (List ℕ)) (n : ℕ) → Names words (Make n)
    → WritesFront (TellsLadder n) before after → IfSome told (λ contents. WritesFront (TellsWords words contents) before after)
ladder_front None words before after n names wrote = tt
ladder_front (Some contents) words before after n names wrote =
    record { status = wrote.status; text = wrote.text; told = record { asked = Make n; names = names; tells = wrote.told }; written = wrote.written }

pub names_fault : (words : List (List ℕ)) (class : Path) (emit : Emit) (files : List (List ℕ)) (verify failed : Option (List ℕ)) → Names words (Job class emit files verify) → IsNamedFault failed (with_report files verify)
    → NamesFault words failed
names_fault words class emit files verify failed names fault = record { class = class; emit = emit; files = files; verify = verify; names = names; fault = fault }

-- ---- a class in files, and a printed report

pub writes_verdict : (told : Option Contents) (path files : List (List ℕ)) (report : List ℕ) (before after : Option (List ℕ)) (status : Status) (line bytes : List ℕ) → IfSome told (λ contents. TellsVerdict path files report contents status line)
    → after ≡ appended before bytes → bytes ≡ line → IfSome told (λ contents. WritesTold (TellsVerdict path files report contents) before after status)
writes_verdict None path files report before after status line bytes tells wrote is = tt
writes_verdict (Some contents) path files report before after status line bytes tells wrote is = record { text = line; told = tells; written = wrote ∙ ap (appended before) is }

pub writes_verdict_front : (told : Option Contents) (path files : List (List ℕ)) (report : List ℕ) (before after : Option (List ℕ)) (status : Status) (line bytes : List ℕ) → IfSome told (λ contents. TellsVerdict path files report contents status line)
    → AppendsFront before after bytes → bytes ≡ line → IfSome told (λ contents. WritesFront (TellsVerdict path files report contents) before after)
writes_verdict_front None path files report before after status line bytes tells wrote is = tt
writes_verdict_front (Some contents) path files report before after status line bytes tells wrote is =
    record { status = status; text = line; told = tells; written = subst (λ (x : List ℕ). AppendsFront before after x) is wrote }

-- of a class in files that is told, with a printed report or without one
pub verdict_of_files : (told : Option Contents) (path : List (List ℕ)) (emit : Emit) (files : List (List ℕ)) (verify : Option (List ℕ)) (report shown : List ℕ) (before after : Option (List ℕ)) (status : Status) → verify ≡ Some report → shown ≡ report
    → IfSome told (λ contents. WritesTold (TellsVerdict path files shown contents) before after status) → IfSome told (λ contents. WritesTold (TellsFiles path emit files verify contents) before after status)
verdict_of_files None path emit files verify report shown before after status is same wrote = tt
verdict_of_files (Some contents) path emit files verify report shown before after status is same wrote = record {
  text = wrote.text;
  told = subst (λ (v : Option (List ℕ)). TellsFiles path emit files v contents status wrote.text) (sym is) (subst (λ (r : List ℕ). TellsVerdict path files r contents status wrote.text) same wrote.told);
  written = wrote.written;
}

pub verdict_front_of_files : (told : Option Contents) (path : List (List ℕ)) (emit : Emit) (files : List (List ℕ)) (verify : Option (List ℕ)) (report shown : List ℕ) (before after : Option (List ℕ)) → verify ≡ Some report → shown ≡ report
    → IfSome told (λ contents. WritesFront (TellsVerdict path files shown contents) before after) → IfSome told (λ contents. WritesFront (TellsFiles path emit files verify contents) before after)
verdict_front_of_files None path emit files verify report shown before after is same wrote = tt
verdict_front_of_files (Some contents) path emit files verify report shown before after is same wrote = record {
  status = wrote.status;
  text = wrote.text;
  told = subst (λ (v : Option (List ℕ)). TellsFiles path emit files v contents wrote.status wrote.text) (sym is)
      (subst (λ (r : List ℕ). TellsVerdict path files r contents wrote.status wrote.text) same wrote.told);
  written = wrote.written;
}

pub text_of_files : (told : Option Contents) (path : List (List ℕ)) (emit : Emit) (files : List (List ℕ)) (verify : Option (List ℕ)) (before after : Option (List ℕ)) (status : Status) → verify ≡ None
    → IfSome told (λ contents. WritesTold (Tells path emit files contents) before after status) → IfSome told (λ contents. WritesTold (TellsFiles path emit files verify contents) before after status)
text_of_files None path emit files verify before after status is wrote = tt
text_of_files (Some contents) path emit files verify before after status is wrote = record {
  text = wrote.text;
  told = subst (λ (v : Option (List ℕ)). TellsFiles path emit files v contents status wrote.text) (sym is) wrote.told;
  written = wrote.written;
}

pub front_of_files : (told : Option Contents) (path : List (List ℕ)) (emit : Emit) (files : List (List ℕ)) (verify : Option (List ℕ)) (before after : Option (List ℕ)) → verify ≡ None
    → IfSome told (λ contents. WritesFront (Tells path emit files contents) before after) → IfSome told (λ contents. WritesFront (TellsFiles path emit files verify contents) before after)
front_of_files None path emit files verify before after is wrote = tt
front_of_files (Some contents) path emit files verify before after is wrote = record {
  status = wrote.status;
  text = wrote.text;
  told = subst (λ (v : Option (List ℕ)). TellsFiles path emit files v contents wrote.status wrote.text) (sym is) wrote.told;
  written = wrote.written;
}

-- a line that a ladder has, written whole or in part
pub ladder_writes : (n : ℕ) (before after : Option (List ℕ)) (status : Status) (line bytes : List ℕ) → TellsLadder n status line → after ≡ appended before bytes → bytes ≡ line → WritesTold (TellsLadder n) before after status
ladder_writes n before after status line bytes tells wrote is = record { text = line; told = tells; written = wrote ∙ ap (appended before) is }

pub ladder_writes_front : (n : ℕ) (before after : Option (List ℕ)) (status : Status) (line bytes : List ℕ) → TellsLadder n status line → AppendsFront before after bytes → bytes ≡ line → WritesFront (TellsLadder n) before after
ladder_writes_front n before after status line bytes tells wrote is =
    record { status = status; text = line; told = tells; written = subst (λ (x : List ℕ). AppendsFront before after x) is wrote }

-- ---- what the words ask for

-- what is asked for by a word, which its first and third letters tell
asked_by : List ℕ → Emit
asked_by word = if slice_index word 0 == 115 then asks.States else (if slice_index word 2 == 105 then asks.Alias else (if slice_index word 2 == 97 then asks.Flat else (if slice_index word 2 == 100 then asks.Reduced else (if slice_index word 2 == 112 then asks.Report else (if slice_index word 2 == 111 then asks.Json else asks.All)))))

asked_word : (emit : Emit) → asked_by (word_of emit) ≡ emit
unfolding asked_by
asked_word asks.Flat = refl
asked_word asks.Reduced = refl
asked_word asks.Report = refl
asked_word asks.All = refl
asked_word asks.Json = refl
asked_word asks.States = refl
asked_word asks.Alias = refl

one_asked : (word : Option (List ℕ)) (emit other : Emit) → AsksFor word emit → AsksFor word other → emit ≡ other
one_asked None emit other is also = is ∙ sym also
one_asked (Some word) emit other is also = sym (asked_word emit) ∙ ap asked_by (sym is ∙ also) ∙ asked_word other

-- whatever is asked for of a class, the class and the files are named
pub job_of : (words : List (List ℕ)) (class : Path) (emit : Emit) (files : List (List ℕ)) (verify : Option (List ℕ)) → Names words (Job class emit files verify) → NamesJob (matches_of command words) class.0 files
job_of words class emit files None names = names.asks.job
job_of words class emit files (Some report) names = names.asks.job

-- words ask for one thing only
pub one_verify : (words : List (List ℕ)) (class other : Path) (emit again : Emit) (files more : List (List ℕ)) (verify over : Option (List ℕ)) → Names words (Job class emit files verify) → Names words (Job other again more over) → verify ≡ over
one_verify words class other emit again files more None None names others = refl
one_verify words class other emit again files more None (Some over) names others = let never : None ≡ Some over = sym names.asks.no_report ∙ others.asks.report_given in absurd cc
one_verify words class other emit again files more (Some report) None names others = let never : None ≡ Some report = sym others.asks.no_report ∙ names.asks.report_given in absurd cc
one_verify words class other emit again files more (Some report) (Some over) names others = sym names.asks.report_given ∙ others.asks.report_given

pub one_emit : (words : List (List ℕ)) (class other : Path) (emit again : Emit) (files more : List (List ℕ)) (verify over : Option (List ℕ)) → Names words (Job class emit files verify) → Names words (Job other again more over) → emit ≡ again
one_emit words class other emit again files more None None names others = one_asked _ emit again names.asks.asks_for others.asks.asks_for
one_emit words class other emit again files more None (Some over) names others = let never : None ≡ Some over = sym names.asks.no_report ∙ others.asks.report_given in absurd cc
one_emit words class other emit again files more (Some report) None names others = let never : None ≡ Some report = sym others.asks.no_report ∙ names.asks.report_given in absurd cc
one_emit words class other emit again files more (Some report) (Some over) names others = names.asks.as_report ∙ sym others.asks.as_report

-- a class or a ladder, not both
pub one_form : {P : Type 0} (words : List (List ℕ)) (class : Path) (emit : Emit) (files : List (List ℕ)) (verify : Option (List ℕ)) (n : ℕ) → Names words (Job class emit files verify) → Names words (Make n) → P
one_form words class emit files verify n names ladder = absurd (clash (sym (job_of words class emit files verify names).no_ladder ∙ ladder.asks.ladder_given))
  where
    clash : None ≡ Some ladder.asks.word → ⊥
    clash eq = cc

-- only words that name a report differ from it
pub names_report : (words : List (List ℕ)) (class : Path) (emit : Emit) (files : List (List ℕ)) (verify : Option (List ℕ)) → Names words (Job class emit files verify) → (verify ≡ None → ⊥) → NamesReport words
names_report words class emit files None names some = absurd (some refl)
names_report words class emit files (Some report) names some = record { class = class; files = files; report = report; names = subst (λ (e : Emit). Names words (Job class e files (Some report))) names.asks.as_report names }

-- a run that is asked for something, and meets no fault, answers, or memory is refused
pub answered : (s : Status) → (s ≡ Usage → ⊥) → (s ≡ ReadFault → ⊥) → (s ≡ WriteFault → ⊥) → IsAnswer s ⊎ (s ≡ NoMemory)
answered Done usage read write = inl tt
answered Refused usage read write = inl tt
answered Singular usage read write = inl tt
answered Usage usage read write = absurd (usage refl)
answered ReadFault usage read write = absurd (read refl)
answered WriteFault usage read write = absurd (write refl)
answered NoMemory usage read write = inr refl
answered Differs usage read write = inl tt
