-- A class and files, or words that lack one of these.
use Rattle.std.proofs.Common.{rules, inl, inr}
use Rattle.clap.specs.Words.{found_of}
use Rattle.mo_front.proofs.Asking.{named_job, no_class_holds, no_files_holds, no_path, other_count}
use Rattle.mo_front.proofs.words.job_named.Goals.{then-is_empty-via-then-is_empty}
use Rattle.mo_front.proofs.words.job_named.Goals.{then-is_empty-via-else-is_empty+then-files-gt-MOST_FILES}
use Rattle.mo_front.proofs.words.job_named.Goals as goal

pub returns-in_default-clause-usage : goal.returns-in_default-clause-usage
returns-in_default-clause-usage c = λ same path files. no_class_holds (found_of c.args.matches.now) c.get_str.result path files c.get_str.ensures (search rules)

pub returns-in_default-2-clause-usage : goal.returns-in_default-2-clause-usage
returns-in_default-2-clause-usage c = λ same path files.
    no_path (found_of c.args.matches.now) c.in-Some.word.now path files c.in-Some.ensures
    (c.in_ok-class.ensures.none (search rules))

pub returns-in_default-get_raw-clause-usage : goal.returns-in_default-get_raw-clause-usage
returns-in_default-get_raw-clause-usage c = λ same path files. no_files_holds (found_of c.args.matches.now) path files c.in_default-get_raw.ensures

pub returns-then-is_empty-clause-usage : goal.returns-then-is_empty-clause-usage
returns-then-is_empty-clause-usage c = λ same path files.
    other_count (found_of c.args.matches.now) c.in-Some-get_raw.files.now path files c.in-Some-get_raw.ensures
    (elim c.then-is_empty.branch [
      | then-is_empty-via-then-is_empty w ↦ inl (search rules)
      | then-is_empty-via-else-is_empty+then-files-gt-MOST_FILES w ↦ inr w.if-files-gt-MOST_FILES.true
    ])

pub returns-clause-job : goal.returns-clause-job
returns-clause-job c =
    named_job (found_of c.args.matches.now) c.in-Some.word.now c.in-Some-get_raw.files.now _ _
    c.in-Some.ensures (rw c.in-Some-2.is at c.in_ok-class.ensures.found)
    c.in-Some-get_raw.ensures c.in_ok-files.ensures (search rules) (search rules) c.requires.no_ladder
