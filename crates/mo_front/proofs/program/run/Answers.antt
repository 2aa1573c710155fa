-- What is told of words.
use Rattle.mo_front.specs.declared.words.Words.TheVariants.{Job}
use Rattle.mo_front.proofs.Writing.{answered, job_of, ladder_front, ladder_told, names_fault, names_report, one_emit, one_form, one_verify, words_front, words_told}
use Rattle.mo_front.proofs.program.run.Goals as goal

pub run_files-requires : goal.run_files-requires
run_files-requires g c = record { few = rw c.as_slice.ensures (job_of _ _ _ _ c.in-Ok-Job.verify (rw c.in-Ok-Job.field-0-is at c.in-Ok-Job.ensures.names)).few }

pub returns-in-Ok-Job-clause-told : goal.returns-in-Ok-Job-clause-told
returns-in-Ok-Job-clause-told g c = λ is_answer.
    words_told (g.S.Shelf.told c.args.shelf.now) _ _ _ _ (Job c.in-Ok-Job.class c.in-Ok-Job.emit c.in-Ok-Job.files c.in-Ok-Job.verify) (rw c.in-Ok-Job.field-0-is at c.in-Ok-Job.ensures.names) (rw c.as_slice.ensures at (c.run_files.ensures.told is_answer))

pub returns-in-Ok-Job-clause-front : goal.returns-in-Ok-Job-clause-front
returns-in-Ok-Job-clause-front g c = λ fault.
    words_front (g.S.Shelf.told c.args.shelf.now) _ _ _ (Job c.in-Ok-Job.class c.in-Ok-Job.emit c.in-Ok-Job.files c.in-Ok-Job.verify) (rw c.in-Ok-Job.field-0-is at c.in-Ok-Job.ensures.names) (rw c.as_slice.ensures at (c.run_files.ensures.front fault))

pub returns-in-Ok-Job-clause-flat : goal.returns-in-Ok-Job-clause-flat
returns-in-Ok-Job-clause-flat g c = λ class files names.
    c.run_files.ensures.flat (one_verify _ _ _ _ _ _ _ _ _ (rw c.in-Ok-Job.field-0-is at c.in-Ok-Job.ensures.names) names) (one_emit _ _ _ _ _ _ _ _ _ (rw c.in-Ok-Job.field-0-is at c.in-Ok-Job.ensures.names) names)

pub returns-in-Ok-Job-clause-alias : goal.returns-in-Ok-Job-clause-alias
returns-in-Ok-Job-clause-alias g c = λ class files names.
    c.run_files.ensures.alias (one_verify _ _ _ _ _ _ _ _ _ (rw c.in-Ok-Job.field-0-is at c.in-Ok-Job.ensures.names) names) (one_emit _ _ _ _ _ _ _ _ _ (rw c.in-Ok-Job.field-0-is at c.in-Ok-Job.ensures.names) names)

pub returns-in-Ok-Job-clause-differs : goal.returns-in-Ok-Job-clause-differs
returns-in-Ok-Job-clause-differs g c = λ e. names_report _ _ _ _ _ (rw c.in-Ok-Job.field-0-is at c.in-Ok-Job.ensures.names) (λ none. c.run_files.ensures.differs none e)

pub returns-in-Ok-Job-clause-ladder : goal.returns-in-Ok-Job-clause-ladder
returns-in-Ok-Job-clause-ladder g c = λ n names. one_form _ _ _ _ _ n (rw c.in-Ok-Job.field-0-is at c.in-Ok-Job.ensures.names) names

pub returns-in-Ok-Job-clause-only_usage : goal.returns-in-Ok-Job-clause-only_usage
returns-in-Ok-Job-clause-only_usage g c = λ none. absurd (none _ (rw c.in-Ok-Job.field-0-is at c.in-Ok-Job.ensures.names))

pub returns-in-Ok-Job-clause-read_name : goal.returns-in-Ok-Job-clause-read_name
returns-in-Ok-Job-clause-read_name g c = λ fault.
    names_fault _ _ _ _ _ _ (rw c.in-Ok-Job.field-0-is at c.in-Ok-Job.ensures.names) (rw c.as_slice.ensures at (c.run_files.ensures.read_name fault))

pub returns-in-Ok-Job-clause-complete : goal.returns-in-Ok-Job-clause-complete
returns-in-Ok-Job-clause-complete g c = λ read write asked names.
    answered c.run_files.result c.run_files.ensures.usage (λ e. read (c.run_files.ensures.read e)) (λ e. write (c.run_files.ensures.write e))

pub run_ladder-requires : goal.run_ladder-requires
run_ladder-requires g c = record { some = (rw c.in-Ok-Make.field-0-is at c.in-Ok-Make.ensures.names).asks.names_rungs.low; few = (rw c.in-Ok-Make.field-0-is at c.in-Ok-Make.ensures.names).asks.names_rungs.high }

pub returns-in-Ok-Make-clause-told : goal.returns-in-Ok-Make-clause-told
returns-in-Ok-Make-clause-told g c = λ is_answer.
    ladder_told (g.S.Shelf.told c.args.shelf.now) _ _ _ _ c.in-Ok-Make.n (rw c.in-Ok-Make.field-0-is at c.in-Ok-Make.ensures.names) (c.run_ladder.ensures.told is_answer)

pub returns-in-Ok-Make-clause-front : goal.returns-in-Ok-Make-clause-front
returns-in-Ok-Make-clause-front g c = λ fault.
    ladder_front (g.S.Shelf.told c.args.shelf.now) _ _ _ c.in-Ok-Make.n (rw c.in-Ok-Make.field-0-is at c.in-Ok-Make.ensures.names) (c.run_ladder.ensures.front fault)

pub returns-in-Ok-Make-clause-flat : goal.returns-in-Ok-Make-clause-flat
returns-in-Ok-Make-clause-flat g c = λ class files names. one_form _ class _ files _ c.in-Ok-Make.n names (rw c.in-Ok-Make.field-0-is at c.in-Ok-Make.ensures.names)

pub returns-in-Ok-Make-clause-alias : goal.returns-in-Ok-Make-clause-alias
returns-in-Ok-Make-clause-alias g c = λ class files names. one_form _ class _ files _ c.in-Ok-Make.n names (rw c.in-Ok-Make.field-0-is at c.in-Ok-Make.ensures.names)

pub returns-in-Ok-Make-clause-ladder : goal.returns-in-Ok-Make-clause-ladder
returns-in-Ok-Make-clause-ladder g c = λ n names. (c.run_ladder.ensures.singular, c.run_ladder.ensures.read)

pub returns-in-Ok-Make-clause-only_usage : goal.returns-in-Ok-Make-clause-only_usage
returns-in-Ok-Make-clause-only_usage g c = λ none. absurd (none _ (rw c.in-Ok-Make.field-0-is at c.in-Ok-Make.ensures.names))

pub returns-in-Ok-Make-clause-complete : goal.returns-in-Ok-Make-clause-complete
returns-in-Ok-Make-clause-complete g c = λ read write asked names.
    answered c.run_ladder.result c.run_ladder.ensures.usage (λ e. absurd (c.run_ladder.ensures.read e)) (λ e. write (c.run_ladder.ensures.write e))

pub returns-in-Ok-Make-clause-differs : goal.returns-in-Ok-Make-clause-differs
returns-in-Ok-Make-clause-differs g c = λ e. absurd (c.run_ladder.ensures.differs e)
