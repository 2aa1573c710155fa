-- A ladder and nothing else.
use Rattle.std.proofs.Common.{codes, sym, ◌∙◌}
use Rattle.clap.specs.Words.{found_of}
use Rattle.mo_front.proofs.Asking.{asks_ladder, files_given_holds, files_missing, no_rungs, only_ladder, word_given, word_missing}
use Rattle.mo_front.proofs.words.ladder_asked.Goals.{then-is_some-via-then-is_some, then-is_some-via-else-is_some+then-is_some-2}
use Rattle.mo_front.proofs.words.ladder_asked.Goals as goal

pub returns-then-is_some-clause-usage : goal.returns-then-is_some-clause-usage
returns-then-is_some-clause-usage c = λ same. only_ladder (found_of c.args.matches.now) c.args.word.now c.requires.given (λ n asks.
    elim c.then-is_some.branch [
      | then-is_some-via-then-is_some w ↦ word_given (found_of c.args.matches.now) (codes "class") c.get_str.result c.get_str.ensures (sym c.is_some.ensures ∙ w.if-is_some.true) asks.no_class
      | then-is_some-via-else-is_some+then-is_some-2 w ↦
          word_given (found_of c.args.matches.now) (codes "emit") w.get_str-else-is_some.result w.get_str-else-is_some.ensures (sym w.is_some-else-is_some.ensures ∙ w.if-is_some-2.true) asks.no_emit
    ])

pub returns-then-is_some-3-clause-usage : goal.returns-then-is_some-3-clause-usage
returns-then-is_some-3-clause-usage c = λ same. only_ladder (found_of c.args.matches.now) c.args.word.now c.requires.given (λ n asks.
    word_given (found_of c.args.matches.now) (codes "verify") c.get_str-2.result c.get_str-2.ensures (sym c.is_some-2.ensures ∙ c.if-is_some-3.true) asks.no_report)

pub returns-then-is_some-4-clause-usage : goal.returns-then-is_some-4-clause-usage
returns-then-is_some-4-clause-usage c = λ same. only_ladder (found_of c.args.matches.now) c.args.word.now c.requires.given (λ n asks.
    files_given_holds (found_of c.args.matches.now) c.get_raw.result c.get_raw.ensures (sym c.is_some-3.ensures ∙ c.if-is_some-4.true) asks.no_files)

pub returns-in-Some-clause-asks : goal.returns-in-Some-clause-asks
returns-in-Some-clause-asks c =
    asks_ladder (found_of c.args.matches.now) c.args.word.now c.in-Some.n c.requires.given c.in-Some.ensures.some
    (word_missing (found_of c.args.matches.now) (codes "class") c.get_str.result c.get_str.ensures (sym c.is_some.ensures ∙ c.if-is_some.false))
    (word_missing (found_of c.args.matches.now) (codes "emit") c.get_str-else-is_some.result c.get_str-else-is_some.ensures (sym c.is_some-else-is_some.ensures ∙ c.if-is_some-2.false))
    (word_missing (found_of c.args.matches.now) (codes "verify") c.get_str-2.result c.get_str-2.ensures (sym c.is_some-2.ensures ∙ c.if-is_some-3.false))
    (files_missing (found_of c.args.matches.now) c.get_raw.result c.get_raw.ensures (sym c.is_some-3.ensures ∙ c.if-is_some-4.false))

pub returns-in-None-clause-usage : goal.returns-in-None-clause-usage
returns-in-None-clause-usage c = λ same. only_ladder (found_of c.args.matches.now) c.args.word.now c.requires.given
    (no_rungs (found_of c.args.matches.now) c.args.word.now c.requires.given (c.rungs_named.ensures.none c.in-None.is))
