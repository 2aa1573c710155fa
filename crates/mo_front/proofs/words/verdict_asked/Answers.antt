-- Options and files that ask for a verdict, or for nothing.
use Rattle.std.proofs.Common.{rules, codes, sym, ◌∙◌}
use Rattle.clap.specs.Words.{found_of}
use Rattle.mo_front.proofs.Asking.{asks_verdict, only_verdict, word_given, word_missing}
use Rattle.mo_front.proofs.words.verdict_asked.Goals as goal

pub returns-then-is_some-clause-usage : goal.returns-then-is_some-clause-usage
returns-then-is_some-clause-usage c = λ same. only_verdict (found_of c.args.matches.now) c.args.report.now c.requires.no_ladder c.requires.given (λ path files emit report asks.
    word_given (found_of c.args.matches.now) (codes "emit") c.get_str.result c.get_str.ensures (sym c.is_some.ensures ∙ c.if-is_some.true) asks.no_emit)

pub returns-in-Ok-clause-asks : goal.returns-in-Ok-clause-asks
returns-in-Ok-clause-asks c =
    rw c.in_ok-verify.ensures
    (asks_verdict (found_of c.args.matches.now) c.args.report.now _ _ c.in-Ok.ensures.job
    (word_missing (found_of c.args.matches.now) (codes "emit") c.get_str.result c.get_str.ensures (sym c.is_some.ensures ∙ c.if-is_some.false)) c.requires.given)

pub returns-in-Err-clause-usage : goal.returns-in-Err-clause-usage
returns-in-Err-clause-usage c = λ same. only_verdict (found_of c.args.matches.now) c.args.report.now c.requires.no_ladder c.requires.given (λ path files emit report asks.
    c.in-Err.ensures.usage (search rules) path files asks.job)
