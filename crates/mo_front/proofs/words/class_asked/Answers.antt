-- Options and files that ask for a text, or for nothing.
use Rattle.std.proofs.Common.{rules}
use Rattle.clap.specs.Words.{found_of}
use Rattle.mo_front.proofs.Asking.{asks_class, no_emit_holds, only_class}
use Rattle.mo_front.proofs.words.class_asked.Goals as goal

pub returns-in_default-clause-usage : goal.returns-in_default-clause-usage
returns-in_default-clause-usage c = λ same. only_class (found_of c.args.matches.now) c.requires.no_ladder c.requires.no_report (λ path files emit.
    no_emit_holds (found_of c.args.matches.now) _ path files emit c.get_str.ensures (c.in_default.ensures.none (search rules)))

pub returns-in-Ok-clause-asks : goal.returns-in-Ok-clause-asks
returns-in-Ok-clause-asks c =
    asks_class (found_of c.args.matches.now) _ _ _ _ c.in-Ok.ensures.job c.get_str.ensures c.in-Some.ensures.some c.requires.no_report

pub returns-in-Err-clause-usage : goal.returns-in-Err-clause-usage
returns-in-Err-clause-usage c = λ same. only_class (found_of c.args.matches.now) c.requires.no_ladder c.requires.no_report (λ path files emit asks.
    c.in-Err.ensures.usage (search rules) path files asks.job)
