-- Words that `clap` reads, and words that it refuses.
use Rattle.std.proofs.Common.{rules}
use Rattle.std.proofs.lemmas.Result.{IfOk-weaker}
use Rattle.mo_front.proofs.Asking.{at_fault, named, not_named}
use Rattle.mo_front.proofs.words.read_words.Goals as goal

pub returns-in-Ok-clause-names : goal.returns-in-Ok-clause-names
returns-in-Ok-clause-names c =
    IfOk-weaker c.asked.result _ _
    (λ read asks. named _ _ _ read c.in_ok-command.ensures c.in-Ok.ensures.kinds c.in-Ok.ensures.matches asks)
    c.asked.ensures.asks

pub returns-in-Ok-clause-usage : goal.returns-in-Ok-clause-usage
returns-in-Ok-clause-usage c = λ same asked.
    not_named _ _ _ asked c.in_ok-command.ensures c.in-Ok.ensures.matches (c.asked.ensures.usage same asked)

pub returns-in-Err-clause-usage : goal.returns-in-Err-clause-usage
returns-in-Err-clause-usage c = λ same asked.
    at_fault _ _ _ asked c.in_ok-command.ensures c.in-Err.ensures.kinds (c.fault.ensures.usage (search rules))
