use Rattle.std.proofs.Common.{◌-◌}
use Rattle.std.proofs.lemmas.Option.{slice_get_within}
use Rattle.mo_eval.proofs.Prefixes.{marked}
use Rattle.mo_eval.proofs.reading.mark.Goals as goal

pub returns-clause-read : goal.returns-clause-read
returns-clause-read c = λ known are has.
    rw c.saturating_sub.ensures (marked c.args.reads.now.items known (c.args.n - 1) c.args.outcome are (slice_get_within _ _ _ c.requires) has)
