use Rattle.std.proofs.Common.{arith}
use Rattle.std.proofs.lemmas.Grind.{common_steps}
use Rattle.mo_symdiff.proofs.Trees.{other_args}
use Rattle.mo_symdiff.proofs.functions.slope_of_args.Goals as goal
use Rattle.mo_symdiff.proofs.functions.slope_of_args.Goals.{in_default-via-then-args-lt1, in_default-via-else-args-lt1+else-args-lt2+else-args-lt3}

pub returns-in_default : goal.returns-in_default
returns-in_default c = λ slope is. other_args c.args.function slope c.args.args.now c.args.slopes (λ e. elim c.in_default.branch [ in_default-via-then-args-lt1 w ↦ grind (arith, common_steps) | in_default-via-else-args-lt1+else-args-lt2+else-args-lt3 w ↦ grind (arith, common_steps) ])
    (λ e. elim c.in_default.branch [ in_default-via-then-args-lt1 w ↦ grind (arith, common_steps) | in_default-via-else-args-lt1+else-args-lt2+else-args-lt3 w ↦ grind (arith, common_steps) ]) is
