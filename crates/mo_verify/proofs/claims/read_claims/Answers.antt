use Rattle.std.proofs.Common.{◌∙◌}
use Rattle.mo_verify.specs.Steps.{printed_of}
use Rattle.mo_verify.proofs.Claiming.{all_printed}
use Rattle.mo_verify.proofs.claims.read_claims.Goals as goal

pub returns-in-Verdict-clause-misshapen : goal.returns-in-Verdict-clause-misshapen
returns-in-Verdict-clause-misshapen c = (printed_of c.read_equations.new.claims, _, rw c.in-Verdict.is at c.in_ok-verdict.ensures.misshapen)

pub returns-in-Some-clause-misshapen : goal.returns-in-Some-clause-misshapen
returns-in-Some-clause-misshapen c = (printed_of c.read_unknowns.new.claims, _, rw c.in-Some.is at c.in_ok-verdict-in-Next.ensures.misshapen)

pub returns-clause-next : goal.returns-clause-next
returns-clause-next c =
    let all = rw c.in-Next.is at c.in_ok-verdict.ensures.all in
    let lengths = c.in_ok-verdict.ensures.lengths in
    let rest = c.in_ok-verdict-in-Next.ensures.rest in
    all_printed c.args.names.now c.args.equations c.args.report.now (printed_of c.read_unknowns.new.claims) (rw rest.0 (lengths.0 ∙ all)) (rw rest.1 (lengths.1 ∙ all)) (rw rest.2 all)
    (rw c.in-None.is at c.in_ok-verdict-in-Next.ensures.all) (rw c.in-None.is at c.in_ok-verdict-in-Next.ensures.none)
