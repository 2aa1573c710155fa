use Rattle.std.proofs.Common.{◌∙◌, arith}
use Rattle.mo_verify.proofs.Comparing.{agree_same, agree_before}
use Rattle.mo_verify.proofs.compare.line_verdict.Goals as goal

pub returns-in_default-clause-none : goal.returns-in_default-clause-none
returns-in_default-clause-none c = agree_same c.args.report.now c.args.wanted.now c.args.last (c.in_default.ensures.none ∙ c.as_bytes.ensures.value)

pub returns-then-difference-last-clause-none : goal.returns-then-difference-last-clause-none
returns-then-difference-last-clause-none c =
    agree_before c.args.report.now c.args.wanted.now c.args.last c.in-Some.difference.line c.in-Some.difference.printed.now c.in-Some.difference.wanted.now (rw c.as_bytes.ensures.value at c.in-Some.ensures.some) (omega arith)

pub returns-clause-some : goal.returns-clause-some
returns-clause-some c = record {
  number = c.in-Some.difference.line;
  line = c.in-Some.difference.printed.now;
  other = c.in-Some.difference.wanted.now;
  differ = rw c.as_bytes.ensures.value at c.in-Some.ensures.some;
  within = omega arith;
  is = c.in_ok-verdict.ensures;
}
