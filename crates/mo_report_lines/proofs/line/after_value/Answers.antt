use Rattle.mo_report_lines.proofs.Forms.{only_nothing, number_then_blank, name_then_blank}
use Rattle.mo_report_lines.proofs.Options.{some_to, none_to, weaker_only, weaker_never}
use Rattle.mo_report_lines.proofs.line.after_value.Goals as goal

pub returns-in-Nothing-clause-some : goal.returns-in-Nothing-clause-some
returns-in-Nothing-clause-some c = rw c.in-Nothing.is (only_nothing c.args.text.now)

pub returns-in-Number-clause-some : goal.returns-in-Number-clause-some
returns-in-Number-clause-some c = rw c.in-Number.is (some_to c.after_number.result (λ x b. weaker_only _ _ _ number_then_blank c.args.text.now x b) c.after_number.ensures.some)

pub returns-in-Number-clause-none : goal.returns-in-Number-clause-none
returns-in-Number-clause-none c = rw c.in-Number.is (none_to c.after_number.result (λ b. weaker_never _ _ _ number_then_blank c.args.text.now b) c.after_number.ensures.none)

pub returns-in-Name-clause-some : goal.returns-in-Name-clause-some
returns-in-Name-clause-some c = rw c.in-Name.is (some_to c.after_name.result (λ x b. weaker_only _ _ _ name_then_blank c.args.text.now x b) c.after_name.ensures.some)

pub returns-in-Name-clause-none : goal.returns-in-Name-clause-none
returns-in-Name-clause-none c = rw c.in-Name.is (none_to c.after_name.result (λ b. weaker_never _ _ _ name_then_blank c.args.text.now b) c.after_name.ensures.none)

pub returns-in-Derivative-clause-some : goal.returns-in-Derivative-clause-some
returns-in-Derivative-clause-some c = rw c.in-Derivative.is (some_to c.after_derivative.result (λ x b. weaker_only _ _ _ name_then_blank c.args.text.now x b) c.after_derivative.ensures.some)

pub returns-in-Derivative-clause-none : goal.returns-in-Derivative-clause-none
returns-in-Derivative-clause-none c = rw c.in-Derivative.is (none_to c.after_derivative.result (λ b. weaker_never _ _ _ name_then_blank c.args.text.now b) c.after_derivative.ensures.none)
