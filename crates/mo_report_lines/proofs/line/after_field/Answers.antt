use Rattle.std.proofs.Common.{◌++◌}
use Rattle.mo_report_lines.proofs.Options.{some_to, none_to}
use Rattle.mo_report_lines.proofs.Forms.{only_field, no_field}
use Rattle.mo_report_lines.proofs.line.after_field.Goals as goal

pub returns-in_err-start-clause-none : goal.returns-in_err-start-clause-none
returns-in_err-start-clause-none c = rw c.from_residual.ensures (λ v other ends h e. c.in_err-start.ensures.none (v ++ other) e)

pub returns-clause-some : goal.returns-clause-some
returns-clause-some c = some_to c.after_value.result (λ x b. only_field c.args.word.now c.args.kind c.args.text.now c.in_ok-start.start.now x c.in_ok-start.ensures.some b) c.after_value.ensures.some

pub returns-clause-none : goal.returns-clause-none
returns-clause-none c = none_to c.after_value.result (λ b. no_field c.args.word.now c.args.kind c.args.text.now c.in_ok-start.start.now c.in_ok-start.ensures.some b) c.after_value.ensures.none
