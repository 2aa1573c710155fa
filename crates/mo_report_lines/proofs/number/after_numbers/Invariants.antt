use Rattle.std.proofs.Common.{length}
use Rattle.mo_report_lines.specs.Grammar.{IsNumber}
use Rattle.mo_report_lines.specs.steps.Reading.{in_numbers}
use Rattle.mo_report_lines.proofs.Separated.{GoesOn}
use Rattle.mo_report_lines.proofs.number.after_numbers.Given as goal

abbrev pub invariant-separated : goal.invariant-separated
invariant-separated l = GoesOn l.separator IsNumber (in_numbers l.separator) l.text l.rest

abbrev pub decreases-separated : goal.decreases-separated
decreases-separated l = length l.rest
