use Rattle.std.proofs.Common.{length}
use Rattle.mo_report_lines.specs.Grammar.{IsPart}
use Rattle.mo_report_lines.specs.steps.Reading.{in_name}
use Rattle.mo_report_lines.proofs.Separated.{GoesOn}
use Rattle.mo_report_lines.proofs.name.after_name.Given as goal

abbrev pub invariant-parts : goal.invariant-parts
invariant-parts l = GoesOn 46 IsPart in_name l.text l.rest

abbrev pub decreases-parts : goal.decreases-parts
decreases-parts l = length l.rest
