use Rattle.std.proofs.Common.{drop}
use Rattle.mo_report_lines.proofs.Forms.{IsSpelledTo}
use Rattle.mo_report_lines.specs.steps.Reading.{fields_in}
use Rattle.mo_report_lines.proofs.line.has_form.Given as goal

abbrev pub invariant-loop-field : goal.invariant-loop-field
invariant-loop-field l = IsSpelledTo (fields_in l.form) l.line (fields_in (drop l.field-index l.form)) l.rest
