use Rattle.std.proofs.Common.{sym, ◌∙◌}
use Rattle.mo_report_lines.specs.steps.Reading.{fields_in}
use Rattle.mo_report_lines.proofs.Forms.{all_left, field_left, no_field_left, form_ends, form_goes_on}
use Rattle.mo_report_lines.proofs.line.has_form.Goals as goal

pub loop-field-init : goal.loop-field-init
loop-field-init c = all_left (fields_in c.args.form.now) c.args.line.now

pub loop-field-preserved : goal.loop-field-preserved
loop-field-preserved c =
    field_left c.args.form.now c.args.line.now c.loop-field.field-index c.loop-field.rest.now _ c.requires c.loop-field-test.true c.loop-field.invariant c.in-Some.left.now c.in-Some.ensures.some

pub returns-in-None-clause-no : goal.returns-in-None-clause-no
returns-in-None-clause-no c =
    λ e. no_field_left c.args.form.now c.args.line.now c.loop-field.field-index c.loop-field.rest.now _ c.requires c.loop-field-test.true c.loop-field.invariant c.in-None.ensures.none

pub returns-clause-yes : goal.returns-clause-yes
returns-clause-yes c = λ e. form_ends c.args.form.now c.args.line.now c.loop-field.field-index c.loop-field.rest.now c.loop-field-test.false c.loop-field.invariant (sym c.is_empty.ensures ∙ e)

pub returns-clause-no : goal.returns-clause-no
returns-clause-no c = λ e. form_goes_on c.args.form.now c.args.line.now c.loop-field.field-index c.loop-field.rest.now c.loop-field-test.false c.loop-field.invariant (sym c.is_empty.ensures ∙ e)
