use Rattle.std.proofs.lemmas.List.{take_rest}
use Rattle.mo_report_lines.proofs.Parts.{name_first, name_never, name_next, name_stop, name_all}
use Rattle.mo_report_lines.proofs.name.after_name.Goals as goal

pub parts-init : goal.parts-init
parts-init c = name_first c.args.text.now c.in_ok-rest.rest.now c.in_ok-rest.ensures.some

pub parts-preserved : goal.parts-preserved
parts-preserved c =
    name_next c.args.text.now c.parts.rest.now c.in_ok-rest-2.rest.now c.parts.invariant (c.begins_with.ensures.yes c.parts-test.true) (rw (take_rest c.parts.rest.now 1) at c.in_ok-rest-2.ensures.some)

pub returns-in_err-rest-clause-none : goal.returns-in_err-rest-clause-none
returns-in_err-rest-clause-none c = rw c.from_residual.ensures (name_never c.args.text.now c.in_err-rest.ensures.none)

pub returns-in_err-rest-2-clause-none : goal.returns-in_err-rest-2-clause-none
returns-in_err-rest-2-clause-none c =
    rw c.from_residual-in_err-rest-2.ensures (name_stop c.args.text.now c.parts.rest.now c.parts.invariant (c.begins_with.ensures.yes c.parts-test.true) (rw (take_rest c.parts.rest.now 1) at c.in_err-rest-2.ensures.none))

pub returns-clause-some : goal.returns-clause-some
returns-clause-some c = name_all c.args.text.now c.parts.rest.now c.parts.invariant (c.begins_with.ensures.no c.parts-test.false)
