use Rattle.std.proofs.lemmas.List.{take_rest}
use Rattle.mo_report_lines.proofs.Numbers.{numbers_first, numbers_never, numbers_next, numbers_stop, numbers_all}
use Rattle.mo_report_lines.proofs.number.after_numbers.Goals as goal

pub separated-init : goal.separated-init
separated-init c = numbers_first c.args.separator c.requires c.args.text.now c.in_ok-rest.rest.now c.in_ok-rest.ensures.some

pub separated-preserved : goal.separated-preserved
separated-preserved c =
    numbers_next c.args.separator c.requires c.args.text.now c.separated.rest.now c.in_ok-rest-2.rest.now c.separated.invariant (c.begins_with.ensures.yes c.separated-test.true)
    (rw (take_rest c.separated.rest.now 1) at c.in_ok-rest-2.ensures.some)

pub returns-in_err-rest-clause-none : goal.returns-in_err-rest-clause-none
returns-in_err-rest-clause-none c = rw c.from_residual.ensures (numbers_never c.args.separator c.requires c.args.text.now c.in_err-rest.ensures.none)

pub returns-in_err-rest-2-clause-none : goal.returns-in_err-rest-2-clause-none
returns-in_err-rest-2-clause-none c =
    rw c.from_residual-in_err-rest-2.ensures (numbers_stop c.args.separator c.requires c.args.text.now c.separated.rest.now c.separated.invariant (c.begins_with.ensures.yes c.separated-test.true)
    (rw (take_rest c.separated.rest.now 1) at c.in_err-rest-2.ensures.none))

pub returns-clause-some : goal.returns-clause-some
returns-clause-some c = numbers_all c.args.separator c.requires c.args.text.now c.separated.rest.now c.separated.invariant (c.begins_with.ensures.no c.separated-test.false)
