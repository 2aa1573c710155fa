use Rattle.std.proofs.Common.{drop}
use Rattle.mo_report_lines.proofs.Options.{some_to, none_to}
use Rattle.mo_report_lines.proofs.Parts.{front_of, never_part, only_plain, only_indexed, never_indexed, part_shorter}
use Rattle.mo_report_lines.proofs.name.after_part.Goals as goal

pub returns-in_err-rest-clause-none : goal.returns-in_err-rest-clause-none
returns-in_err-rest-clause-none c = rw c.from_residual.ensures (never_part c.args.text.now c.in_err-rest.ensures.none)

pub after_indices-requires-clause-some : goal.after_indices-requires-clause-some
after_indices-requires-clause-some c = (front_of c.in_ok-rest.rest.now 91 (c.begins_with.ensures.yes c.if-begins_with.true)).0

pub after_indices-requires-clause-first : goal.after_indices-requires-clause-first
after_indices-requires-clause-first c = (front_of c.in_ok-rest.rest.now 91 (c.begins_with.ensures.yes c.if-begins_with.true)).1

pub returns-then-begins_with-clause-some : goal.returns-then-begins_with-clause-some
returns-then-begins_with-clause-some c =
    let bracket = c.begins_with.ensures.yes c.if-begins_with.true in
    some_to c.after_indices.result (λ x i. only_indexed c.args.text.now c.in_ok-rest.rest.now c.in_ok-rest.ensures.some (drop 1 c.in_ok-rest.rest.now) bracket x i) c.after_indices.ensures.some

pub returns-then-begins_with-clause-none : goal.returns-then-begins_with-clause-none
returns-then-begins_with-clause-none c =
    let bracket = c.begins_with.ensures.yes c.if-begins_with.true in
    none_to c.after_indices.result (λ i. never_indexed c.args.text.now c.in_ok-rest.rest.now c.in_ok-rest.ensures.some (drop 1 c.in_ok-rest.rest.now) bracket i) c.after_indices.ensures.none

pub returns-then-begins_with-clause-shorter : goal.returns-then-begins_with-clause-shorter
returns-then-begins_with-clause-shorter c =
    let bracket = c.begins_with.ensures.yes c.if-begins_with.true in
    some_to c.after_indices.result (λ x i. part_shorter c.args.text.now x (only_indexed c.args.text.now c.in_ok-rest.rest.now c.in_ok-rest.ensures.some (drop 1 c.in_ok-rest.rest.now) bracket x i).begins) c.after_indices.ensures.some

pub returns-else-begins_with-clause-some : goal.returns-else-begins_with-clause-some
returns-else-begins_with-clause-some c = only_plain c.args.text.now c.in_ok-rest.rest.now c.in_ok-rest.ensures.some (c.begins_with.ensures.no c.if-begins_with.false)

pub returns-else-begins_with-clause-shorter : goal.returns-else-begins_with-clause-shorter
returns-else-begins_with-clause-shorter c =
    part_shorter c.args.text.now c.in_ok-rest.rest.now (only_plain c.args.text.now c.in_ok-rest.rest.now c.in_ok-rest.ensures.some (c.begins_with.ensures.no c.if-begins_with.false)).begins
