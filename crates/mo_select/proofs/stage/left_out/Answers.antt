use Rattle.std.proofs.Common.{◌≡◌, ◌∙◌, arith}
use Rattle.mo_incidence.specs.steps.Given.{given}
use Rattle.mo_incidence.specs.Offsets.{by_place, by_number}
use Rattle.mo_select.proofs.Opening.{left_out_are, left_out_known}
use Rattle.mo_select.proofs.Picking.{ok_through}
use Rattle.mo_select.proofs.stage.left_out.Goals as goal

pub numbers_at-requires-clause-known : goal.numbers_at-requires-clause-known
numbers_at-requires-clause-known c =
    let made = c.in_ok-opened.ensures in
    let of : c.new-counted.result ≡ given c.args.inc.now.unknowns made.rows = c.new-counted.ensures ∙ made.is in
    rw (c.as_slice.ensures.value, c.deficit.ensures.equations) (left_out_known c.args.inc.now c.args.remaining.now.active.now made.rows made.size _ _ _ (rw of at c.assign-assigned.ensures.deficit))

pub returns : goal.returns
returns c =
    let made = c.in_ok-opened.ensures in
    let of : c.new-counted.result ≡ given c.args.inc.now.unknowns made.rows = c.new-counted.ensures ∙ made.is in
    ok_through c.numbers_at.result _ _
    (λ numbers are.
    left_out_are c.args.inc.now (by_place c.args.remaining.now.c.now) (by_number c.args.remaining.now.d.now) c.args.remaining.now.active.now c.args._order.now c.args.rank.now c.args.end c.requires.ranks c.requires.end made.rows
    made.size made.row_is c.assign-assigned.new.work.assignment c.assign-assigned.new.work.deficient c.assign-assigned.new.work.mentioned
    numbers _ (rw of at c.assign-assigned.ensures.largest) (rw of at c.assign-assigned.ensures.missing) (rw of at c.assign-assigned.ensures.deficit)
    (rw (c.as_slice.ensures.value, c.deficit.ensures.equations) at are))
    c.numbers_at.ensures

pub assign-assigned-requires : goal.assign-assigned-requires
assign-assigned-requires c = rw (c.in_ok-work.ensures, c.new-counted.ensures) (record { equations = c.equations.ensures.count; unknowns = c.unknowns.ensures; entries = c.entries.ensures })

pub numbers_at-requires-clause-small : goal.numbers_at-requires-clause-small
numbers_at-requires-clause-small c = λ e l. omega (arith, c.requires.active e l, c.equations-equations.ensures.sound.few_equations)
