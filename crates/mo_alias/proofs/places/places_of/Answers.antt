use Rattle.std.proofs.Common.{◌∙◌, ap, length}
use Rattle.mo_alias.proofs.Keeping.{all_numbers, flag_is, known_low, places_are}
use Rattle.mo_alias.proofs.places.places_of.Goals as goal

pub staying-requires : goal.staying-requires
staying-requires c = record {
  known = λ v. rw (c.deref.ensures.value, c.deref-2.ensures.value) (known_low c.args.vars.now c.in_ok-numbers.numbers.items c.in_ok-numbers.count c.in_ok-said.said.items c.in_ok-numbers.ensures.numbers c.in_ok-numbers.ensures.count c.in_ok-said.ensures.size v);
}

pub table-requires : goal.table-requires
table-requires c = record {
  known = λ v. rw (c.deref-4.ensures.value, c.deref-5.ensures.value) (known_low c.args.vars.now c.in_ok-numbers.numbers.items c.in_ok-numbers.count c.in_ok-said.said.items c.in_ok-numbers.ensures.numbers c.in_ok-numbers.ensures.count c.in_ok-said.ensures.size v);
}

pub returns-clause-size : goal.returns-clause-size
returns-clause-size c =
    (rw c.deref.ensures.value at c.in_ok-stays.ensures.size) ∙ ap length c.in_ok-numbers.ensures.numbers ∙ all_numbers c.args.vars.now

pub returns-clause-at : goal.returns-clause-at
returns-clause-at c =
    places_are c.args.vars.now c.args.gone.now c.in_ok-numbers.numbers.items c.in_ok-said.said.items c.in_ok-stays.stays.items c.in_ok-new.new.items c.in_ok-variables.variables.items c.in_ok-at.at.items
    c.in_ok-numbers.ensures.numbers c.in_ok-variables.ensures (rw c.in_ok-numbers.ensures.count at c.in_ok-said.ensures.said)
    (rw c.deref.ensures.value at c.in_ok-stays.ensures.size) (rw (c.deref.ensures.value, c.deref-2.ensures.value) at c.in_ok-stays.ensures.stays)
    (rw c.deref-3.ensures.value at c.in_ok-new.ensures)
    (rw c.deref-4.ensures.value at c.in_ok-at.ensures.size) (rw (c.deref-4.ensures.value, c.deref-5.ensures.value, c.deref-6.ensures.value, c.deref-7.ensures.value) at c.in_ok-at.ensures.places)

pub returns-clause-stays : goal.returns-clause-stays
returns-clause-stays c =
    flag_is c.args.vars.now c.args.gone.now c.in_ok-numbers.numbers.items c.in_ok-said.said.items c.in_ok-stays.stays.items c.in_ok-new.new.items c.in_ok-variables.variables.items c.in_ok-at.at.items
    c.in_ok-numbers.ensures.numbers c.in_ok-variables.ensures (rw c.in_ok-numbers.ensures.count at c.in_ok-said.ensures.said)
    (rw c.deref.ensures.value at c.in_ok-stays.ensures.size) (rw (c.deref.ensures.value, c.deref-2.ensures.value) at c.in_ok-stays.ensures.stays)
    (rw c.deref-3.ensures.value at c.in_ok-new.ensures)
    (rw c.deref-4.ensures.value at c.in_ok-at.ensures.size) (rw (c.deref-4.ensures.value, c.deref-5.ensures.value, c.deref-6.ensures.value, c.deref-7.ensures.value) at c.in_ok-at.ensures.places)
