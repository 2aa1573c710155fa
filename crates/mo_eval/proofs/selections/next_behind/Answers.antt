use Rattle.std.proofs.Common.{◌≡◌, Ok, sym, ◌∙◌}
use Rattle.mo_typing.specs.Subscripts.{subscripts}
use Rattle.mo_names.proofs.Later.{grows_refl}
use Rattle.mo_eval.proofs.selections.next_behind.Goals as goal

pub returns-in-Some-clause-exact : goal.returns-in-Some-clause-exact
returns-in-Some-clause-exact c = λ f.
    let inside : subscripts c.args.selection.now.dims c.args.selection.now.subs ≡ Ok c.in_ok-answer.field-0 = rw (c.as_slice.ensures, c.as_slice-2.ensures) at (sym c.within.ensures ∙ c.in_ok-answer.ensures) in
    rw (inside, c.in-Some.is) (c.next_selected.ensures.exact f)

pub returns-in_err-answer-clause-grows : goal.returns-in_err-answer-clause-grows
returns-in_err-answer-clause-grows c = grows_refl _

pub returns-in-None-clause-grows : goal.returns-in-None-clause-grows
returns-in-None-clause-grows c = grows_refl _
