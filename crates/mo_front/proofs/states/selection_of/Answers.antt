use Rattle.std.proofs.Common.{sym, ◌∙◌}
use Rattle.mo_front.specs.Emitted.{no_selection, selection}
use Rattle.mo_front.proofs.states.selection_of.Goals as goal

pub returns-then-is_singular : goal.returns-then-is_singular
returns-then-is_singular c = no_selection (sym c.is_singular.ensures ∙ c.if-is_singular.true)

pub returns-in_ok-select-in-Some : goal.returns-in_ok-select-in-Some
returns-in_ok-select-in-Some c =
    selection c.in-Some.offsets (sym c.is_singular.ensures ∙ c.if-is_singular.false) c.in-Some.is (record {
      stages = rw c.requires.incidence at c.in_ok-select-in-Some.ensures.stages;
      states = rw c.requires.incidence at c.in_ok-select-in-Some.ensures.states;
    })
