use Rattle.std.proofs.Common.{◌∙◌, arith}
use Rattle.mo_certify.proofs.Following.{to_zero, shown_by, by_shown}
use Rattle.mo_certify.proofs.least.show_least.Goals as goal

pub returns-clause-yes : goal.returns-clause-yes
returns-clause-yes c = λ e.
    let all = c.requires.offsets.equations_all in
    let to = to_zero _ _ _ _ _ (c.are_reasons.ensures.yes c.if-not-are_reasons.false) (λ i l. c.all_lead_to_zero.ensures.yes e i (omega (arith, l, all))) in
    shown_by _ _ _ _ _ _ (c.first_reasons.ensures.size ∙ c.requires.sizes.0) c.first_reasons.ensures.first c.requires.offsets c.requires.square.0 to

pub returns-clause-no : goal.returns-clause-no
returns-clause-no c = λ e shown.
    let all = c.requires.offsets.equations_all in
    let no = c.all_lead_to_zero.ensures.no e in
    let to = by_shown _ _ _ _ _ _ (c.first_reasons.ensures.size ∙ c.requires.sizes.0) c.first_reasons.ensures.first shown in
    no.2 (to.ends no.0 (omega (arith, no.1, all)))

pub returns-then-not-are_reasons-clause-no : goal.returns-then-not-are_reasons-clause-no
returns-then-not-are_reasons-clause-no c = λ _ shown.
    let no = c.are_reasons.ensures.no c.if-not-are_reasons.true in
    let to = by_shown _ _ _ _ _ _ (c.first_reasons.ensures.size ∙ c.requires.sizes.0) c.first_reasons.ensures.first shown in
    no.3 (to.reasons no.0 no.1 no.2)
