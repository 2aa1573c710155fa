use Rattle.mo_certify.proofs.Rows.{pairs_distinct}
use Rattle.mo_certify.proofs.admissible.admissible.Goals as goal

pub returns-then-not-mark_all-clause-no : goal.returns-then-not-mark_all-clause-no
returns-then-not-mark_all-clause-no c = λ _ right.
    let distinct = pairs_distinct _ _ _ _ c.equations-equations.ensures.sound right in
    c.mark_all.ensures.no c.if-not-mark_all.true (rw c.requires.size distinct)
