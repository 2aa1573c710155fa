use Rattle.mo_certify.proofs.Marking.{deficiency_singular}
use Rattle.mo_certify.proofs.deficiency.deficit_holds.Goals as goal

pub returns-clause-singular : goal.returns-clause-singular
returns-clause-singular c = λ yes. deficiency_singular _ _ _ (c.holds.ensures.yes yes)
