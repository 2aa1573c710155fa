use Rattle.mo_certify.proofs.Leastness.{answer_exact, answer_least}
use Rattle.mo_certify.proofs.least.least_holds.Goals as goal

pub returns-clause-exact : goal.returns-clause-exact
returns-clause-exact c = answer_exact _ _ _ _ _ _ _ _ _ c.deref.ensures.value c.deref-2.ensures.value c.deref-3.ensures.value c.show_least.ensures.yes c.show_least.ensures.no

pub returns-clause-least : goal.returns-clause-least
returns-clause-least c = answer_least _ _ _ _ _ _ _ _ _ c.deref.ensures.value c.deref-2.ensures.value c.deref-3.ensures.value c.show_least.ensures.yes c.equations.ensures.sound
