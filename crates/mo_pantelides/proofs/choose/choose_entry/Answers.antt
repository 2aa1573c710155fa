use Rattle.mo_pantelides.proofs.Choosing.{chosen_next}
use Rattle.mo_pantelides.proofs.choose.choose_entry.Goals as goal

pub returns-in-Some : goal.returns-in-Some
returns-in-Some c =
    let found = c.in-Some.ensures in
    chosen_next _ _ _ _ _ _ _ _ c.requires.chosen c.requires.k c.requires.n _ found.some.0 found.some.1 found.only _ c.consider.ensures
