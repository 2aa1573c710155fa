-- Each table is what its call answers.
use Rattle.mo_equations.proofs.leaves.leaves_of.Goals as goal

pub returns-clause-is : goal.returns-clause-is
returns-clause-is c = record {
  exist = c.requires.exist;
  bound = c.requires.bound;
  tree = c.requires.tree;
  places = c.in_ok-places.ensures;
  whole = c.in_ok-all.ensures.is;
  all = c.in_ok-all.ensures.paths;
  table = c.in_ok-numbers.ensures.is;
  numbers = c.in_ok-numbers.ensures.paths;
  flows = rw (c.in_ok-connectors.ensures.paths, c.in_ok-declared.ensures.paths) at c.in_ok-flows.ensures;
  below = c.in_ok-below.ensures;
}
