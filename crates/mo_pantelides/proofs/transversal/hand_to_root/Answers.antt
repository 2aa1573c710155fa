use Rattle.std.proofs.Common.{refl, arith}
use Rattle.mo_pantelides.proofs.Fixing.{root_handed}
use Rattle.mo_pantelides.proofs.transversal.hand_to_root.Goals as goal

pub hand_on-requires-clause-matching : goal.hand_on-requires-clause-matching
hand_on-requires-clause-matching g c = rw c.of_tight-graph.ensures c.requires.found.fixed.matching

pub hand_on-requires-clause-tree : goal.hand_on-requires-clause-tree
hand_on-requires-clause-tree g c = rw c.of_tight-graph.ensures c.requires.found.tree

pub hand_on-requires-clause-start : goal.hand_on-requires-clause-start
hand_on-requires-clause-start g c = (omega arith, c.requires.found.place_in)

pub hand_on-requires-clause-bare : goal.hand_on-requires-clause-bare
hand_on-requires-clause-bare g c = rw c.requires.found.first c.requires.found.bare

pub hand_on-requires-clause-free : goal.hand_on-requires-clause-free
hand_on-requires-clause-free g c = rw c.of_tight-graph.ensures c.requires.found.free_there

pub hand_on-requires-clause-few : goal.hand_on-requires-clause-few
hand_on-requires-clause-few g c = rw c.of_tight-graph.ensures c.equations-equations.ensures.sound.few_equations

pub returns-clause-fixed : goal.returns-clause-fixed
returns-clause-fixed g c =
    let found = c.requires.found in
    let handed = c.hand_on.ensures in
    let match = rw c.of_tight-graph.ensures at handed.matching in
    root_handed _ _ _ _ _ _ _ _ _ c.equations-equations.ensures.sound c.requires.open found.fixed c.requires.root found.unfixed _ _ refl match
    (rw found.first at handed.root) handed.kept (rw found.first at handed.bare)

pub returns-clause-gained : goal.returns-clause-gained
returns-clause-gained g c = rw c.requires.found.first at c.hand_on.ensures.root

pub returns-clause-least : goal.returns-clause-least
returns-clause-least g c =
    let found = c.requires.found in
    found.low _ (rw found.first at c.hand_on.ensures.handed)
