use Rattle.std.proofs.Common.{◌∙◌, arith}
use Rattle.mo_match.proofs.Extending.{marked_after, tree_after, closed_after}
use Rattle.mo_match.proofs.graph.Graph.extend.Goals as goal

pub returns-in-Some-clause-closed : goal.returns-in-Some-clause-closed
returns-in-Some-clause-closed g c =
    let found = c.search-outcome.ensures in
    rw c.unmark.ensures.kept.0 (closed_after _ c.args.matching.now.pairs.items c.args.matching.now.owner.items c.hand_on.new.matching.pairs.items c.hand_on.new.matching.owner.items
    c.args.search.now.queue.items c.args.search.now.parent.items c.args.search.now.mark.items _ _ _
    c.requires.sound c.requires.matching c.hand_on.ensures.matching c.requires.tree found.grows.before c.hand_on.ensures.dead
    (marked_after _ _ _ _ _ _ _ _ found.tree (omega (arith, found.first.0)) _ c.unmark.ensures.size c.unmark.ensures.unmarked)
    c.requires.closed)

pub returns-in-Some-clause-gained : goal.returns-in-Some-clause-gained
returns-in-Some-clause-gained g c = λ _. rw c.search-outcome.ensures.first.1 at c.hand_on.ensures.root

pub returns-in-Some-clause-tree : goal.returns-in-Some-clause-tree
returns-in-Some-clause-tree g c =
    let found = c.search-outcome.ensures in
    rw (c.unmark.ensures.kept.0, c.unmark.ensures.kept.1)
    (tree_after _ _ _ _ _ _ _ _ found.tree (omega (arith, found.first.0)) _ c.unmark.ensures.size c.unmark.ensures.unmarked _ c.hand_on.ensures.dead)

pub returns-in-Some-clause-marked : goal.returns-in-Some-clause-marked
returns-in-Some-clause-marked g c = λ x xm some.
    let found = c.search-outcome.ensures in
    let there = c.requires.tree.listed x xm some in
    let place = found.grows.before there.0 there.1 ∙ there.2 in
    let kept = marked_after _ _ _ _ _ _ _ _ found.tree (omega (arith, found.first.0)) _ c.unmark.ensures.size c.unmark.ensures.unmarked there.0 there.1 in
    rw place at kept

pub returns-in-Some-clause-bare : goal.returns-in-Some-clause-bare
returns-in-Some-clause-bare g c = rw c.search-outcome.ensures.first.1 at c.hand_on.ensures.bare
