use Rattle.std.proofs.Common.{arith}
use Rattle.mo_match.proofs.Trees.{tree_room, reach_tree, reach_marked, reach_grows, grows_none, owner_facts, entry_uses, entry_free, entry_passed}
use Rattle.mo_match.proofs.graph.Graph.visit.Goals as goal

pub returns-then-holder-eq0-clause-free : goal.returns-then-holder-eq0-clause-free
returns-then-holder-eq0-clause-free g c =
    let some = rw c.at-equation.ensures at c.in-Some.ensures.some in
    entry_free _ _ _ _ _ c.requires.k some c.in-Some.ensures.known (rw c.holder_of-holder.ensures at c.if-holder-eq0.true)

pub reach-grown-requires-clause-x : goal.reach-grown-requires-clause-x
reach-grown-requires-clause-x g c =
    let known = c.in-Some.ensures.known in
    let held = owner_facts c.in-Some.unknown c.requires.matching known.0 known.1 (rw c.holder_of-holder.ensures at c.if-holder-eq0.false) in
    rw c.holder_of-holder.ensures (omega (arith, held.0, c.requires.tree.mark_all))

pub reach-grown-requires-clause-room : goal.reach-grown-requires-clause-room
reach-grown-requires-clause-room g c = rw c.holder_of-holder.ensures (λ unmarked.
    let known = c.in-Some.ensures.known in
    let held = owner_facts c.in-Some.unknown c.requires.matching known.0 known.1 (rw c.holder_of-holder.ensures at c.if-holder-eq0.false) in
    let room = tree_room _ _ _ _ _ _ _ _ c.requires.tree _ held.0 unmarked in
    (omega (arith, c.requires.tree.queue_all), omega (arith, c.requires.tree.parent_all)))

pub returns-clause-tree : goal.returns-clause-tree
returns-clause-tree g c =
    let known = c.in-Some.ensures.known in
    let some = rw c.at-equation.ensures at c.in-Some.ensures.some in
    let held = owner_facts c.in-Some.unknown c.requires.matching known.0 known.1 (rw c.holder_of-holder.ensures at c.if-holder-eq0.false) in
    reach_tree c.requires.tree (rw c.holder_of-holder.ensures at c.reach-grown.ensures) held.0 c.requires.head.1 c.requires.head.0 (rw held.1 (omega (arith, known.0)))
    (rw held.1 (entry_uses _ c.args.matching.now.owner.items _ _ _ c.requires.k some))

pub returns-clause-grows : goal.returns-clause-grows
returns-clause-grows g c = reach_grows (grows_none _ _ _) c.reach-grown.ensures

pub returns-clause-passed : goal.returns-clause-passed
returns-clause-passed g c =
    let known = c.in-Some.ensures.known in
    let some = rw c.at-equation.ensures at c.in-Some.ensures.some in
    let has = rw c.holder_of-holder.ensures at c.if-holder-eq0.false in
    let held = owner_facts c.in-Some.unknown c.requires.matching known.0 known.1 has in
    entry_passed _ _ _ _ _ c.requires.k some _ has (reach_marked (rw c.holder_of-holder.ensures at c.reach-grown.ensures) (omega (arith, held.0, c.requires.tree.mark_all)))
