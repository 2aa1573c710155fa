use Rattle.std.proofs.Common.{◌∙◌, arith}
use Rattle.mo_match.proofs.Trees.{unused_back, entry_back, entry_free}
use Rattle.mo_pantelides.proofs.Looking.{row_few}
use Rattle.mo_pantelides.proofs.Seeking.{x_in, tree_looked, seek_unused, seek_own, seek_free, seek_reached, holder_in, holder_room, reached_looked, entry_looked}
use Rattle.mo_pantelides.proofs.seek.look.Goals as goal

pub overflow_add-k : goal.overflow_add-k
overflow_add-k g c =
    let inside = x_in _ _ _ _ _ _ _ _ _ _ _ _ _ _ c.equations-equations.ensures.sound c.requires.open c.requires.root c.requires.seeking _ c.requires.place in
    let few = row_few _ _ c.equations-equations.ensures.sound inside in
    omega (arith, few, c.requires.entry)

pub returns-in-None-clause-on : goal.returns-in-None-clause-on
returns-in-None-clause-on g c =
    let unused = rw (c.of_tight-graph.ensures, c.at-equation.ensures) at c.in-None.ensures.none in
    rw (c.set_mark.ensures.kept.0, c.set_mark.ensures.kept.1, c.set_mark.ensures.mark, c.at-equation.ensures)
    (seek_unused _ _ _ _ _ _ _ _ _ _ _ _ _ _ c.equations-equations.ensures.sound c.requires.open c.requires.root c.requires.seeking _ c.requires.place _ c.requires.k c.requires.entry (unused_back _ _ _ unused))

pub returns-in-None-clause-looked : goal.returns-in-None-clause-looked
returns-in-None-clause-looked g c =
    rw (c.set_mark.ensures.mark, c.at-equation.ensures)
    (entry_looked _ _ _ _ _ _ _ _ _ _ _ _ _ _ c.equations-equations.ensures.sound c.requires.open c.requires.root c.requires.seeking _ c.requires.place _ c.requires.k c.requires.entry)

pub returns-then-holder-eq0-clause-found : goal.returns-then-holder-eq0-clause-found
returns-then-holder-eq0-clause-found g c =
    let some = rw (c.of_tight-graph.ensures, c.at-equation.ensures) at c.in-Some.ensures.some in
    let known = rw c.of_tight-graph.ensures at c.in-Some.ensures.known in
    rw (c.set_mark.ensures.kept.0, c.set_mark.ensures.kept.1, c.set_mark.ensures.mark, c.at-equation.ensures)
    (seek_free _ _ _ _ _ _ _ _ _ _ _ _ _ _ c.equations-equations.ensures.sound c.requires.open c.requires.root c.requires.seeking _ c.requires.place _ c.requires.k c.requires.entry _
    (entry_free _ _ _ _ _ c.requires.entry some known (rw c.holder_of-holder.ensures at c.if-holder-eq0.true)) (entry_back _ _ _ _ some).0)

pub returns-then-holder-eq0-clause-looked : goal.returns-then-holder-eq0-clause-looked
returns-then-holder-eq0-clause-looked g c =
    rw (c.set_mark.ensures.mark, c.at-equation.ensures)
    (entry_looked _ _ _ _ _ _ _ _ _ _ _ _ _ _ c.equations-equations.ensures.sound c.requires.open c.requires.root c.requires.seeking _ c.requires.place _ c.requires.k c.requires.entry)

pub returns-then-holder-equation-clause-on : goal.returns-then-holder-equation-clause-on
returns-then-holder-equation-clause-on g c =
    let some = rw (c.of_tight-graph.ensures, c.at-equation.ensures) at c.in-Some.ensures.some in
    let known = rw c.of_tight-graph.ensures at c.in-Some.ensures.known in
    let own = rw (c.holder_of-holder.ensures, c.at-equation.ensures) at c.if-holder-equation.true in
    rw (c.set_mark.ensures.kept.0, c.set_mark.ensures.kept.1, c.set_mark.ensures.mark, c.at-equation.ensures)
    (seek_own _ _ _ _ _ _ _ _ _ _ _ _ _ _ c.equations-equations.ensures.sound c.requires.open c.requires.root c.requires.seeking _ c.requires.place _ c.requires.k c.requires.entry _
    (entry_back _ _ _ _ some).0 known (omega (arith, own)))

pub returns-then-holder-equation-clause-looked : goal.returns-then-holder-equation-clause-looked
returns-then-holder-equation-clause-looked g c =
    rw (c.set_mark.ensures.mark, c.at-equation.ensures)
    (entry_looked _ _ _ _ _ _ _ _ _ _ _ _ _ _ c.equations-equations.ensures.sound c.requires.open c.requires.root c.requires.seeking _ c.requires.place _ c.requires.k c.requires.entry)

pub meet-next-requires-clause-x : goal.meet-next-requires-clause-x
meet-next-requires-clause-x g c =
    let some = rw (c.of_tight-graph.ensures, c.at-equation.ensures) at c.in-Some.ensures.some in
    let known = rw c.of_tight-graph.ensures at c.in-Some.ensures.known in
    let entry = entry_back _ _ _ _ some in
    let has = rw c.holder_of-holder.ensures at c.if-holder-eq0.false in
    let inside = holder_in _ _ _ _ _ _ _ _ _ _ _ _ _ _ c.equations-equations.ensures.sound c.requires.open c.requires.root c.requires.seeking _ c.requires.place _ c.requires.k c.requires.entry
    _ entry.0 known entry.1 has in
    let tree = tree_looked _ _ _ _ _ _ _ _ _ _ _ _ _ _ c.equations-equations.ensures.sound c.requires.open c.requires.root c.requires.seeking _ c.requires.place _ c.requires.k c.requires.entry in
    rw (c.set_mark.ensures.mark, c.at-equation.ensures, c.holder_of-holder.ensures) (omega (arith, inside, tree.mark_all))

pub meet-next-requires-clause-room : goal.meet-next-requires-clause-room
meet-next-requires-clause-room g c = rw (c.set_mark.ensures.kept.0, c.set_mark.ensures.kept.1, c.set_mark.ensures.mark, c.at-equation.ensures, c.holder_of-holder.ensures) (λ unmarked.
    let some = rw (c.of_tight-graph.ensures, c.at-equation.ensures) at c.in-Some.ensures.some in
    let known = rw c.of_tight-graph.ensures at c.in-Some.ensures.known in
    let entry = entry_back _ _ _ _ some in
    let has = rw c.holder_of-holder.ensures at c.if-holder-eq0.false in
    let room = holder_room _ _ _ _ _ _ _ _ _ _ _ _ _ _ c.equations-equations.ensures.sound c.requires.open c.requires.root c.requires.seeking _ c.requires.place _ c.requires.k c.requires.entry
    _ entry.0 known entry.1 has unmarked in
    (omega (arith, room, c.requires.seeking.tree.queue_all), omega (arith, room, c.requires.seeking.tree.parent_all)))

pub returns-clause-on : goal.returns-clause-on
returns-clause-on g c =
    let some = rw (c.of_tight-graph.ensures, c.at-equation.ensures) at c.in-Some.ensures.some in
    let known = rw c.of_tight-graph.ensures at c.in-Some.ensures.known in
    let entry = entry_back _ _ _ _ some in
    let has = rw c.holder_of-holder.ensures at c.if-holder-eq0.false in
    let met = c.meet-next.ensures in
    let reaches = rw (c.set_mark.ensures.kept.0, c.set_mark.ensures.kept.1, c.set_mark.ensures.mark, c.at-equation.ensures, c.holder_of-holder.ensures) at met.reaches in
    let loose = rw (c.set_mark.ensures.mark, c.at-equation.ensures, c.holder_of-holder.ensures) at met.loose in
    let row = rw (c.set_mark.ensures.mark, c.at-equation.ensures, c.holder_of-holder.ensures) at met.row in
    rw met.head (seek_reached _ _ _ _ _ _ _ _ _ _ _ _ _ _ c.equations-equations.ensures.sound c.requires.open c.requires.root c.requires.seeking _ c.requires.place _ c.requires.k c.requires.entry
    _ entry.0 known entry.1 has _ _ _ _ _ reaches loose row)

pub returns-clause-looked : goal.returns-clause-looked
returns-clause-looked g c =
    let some = rw (c.of_tight-graph.ensures, c.at-equation.ensures) at c.in-Some.ensures.some in
    let known = rw c.of_tight-graph.ensures at c.in-Some.ensures.known in
    let entry = entry_back _ _ _ _ some in
    let has = rw c.holder_of-holder.ensures at c.if-holder-eq0.false in
    let met = rw (c.set_mark.ensures.kept.0, c.set_mark.ensures.kept.1, c.set_mark.ensures.mark, c.at-equation.ensures, c.holder_of-holder.ensures) at c.meet-next.ensures.reaches in
    reached_looked _ _ _ _ _ _ _ _ _ _ _ _ _ _ c.equations-equations.ensures.sound c.requires.open c.requires.root c.requires.seeking _ c.requires.place _ c.requires.k c.requires.entry
    _ entry.0 known entry.1 has _ _ _ _ met
    ∙ entry_looked _ _ _ _ _ _ _ _ _ _ _ _ _ _ c.equations-equations.ensures.sound c.requires.open c.requires.root c.requires.seeking _ c.requires.place _ c.requires.k c.requires.entry
