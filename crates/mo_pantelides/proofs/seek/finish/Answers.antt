use Rattle.std.proofs.Common.{refl, arith}
use Rattle.mo_pantelides.proofs.Looking.{looked_whole}
use Rattle.mo_pantelides.proofs.Seeking.{x_in, turn_open, seek_ended, seek_fixed, u_some, u_known}
use Rattle.mo_pantelides.proofs.seek.finish.Goals as goal

pub take-requires-clause-equation : goal.take-requires-clause-equation
take-requires-clause-equation g c =
    let inside = x_in _ _ _ _ _ _ _ _ _ _ _ _ _ _ c.equations-equations.ensures.sound c.requires.open c.requires.root c.requires.seeking _ c.requires.place in
    rw c.at-equation.ensures (omega (arith, inside, c.requires.seeking.fixed.matching.equations_all), omega (arith, inside, c.requires.seeking.fixed.fixed_all))

pub take-requires-clause-known : goal.take-requires-clause-known
take-requires-clause-known g c =
    let known = u_known _ _ _ _ _ _ _ _ _ _ _ _ _ _ c.equations-equations.ensures.sound c.requires.open c.requires.root c.requires.seeking _ c.requires.place c.requires.whole c.if-loose-tail.true _ refl in
    rw c.at-equation.ensures (omega (arith, known, c.requires.seeking.fixed.matching.unknowns_all), omega (arith, known), omega (arith, known, c.requires.seeking.fixed.left_all))

pub returns-then-loose-tail-clause-on : goal.returns-then-loose-tail-clause-on
returns-then-loose-tail-clause-on g c =
    rw (c.take.ensures.left, c.take.ensures.pairs, c.take.ensures.owner, c.take.ensures.fixed, c.set_mark.ensures.kept.0, c.set_mark.ensures.kept.1, c.set_mark.ensures.mark, c.at-equation.ensures)
    (seek_fixed _ _ _ _ _ _ _ _ _ _ _ _ _ _ c.equations-equations.ensures.sound c.requires.open c.requires.root c.requires.seeking _ c.requires.place c.requires.whole c.if-loose-tail.true _ refl)

pub returns-then-loose-tail-clause-looked : goal.returns-then-loose-tail-clause-looked
returns-then-loose-tail-clause-looked g c =
    let inside = x_in _ _ _ _ _ _ _ _ _ _ _ _ _ _ c.equations-equations.ensures.sound c.requires.open c.requires.root c.requires.seeking _ c.requires.place in
    let some = u_some _ _ _ _ _ _ _ _ _ _ _ _ _ _ c.equations-equations.ensures.sound c.requires.open c.requires.root c.requires.seeking _ c.requires.place c.requires.whole c.if-loose-tail.true _ refl in
    rw (c.take.ensures.fixed, c.set_mark.ensures.mark, c.at-equation.ensures) (looked_whole _ _ _ _ _ (omega (arith, inside, c.requires.seeking.fixed.fixed_all)) (omega (arith, inside, c.requires.seeking.tree.mark_all))
    (turn_open _ _ _ _ _ _ _ _ _ _ _ _ _ _ c.equations-equations.ensures.sound c.requires.open c.requires.root c.requires.seeking _ c.requires.place) some c.requires.whole)

pub returns-clause-on : goal.returns-clause-on
returns-clause-on g c =
    seek_ended _ _ _ _ _ _ _ _ _ _ _ _ _ _ c.equations-equations.ensures.sound c.requires.open c.requires.root c.requires.seeking _ c.requires.place c.requires.whole (omega (arith, c.if-loose-tail.false))
