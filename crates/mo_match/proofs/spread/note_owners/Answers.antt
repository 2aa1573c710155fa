use Rattle.std.proofs.Common.{◌<◌, ◌∙◌, arith}
use Rattle.mo_incidence.specs.Signature.{equations}
use Rattle.mo_match.proofs.SpreadLemmas.{pair_in, noted_next, noted_done}
use Rattle.mo_match.proofs.spread.note_owners.Goals as goal

pub bounds-owner-pairs : goal.bounds-owner-pairs
bounds-owner-pairs c =
    let sound = c.equations-equations.ensures.sound in
    let size = c.loop-i.auto.owner ∙ c.clear.auto.list ∙ c.requires.sizes.1 in
    let inside : c.loop-i.i < equations c.args.inc.now = omega (arith, c.requires.sizes.0) in
    omega (arith, pair_in _ _ _ _ sound c.requires.assigned c.requires.all size c.loop-i.invariant c.loop-i.i inside)

pub loop-i-preserved : goal.loop-i-preserved
loop-i-preserved c =
    let sound = c.equations-equations.ensures.sound in
    let size = c.loop-i.auto.owner ∙ c.clear.auto.list ∙ c.requires.sizes.1 in
    let inside : c.loop-i.i < equations c.args.inc.now = omega (arith, c.requires.sizes.0) in
    noted_next _ _ _ _ sound c.requires.assigned c.requires.all size c.loop-i.invariant inside

pub returns : goal.returns
returns c =
    let sound = c.equations-equations.ensures.sound in
    let size = c.loop-i.auto.owner ∙ c.clear.auto.list ∙ c.requires.sizes.1 in
    noted_done _ _ _ c.loop-i.i sound c.requires.assigned c.requires.all size c.loop-i.invariant c.requires.sizes.0 (omega (arith, c.requires.sizes.0))
