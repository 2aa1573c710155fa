use Rattle.std.proofs.Common.{refl, arith}
use Rattle.mo_verify.specs.Steps.{printed_of}
use Rattle.mo_verify.proofs.Least.{tight, covers, least}
use Rattle.mo_verify.proofs.shown.put_reasons.Goals as goal

pub fill-requires-clause-equations : goal.fill-requires-clause-equations
fill-requires-clause-equations c = (omega (arith, c.requires.made.equations, c.requires.sizes.c_all), omega (arith, c.requires.made.equations, c.requires.sizes.pairs_all))

pub fill-requires-clause-unknowns : goal.fill-requires-clause-unknowns
fill-requires-clause-unknowns c = omega (arith, c.requires.made.unknowns, c.requires.sizes.d_all)

pub reasons-requires-clause-least : goal.reasons-requires-clause-least
reasons-requires-clause-least c =
    rw c.fill.ensures (least c.args.inc.now (printed_of c.args.claims.now) c.requires.sizes c.requires.right c.equations-equations.ensures.sound c.requires.square c.requires.chained)

pub reasons-requires-clause-pairs : goal.reasons-requires-clause-pairs
reasons-requires-clause-pairs c = rw c.fill.ensures (tight c.args.inc.now (printed_of c.args.claims.now) c.requires.sizes c.requires.right)

pub reasons-requires-clause-all : goal.reasons-requires-clause-all
reasons-requires-clause-all c = rw c.fill.ensures (covers c.args.inc.now (printed_of c.args.claims.now) c.requires.sizes c.requires.right)

pub returns : goal.returns
returns c =
    let filled = rw c.fill.ensures at c.reasons.ensures.reasons in
    record { reasons = c.work.inside.reasons; is = refl; are = rw (← c.work.view_is) at filled }
