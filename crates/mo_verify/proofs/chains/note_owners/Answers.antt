use Rattle.std.proofs.Common.{◌≡◌, arith}
use Rattle.mo_incidence.specs.Signature.{equations}
use Rattle.mo_verify.specs.Finding.{printed_in}
use Rattle.mo_verify.proofs.Faulty.{taken_none, taken_more}
use Rattle.mo_verify.proofs.Chaining.{free_there, owners_of}
use Rattle.mo_verify.proofs.chains.note_owners.Goals as goal

pub loop-i-init : goal.loop-i-init
loop-i-init c = taken_none c.args.inc.now (printed_in c.args.claims.now) c.args.owner.now c.requires.size c.requires.clear

pub loop-i-preserved : goal.loop-i-preserved
loop-i-preserved c =
    taken_more c.args.inc.now (printed_in c.args.claims.now) _ c.loop-i.i c.loop-i.invariant (c.requires.sizes.known c.loop-i.i (omega arith)).1
    (free_there c.args.inc.now (printed_in c.args.claims.now) _ c.loop-i.i c.loop-i.invariant c.requires.right.apart (omega arith))

pub returns-clause-owners : goal.returns-clause-owners
returns-clause-owners c =
    let all : c.loop-i.i ≡ equations c.args.inc.now = omega arith in
    owners_of c.args.inc.now (printed_in c.args.claims.now) c.loop-i.owner (rw all at c.loop-i.invariant) c.requires.right.apart
