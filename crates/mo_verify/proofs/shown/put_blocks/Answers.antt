use Rattle.std.proofs.Common.{refl}
use Rattle.mo_verify.specs.Steps.{printed_of}
use Rattle.mo_verify.proofs.Least.{tight, covers}
use Rattle.mo_verify.proofs.shown.put_blocks.Goals as goal

pub blocks-requires-clause-tight : goal.blocks-requires-clause-tight
blocks-requires-clause-tight c = tight c.args.inc.now (printed_of c.args.claims.now) c.requires.sizes c.requires.right

pub blocks-requires-clause-all : goal.blocks-requires-clause-all
blocks-requires-clause-all c = covers c.args.inc.now (printed_of c.args.claims.now) c.requires.sizes c.requires.right

pub returns : goal.returns
returns c = record { blocks = c.in_ok-report.field-0; is = refl; are = c.in_ok-report.ensures }
