use Rattle.std.proofs.Common.{arith}
use Rattle.mo_incidence.specs.Signature.{equations}
use Rattle.mo_verify.specs.Finding.{printed_in}
use Rattle.mo_verify.proofs.Chaining.{marked_chain, unmarked_none}
use Rattle.mo_verify.proofs.chains.mark_chained.Goals as goal

pub returns-clause-yes : goal.returns-clause-yes
returns-clause-yes c = marked_chain c.args.inc.now (printed_in c.args.claims.now) c.heads.marks c.heads.queue.items c.heads.head (equations c.args.inc.now) c.heads.invariant

pub returns-clause-no : goal.returns-clause-no
returns-clause-no c = unmarked_none c.args.inc.now (printed_in c.args.claims.now) c.heads.marks c.heads.queue.items c.heads.head c.heads.invariant (omega arith)
