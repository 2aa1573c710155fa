use Rattle.std.proofs.Common.{refl}
use Rattle.mo_verify.specs.Steps.{printed_of}
use Rattle.mo_verify.proofs.Least.{tight, covers}
use Rattle.mo_verify.proofs.shown.put_dummies.Goals as goal

pub dummies-requires-clause-tight : goal.dummies-requires-clause-tight
dummies-requires-clause-tight c = tight c.args.inc.now (printed_of c.args.claims.now) c.requires.sizes c.requires.right

pub dummies-requires-clause-all : goal.dummies-requires-clause-all
dummies-requires-clause-all c = covers c.args.inc.now (printed_of c.args.claims.now) c.requires.sizes c.requires.right

pub returns : goal.returns
returns c = record {
  dummies = c.in_ok-dummies.dummies;
  index = c.in_ok-report.field-0;
  freedom = c.in_ok-report-2.field-0;
  is = refl;
  chosen = c.in_ok-dummies.ensures.chosen;
  states = c.in_ok-dummies.ensures.states;
  index_is = c.in_ok-report.ensures;
  freedom_is = c.in_ok-report-2.ensures;
  counted = c.in_ok-dummies.ensures.states_count;
}
