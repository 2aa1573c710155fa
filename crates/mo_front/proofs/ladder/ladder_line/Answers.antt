-- Of the model that the text of a ladder gives.
use Rattle.mo_front.proofs.Laddering.{refused_before, refused_given, sums_given}
use Rattle.mo_front.proofs.ladder.ladder_line.Goals as goal

pub returns-in-Ok-clause-sums : goal.returns-in-Ok-clause-sums
returns-in-Ok-clause-sums c = sums_given c.args.n _ _ c.in_ok-path.ensures _ c.in-Ok.ensures.flat c.summary_of.result c.summary_of.ensures.sums

pub returns-in-Ok-clause-refused : goal.returns-in-Ok-clause-refused
returns-in-Ok-clause-refused c = refused_given c.args.n _ _ c.in_ok-path.ensures _ c.in-Ok.ensures.flat c.summary_of.result c.summary_of.ensures.refused

pub returns-clause-refused : goal.returns-clause-refused
returns-clause-refused c = refused_before c.args.n _ _ c.in_ok-path.ensures c.of_texts.result _ c.in-Err.is c.of_texts.ensures.refused
