use Rattle.mo_front.proofs.Structuring.{square_report_holds}
use Rattle.mo_front.proofs.structure.square_report.Goals as goal

pub returns-clause-on : goal.returns-clause-on
returns-clause-on c =
    square_report_holds _ _ c.in_ok-report.report _ c.in_ok-report-2.field-0 _ _ _ _ _ c.in_ok-report.ensures
    c.requires.square c.requires.least c.in_ok-report-2.ensures (record {
      reasons = c.requires.reasons;
      blocks = c.in_ok-report-3.ensures;
      dummies = c.in_ok-dummies.ensures.chosen;
      states = c.in_ok-dummies.ensures.states;
      index = c.in_ok-report-4.ensures;
      freedom = c.in_ok-report-5.ensures;
    })
