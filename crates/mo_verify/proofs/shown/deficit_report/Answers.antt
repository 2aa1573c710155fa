use Rattle.mo_verify.proofs.Showing.{deficit_shown}
use Rattle.mo_verify.proofs.shown.deficit_report.Goals as goal

pub returns : goal.returns
returns c = deficit_shown c.args._m.now c.args._inc.now c.requires.model c.args.report.now c.requires.blank c.args.deficit c.args._missing c.requires.deficit c.requires.some
