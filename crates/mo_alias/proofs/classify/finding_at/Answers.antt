use Rattle.std.proofs.Common.{◌<◌, arith}
use Rattle.mo_alias.proofs.Growing.{forest_none_next}
use Rattle.mo_alias.proofs.classify.finding_at.Goals as goal

pub returns-in-None-clause-forest : goal.returns-in-None-clause-forest
returns-in-None-clause-forest c =
    let early : c.args.at < 18446744073709551615 = omega (arith, c.requires.at) in
    forest_none_next c.args.said.now c.args.trees.now c.args.at c.requires.forest early c.in-None.is
