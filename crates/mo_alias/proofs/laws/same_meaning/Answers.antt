use Rattle.mo_alias.proofs.Satisfying.{meaning_kept, meaning_reached}
use Rattle.mo_alias.proofs.laws.same_meaning.Goals as goal

pub returns-clause-kept : goal.returns-clause-kept
returns-clause-kept c = meaning_kept

pub returns-clause-reached : goal.returns-clause-reached
returns-clause-reached c = meaning_reached
