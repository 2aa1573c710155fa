use Rattle.mo_verify.specs.Finding.{printed_in}
use Rattle.mo_verify.proofs.Lower.{not_least_some}
use Rattle.mo_verify.proofs.chains.unchained.Goals as goal

pub returns-clause-some : goal.returns-clause-some
returns-clause-some c =
    not_least_some c.args.inc.now (printed_in c.args.claims.now) c.requires.sizes c.requires.right c.equations.ensures.sound c.requires.square c.note_owners.new.owner c.note_owners.ensures.owners c.mark_chained.new.marks
    c.in_ok-mark_chained.ensures.yes c.in_ok-mark_chained.ensures.no c.first_unmarked.result c.first_unmarked.ensures.some
