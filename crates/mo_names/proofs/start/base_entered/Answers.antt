-- A base is entered once.
use Rattle.mo_scope.specs.Sights.{clause_seen}
use Rattle.mo_names.proofs.EnteredBases.{base_kept, base_made}
use Rattle.mo_names.proofs.Later.{grows_refl}
use Rattle.mo_names.proofs.start.base_entered.Goals as goal

pub returns-in-Some-clause-grows : goal.returns-in-Some-clause-grows
returns-in-Some-clause-grows c = grows_refl c.args.s.now

pub returns-in-Some-clause-value : goal.returns-in-Some-clause-value
returns-in-Some-clause-value c = base_kept c.args.s.now c.args.frame.0 c.args.clause.now.at c.args.class.0 c.in-Some.base.0 (clause_seen c.args.clause.now.clause) c.requires.clause c.in-Some.ensures.is

pub keep_base-requires-clause-enters : goal.keep_base-requires-clause-enters
keep_base-requires-clause-enters c = base_made c.args.s.now c.base_of_clause.new.s c.args.frame.0 c.args.clause.now.at c.args.class.0 c.in_ok-base.base.0 (clause_seen c.args.clause.now.clause)
    c.in_ok-base.ensures.grows c.requires.frame c.requires.class c.requires.clause c.in_ok-base.ensures.value
