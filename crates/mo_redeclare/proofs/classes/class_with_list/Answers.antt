-- The one source has the scope of the redeclaration.
use Rattle.mo_redeclare.proofs.Later.{scopes_exist}
use Rattle.mo_names.proofs.Later.{grows_refl}
use Rattle.mo_redeclare.proofs.classes.class_with_list.Goals as goal

pub enter-requires-clause-sources : goal.enter-requires-clause-sources
enter-requires-clause-sources c =
    scopes_exist c.args.s.now c.args.redeclaration.now.source.scope.frame c.in_ok-sources.sources c.in_ok-sources.ensures.scopes c.requires.scope

pub returns-in_err-sources-clause-grows : goal.returns-in_err-sources-clause-grows
returns-in_err-sources-clause-grows c = grows_refl _
