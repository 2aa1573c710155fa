-- The scopes of what is found are those of the sources that are asked.
use Rattle.std.proofs.Common.{map, ap, ◌∙◌}
use Rattle.std.proofs.lemmas.Result.{IfOk-weaker}
use Rattle.mo_scope.specs.Parts.{redeclarations_in}
use Rattle.mo_scope.specs.Sights.{saying_in}
use Rattle.mo_scope.specs.Worlds.{frames_of, table_in}
use Rattle.mo_scope.proofs.Scoped.{IsReal, redeclarations_in_scoped, said_real, if_redeclarations}
use Rattle.mo_scope.proofs.scopes.Scopes.redeclarations.Goals as goal

pub returns-clause-exist : goal.returns-clause-exist
returns-clause-exist c =
    let w = c.args.self.now in
    let T = table_in w in
    let says = map (saying_in (frames_of w)) c.in_ok-sayings.sayings in
    if_redeclarations w c.redeclarations_among.result (redeclarations_in says)
    (redeclarations_in_scoped IsReal T says (said_real w T c.args.name.now c.args.index.now c.sources_by_name.result.now says c.sources_by_name.ensures.exist c.in_ok-sayings.ensures))
    (IfOk-weaker c.redeclarations_among.result _ _ (λ found is frames same. is frames ∙ ap (λ F. redeclarations_in (map (saying_in F) c.in_ok-sayings.sayings)) same) c.redeclarations_among.ensures)
