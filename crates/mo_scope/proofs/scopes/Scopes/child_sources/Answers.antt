-- The scopes of what is made are those of the sources that are asked.
use Rattle.std.proofs.Common.{true, map, ap, ◌∙◌}
use Rattle.std.proofs.lemmas.Result.{IfOk-weaker}
use Rattle.mo_scope.specs.Parts.{sources_said}
use Rattle.mo_scope.specs.Sights.{saying_in}
use Rattle.mo_scope.specs.Worlds.{frames_of, table_in}
use Rattle.mo_scope.proofs.Scoped.{IsReal, sources_said_scoped, said_real, if_frames}
use Rattle.mo_scope.proofs.scopes.Scopes.child_sources.Goals as goal

pub returns-clause-exist : goal.returns-clause-exist
returns-clause-exist c =
    let w = c.args.self.now in
    let T = table_in w in
    let says = map (saying_in (frames_of w)) c.in_ok-sayings.sayings in
    if_frames w c.all_sources_said.result (sources_said true says)
    (sources_said_scoped IsReal T true says (said_real w T c.args.name.now c.args.index.now c.sources_by_name.result.now says c.sources_by_name.ensures.exist c.in_ok-sayings.ensures))
    (IfOk-weaker c.all_sources_said.result _ _ (λ made is frames same. is frames ∙ ap (λ F. sources_said true (map (saying_in F) c.in_ok-sayings.sayings)) same) c.all_sources_said.ensures)
