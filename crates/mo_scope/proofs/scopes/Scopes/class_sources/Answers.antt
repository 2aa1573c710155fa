-- The scopes stay.
use Rattle.std.proofs.Common.{map, ap, ◌∙◌}
use Rattle.std.proofs.lemmas.Result.{IfOk-weaker}
use Rattle.mo_scope.specs.Parts.{without_value}
use Rattle.mo_scope.specs.Sights.{source_seen, sources_at}
use Rattle.mo_scope.specs.Worlds.{sources_in}
use Rattle.mo_scope.proofs.Scoped.{if_frames, scoped_from, without_scoped}
use Rattle.mo_scope.proofs.scopes.Scopes.class_sources.Goals as goal

pub returns-clause-exist : goal.returns-clause-exist
returns-clause-exist c =
    let w = c.args.self.now in
    let made = sources_at w c.in_ok-made.made in
    if_frames w c.all_without_value.result (map without_value made) (without_scoped made (scoped_from w (map source_seen c.in_ok-made.made) c.in_ok-made.ensures.exist))
    (IfOk-weaker c.all_without_value.result _ _ (λ all is frames same. is frames ∙ ap (λ F. map without_value (sources_in F (map source_seen c.in_ok-made.made))) same) c.all_without_value.ensures)
