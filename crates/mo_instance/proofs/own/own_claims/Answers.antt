-- Those of the sources, then those of the class.
use Rattle.std.proofs.Common.{◌++◌, List, flat_map, map, ap, ◌∙◌}
use Rattle.mo_mods.specs.declared.asked.Claim.{Claim as ClaimAt}
use Rattle.mo_mods.specs.PathSights.{claim_seen}
use Rattle.mo_scope.specs.Arguments.{Claim}
use Rattle.mo_scope.specs.Frames.{class_of, sources_of}
use Rattle.mo_scope.specs.Rows.{row_at}
use Rattle.mo_scope.specs.Worlds.{frame_at, table_in}
use Rattle.mo_instance.specs.Passes.{short_claims, source_claims}
use Rattle.mo_instance.proofs.own.own_claims.Goals as goal

pub returns : goal.returns
returns c =
    let T = table_in c.args.s.now in
    let f = frame_at c.args.s.now c.args.frame.0 in
    c.in_ok-put_class.ensures
    ∙ ap (λ (ys : List Claim). ys ++ short_claims c.args.place (row_at T (class_of f)))
    (c.in_ok-put_sources.ensures ∙ ap (λ (xs : List ClaimAt). map claim_seen xs ++ flat_map (source_claims T c.args.place) (sources_of f)) c.new-made.ensures)
