-- A final path is put.
use Rattle.std.proofs.Common.{[], ◌∷◌, ◌++◌, map, ap, sym, ◌∙◌, subst}
use Rattle.std.specs.Prelude.{if◌then◌else◌}
use Rattle.std.proofs.lemmas.Result.{on_ok_weaker}
use Rattle.mo_scope.specs.Held.{path_key}
use Rattle.mo_scope.specs.Sights.{listing_seen}
use Rattle.mo_mods.specs.PathSights.{HasPaths}
use Rattle.mo_mods.proofs.PathTests.{has_more}
use Rattle.mo_mods.proofs.passes.add_final.Goals as goal

pub returns : goal.returns
returns c =
    on_ok_weaker c.add.result
    (λ more paths has.
    subst (HasPaths c.add.new.self)
    (ap (λ last. paths ++ ((if last then (listing_seen c.args.listing.now, map (λ name. name.now) c.args.claim.now.path) ∷ [] else []) ++ [])) (sym c.if-not-claim.false))
    (has_more c.args.finals.now c.add.new.self paths (listing_seen c.args.listing.now) c.into_vec.result.items (map (λ name. name.now) c.args.claim.now.path)
    (c.into_vec.ensures ∙ c.in_ok-key.ensures ∙ ap (λ path. path_key (map (λ name. name.now) path)) c.as_slice.ensures) has more))
    c.add.ensures
