-- The paths of what the source speaks of.
use Rattle.std.proofs.Common.{◌++◌, List, flat_map, map, ap, ◌∙◌}
use Rattle.std.proofs.lemmas.Result.{on_ok_weaker}
use Rattle.mo_mods.specs.PathSights.{claim_seen}
use Rattle.mo_instance.specs.steps.Speeches.{Speech}
use Rattle.mo_instance.proofs.own.put_spoken.Goals as goal

pub returns : goal.returns
returns c =
    on_ok_weaker c.put_all.result
    (λ is frames. is ∙ ap (λ (speeches : List Speech). map claim_seen c.args.made.now ++ flat_map (λ (one : Speech). one.claims) speeches) (c.in_ok-spoken.ensures frames))
    c.put_all.ensures
