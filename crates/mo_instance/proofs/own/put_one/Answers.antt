-- The paths are put at the end.
use Rattle.std.proofs.Common.{map, ap, ◌∙◌}
use Rattle.std.proofs.lemmas.List.{map-append}
use Rattle.std.proofs.lemmas.Result.{on_ok_weaker}
use Rattle.mo_mods.specs.PathSights.{claim_seen}
use Rattle.mo_instance.proofs.own.put_one.Goals as goal

pub returns : goal.returns
returns c = on_ok_weaker c.append.result (λ is. ap (map claim_seen) is ∙ map-append claim_seen c.args.made.now c.args.one.claims) c.append.ensures.ok
