-- A value, and the paths of the nested list.
use Rattle.std.proofs.Common.{map, ap, ◌∙◌}
use Rattle.std.proofs.lemmas.Result.{on_ok_weaker}
use Rattle.mo_syntax.specs.declared.class.Give.{out-Give}
use Rattle.mo_syntax.specs.declared.class.Give.TheVariants.{outs-Modify}
use Rattle.mo_mods.specs.PathSights.{claim_seen}
use Rattle.mo_mods.proofs.Claims.{claims_put}
use Rattle.mo_mods.proofs.asked.+claiming.Goals as goal

pub put_claims-returns-in_ok-put_value-in-Modify : goal.put_claims-returns-in_ok-put_value-in-Modify
put_claims-returns-in_ok-put_value-in-Modify t c =
    on_ok_weaker c.put_nested.result
    (claims_put (map claim_seen c.args.made.now) (map claim_seen c.put_value.new.made) (map claim_seen c.put_nested.new.made) c.args.give.now (map (λ name. name.now) c.args.path.now) c.args.place c.args.last c.is_some.result
    c.in-Modify.mods c.in-Modify.value c.as_slice.result.now (ap out-Give c.in-Modify.is ∙ outs-Modify _ _) c.is_some.ensures c.as_slice.ensures c.in_ok-put_value-in-Modify.ensures)
    c.put_nested.ensures
