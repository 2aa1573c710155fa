-- What is said stands behind what was said before.
use Rattle.std.proofs.lemmas.Result.{IfOk-weaker}
use Rattle.mo_mods.proofs.Grouping.{said_put}
use Rattle.mo_mods.proofs.groups.put.Goals as goal

pub returns : goal.returns
returns c =
    IfOk-weaker c.put_under.result _ _
    (λ _ put frames.
    said_put frames c.args.name.now c.args.groups.now c.remove.new.self c.put_under.new.made c.remove.result c.or_none-group.result put.value c.args.said
    c.remove.ensures.value c.remove.ensures.updates (c.or_none-group.ensures frames) (rw put.is at c.with_item.ensures) put.updates)
    c.put_under.ensures
