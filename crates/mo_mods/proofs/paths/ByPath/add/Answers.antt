-- The list stands behind those that were there.
use Rattle.std.proofs.lemmas.Result.{IfOk-weaker}
use Rattle.mo_mods.specs.PathSights.{having_seen}
use Rattle.mo_mods.proofs.PathTests.{lists_put}
use Rattle.mo_mods.proofs.paths.ByPath.add.Goals as goal

pub returns : goal.returns
returns c =
    IfOk-weaker c.put_by_key.result _ _
    (λ _ put.
    lists_put having_seen (λ k. k.items) c.as_slice.result.now c.args.key.items c.args.self.now.lists c.remove.new.self c.put_by_key.new.made c.remove.result c.or_none-group.result put.value (record { listing = c.args.listing })
    c.as_slice.ensures.value c.remove.ensures.value c.remove.ensures.updates c.or_none-group.ensures (rw put.is at c.with_item.ensures) put.updates)
    c.put_by_key.ensures
