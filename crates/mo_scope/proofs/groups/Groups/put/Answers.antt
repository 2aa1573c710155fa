-- The part stands behind those that were there.
use Rattle.mo_scope.proofs.Keys.{group_put}
use Rattle.mo_scope.proofs.groups.Groups.put.Goals as goal

pub returns : goal.returns
returns c = group_put (λ k. k.items) c.as_slice.result.now c.args.key.items c.args.self.now.groups c.remove.new.self c.insert.new.self c.remove.result c.or_none-group.result c.push.new.self c.args.part
    c.as_slice.ensures.value c.remove.ensures.value c.remove.ensures.updates c.or_none-group.ensures c.in_ok-push.ensures.ok c.in_ok-insert.ensures.updates
