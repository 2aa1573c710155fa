-- The mention stands behind those that were there.
use Rattle.mo_scope.proofs.Mentioned.{mention_put}
use Rattle.mo_scope.proofs.mentions.Mentions.put.Goals as goal

pub returns : goal.returns
returns c = mention_put c.args.name.now c.args.self.now.by_name c.remove.new.self c.insert.new.self c.remove.result c.or_none-mentions.result c.push.new.self c.args.mention
    c.remove.ensures.value c.remove.ensures.updates c.or_none-mentions.ensures c.in_ok-push.ensures.ok c.in_ok-insert.ensures.updates
