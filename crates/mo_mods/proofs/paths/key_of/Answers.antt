-- One more name.
use Rattle.std.proofs.Common.{◌∙◌}
use Rattle.mo_scope.proofs.Keys.{path_key_more}
use Rattle.mo_mods.proofs.paths.key_of.Goals as goal

pub loop-name-preserved : goal.loop-name-preserved
loop-name-preserved c = c.in_ok-write_name.ensures
    ∙ path_key_more (λ name. name.now) c.args.path.now c.loop-name.name-index c.name-item.result c.loop-name.key c.loop-name-test.true c.name-item.is c.loop-name.invariant
