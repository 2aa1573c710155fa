use Rattle.mo_typing.specs.Dims.{size}
use Rattle.mo_typing.proofs.Lists.{all_gathered}
use Rattle.mo_typing.proofs.extents.sizes_of.Goals as goal

pub loop-n-init : goal.loop-n-init
loop-n-init c = rw c.new-made.ensures (all_gathered size c.args.sizes.now)
