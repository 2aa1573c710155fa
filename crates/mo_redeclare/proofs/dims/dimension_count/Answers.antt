-- They are counted.
use Rattle.std.proofs.Common.{ap, ◌∙◌}
use Rattle.mo_scope.specs.Sizes.{count_sizes}
use Rattle.mo_scope.specs.Worlds.{frames_of}
use Rattle.mo_redeclare.proofs.dims.dimension_count.Goals as goal

pub returns-clause-value : goal.returns-clause-value
returns-clause-value c = (rw c.as_slice.ensures at c.in_ok-count.ensures) (frames_of c.sizes_of.new.s) ∙ ap count_sizes c.in_ok-sizes.ensures.exact
