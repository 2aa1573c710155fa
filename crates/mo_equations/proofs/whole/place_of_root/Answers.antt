-- The place of the first instance.
use Rattle.std.proofs.Common.{refl, arith}
use Rattle.mo_equations.proofs.Lists.{empty_list}
use Rattle.mo_equations.proofs.whole.place_of_root.Goals as goal

pub returns-in-empty : goal.returns-in-empty
returns-in-empty c = λ world. rw (empty_list c.args.instances.now (omega (arith, c.in-empty.len_below))) refl
