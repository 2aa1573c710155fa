use Rattle.std.proofs.Common.{refl}
use Rattle.mo_front.proofs.Structuring.{found_left_out}
use Rattle.mo_front.proofs.structure.left_out.Goals as goal

pub returns : goal.returns
returns c = found_left_out _ _ c.args.deficit c.args._missing refl refl c.requires.deficit c.requires.some
