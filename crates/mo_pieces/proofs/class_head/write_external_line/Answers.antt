-- The parts behind one another.
use Rattle.mo_pieces.proofs.Written.{three_written}
use Rattle.mo_pieces.proofs.class_head.write_external_line.Goals as goal

pub returns : goal.returns
returns c = three_written _ _ _ _ _ _ _ _ c.in_ok-line.ensures c.in_ok-word.ensures c.mark.ensures
