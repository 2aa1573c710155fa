-- The parts behind one another.
use Rattle.mo_pieces.proofs.Written.{four_written}
use Rattle.mo_unparse.proofs.simple_body.write_enumeration.Goals as goal

pub returns : goal.returns
returns c = four_written _ _ _ _ _ _ _ _ _ _ c.in_ok-name.ensures c.in_ok-spaced_mark.ensures c.in_ok-word.ensures c.write_literals_list.ensures
