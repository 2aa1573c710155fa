use Rattle.mo_gen.proofs.Rows.{then}
use Rattle.mo_gen.proofs.rungs.write_rail_line.Goals as goal

pub returns : goal.returns
returns c = then _ _ _ _ _ (then _ _ _ _ _ c.in_ok-push_numbered.ensures c.in_ok-push_numbered-2.ensures) c.in_ok-push_str.ensures.bytes
