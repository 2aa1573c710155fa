-- That of the first one.
use Rattle.std.proofs.Common.{ap, sym, arith}
use Rattle.mo_eval.specs.Ends.{first_identifier}
use Rattle.mo_equations.proofs.Lists.{empty_list, opened}
use Rattle.mo_equations.proofs.ends.place_of.Goals as goal

pub returns-in-empty : goal.returns-in-empty
returns-in-empty c = ap first_identifier (sym (empty_list c.args.parts.now (omega (arith, c.in-empty.len_below))))

pub returns-in-len1-up : goal.returns-in-len1-up
returns-in-len1-up c = ap first_identifier (sym (opened c.args.parts.now c.part-item.result c.in-len1-up.len_at_least c.part-item.is))
