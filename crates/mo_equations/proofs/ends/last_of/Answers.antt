-- The last one.
use Rattle.std.proofs.Common.{ap, sym, arith}
use Rattle.mo_eval.specs.References.{last_of}
use Rattle.mo_equations.proofs.ByName.{last_is}
use Rattle.mo_equations.proofs.Lists.{empty_list}
use Rattle.mo_equations.proofs.ends.last_of.Goals as goal

pub returns-in-empty : goal.returns-in-empty
returns-in-empty c = ap (last_of c.args.first) (sym (empty_list c.args.others.now (omega (arith, c.in-empty.len_below))))

pub returns-in-len1-up : goal.returns-in-len1-up
returns-in-len1-up c = last_is c.args.first c.args.others.now c.in-len1-up.len_at_least
