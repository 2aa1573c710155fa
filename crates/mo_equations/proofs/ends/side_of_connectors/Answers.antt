-- The first one and those behind it.
use Rattle.std.proofs.Common.{false, ap, sym, ◌∙◌, arith}
use Rattle.mo_equations.specs.Ends.{side_by}
use Rattle.mo_equations.proofs.Lists.{empty_list, opened_or}
use Rattle.mo_equations.proofs.ends.side_of_connectors.Goals as goal

pub returns-in-empty : goal.returns-in-empty
returns-in-empty c = ap side_by (sym (empty_list c.args.connectors.now (omega (arith, c.in-empty.len_below))))

pub returns-in-len1-up : goal.returns-in-len1-up
returns-in-len1-up c = c.side_from.ensures ∙ ap side_by (sym (opened_or c.args.connectors.now false c.in-len1-up.len_at_least))
