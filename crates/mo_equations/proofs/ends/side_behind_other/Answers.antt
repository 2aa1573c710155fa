-- The second one and those behind it.
use Rattle.std.proofs.Common.{Bool, false, List, ◌∷◌, ap, sym, ◌∙◌, arith}
use Rattle.mo_equations.specs.Ends.{side_by}
use Rattle.mo_equations.proofs.Lists.{empty_list, opened_or}
use Rattle.mo_equations.proofs.ends.side_behind_other.Goals as goal

pub returns-in-empty : goal.returns-in-empty
returns-in-empty c = ap (λ (bs : List Bool). side_by (false ∷ bs)) (sym (empty_list c.args.others.now (omega (arith, c.in-empty.len_below))))

pub returns-in-len1-up : goal.returns-in-len1-up
returns-in-len1-up c = c.side_from_other.ensures ∙ ap (λ (bs : List Bool). side_by (false ∷ bs)) (sym (opened_or c.args.others.now false c.in-len1-up.len_at_least))
