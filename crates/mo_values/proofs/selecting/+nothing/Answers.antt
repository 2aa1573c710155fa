-- One subscript less.
use Rattle.mo_values.proofs.Lists.{nothing_behind}
use Rattle.mo_values.proofs.selecting.+nothing.Goals as goal

pub returns-else-is_without_numbers : goal.returns-else-is_without_numbers
returns-else-is_without_numbers t c = λ yes. nothing_behind _ _ c.in-len1-up.len_at_least c.in-len1-up-subs.len_at_least (c.is_nothing.ensures yes)
