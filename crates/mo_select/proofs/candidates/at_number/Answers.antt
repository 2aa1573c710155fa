use Rattle.std.proofs.Common.{◌-◌, sym, arith}
use Rattle.std.proofs.lemmas.List.{get_or_past}
use Rattle.mo_select.proofs.candidates.at_number.Goals as goal

pub returns-else-place-list : goal.returns-else-place-list
returns-else-place-list c = sym (get_or_past c.args.list.now (c.args.unknown - 1) 0 (omega (arith, c.saturating_sub-place.ensures)))
