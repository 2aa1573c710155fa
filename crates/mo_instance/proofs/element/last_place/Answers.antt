-- The last of some identifiers.
use Rattle.std.proofs.Common.{◌-◌, length, arith}
use Rattle.mo_names.proofs.Ends.{last_place_is}
use Rattle.mo_instance.proofs.element.last_place.Goals as goal

pub returns-in-len1-up : goal.returns-in-len1-up
returns-in-len1-up c = last_place_is c.args.parts.now (length c.args.parts.now - 1) c.last-item.result (omega (arith, c.in-len1-up.len_at_least)) c.last-item.is
