-- What is written of aliases, by the least offsets.
use Rattle.std.proofs.Common.{refl}
use Rattle.mo_front.specs.Emitted.{without_aliases}
use Rattle.mo_front.proofs.Emitting.{alias_no_flat, by_phases}
use Rattle.mo_front.proofs.Structuring.{least_of_found}
use Rattle.mo_front.proofs.emit.without_aliases.Goals as goal

pub text_of_aliases-requires : goal.text_of_aliases-requires
text_of_aliases-requires c = least_of_found _ _ c.in-Ok.ensures.found

pub returns-in-Ok-text_of_aliases-clause-written : goal.returns-in-Ok-text_of_aliases-clause-written
returns-in-Ok-text_of_aliases-clause-written c =
    without_aliases c.in-Ok.analysis.found.offsets refl c.in-Ok.ensures.accepted (least_of_found _ _ c.in-Ok.ensures.found) c.in-Ok-text_of_aliases.ensures.passed refl c.in-Ok-text_of_aliases.ensures.text

pub returns-in-Ok-clause-refused : goal.returns-in-Ok-clause-refused
returns-in-Ok-clause-refused c =
    by_phases _ _ c.in-Ok.analysis.found.offsets c.text_of_aliases.result _ c.in-Err-text_of_aliases.is alias_no_flat c.in-Ok.ensures.accepted (least_of_found _ _ c.in-Ok.ensures.found) c.text_of_aliases.ensures.refused
