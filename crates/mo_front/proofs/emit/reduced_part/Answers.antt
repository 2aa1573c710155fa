-- The reduced model by the least offsets, where there are some.
use Rattle.mo_front.specs.Emitted.{no_offsets}
use Rattle.mo_front.proofs.Emitting.{least_is, part_is, part_passed, part_refused}
use Rattle.mo_front.proofs.emit.reduced_part.Goals as goal

pub reduced_by-requires : goal.reduced_by-requires
reduced_by-requires c = least_is _ _ c.in-Some.offsets c.requires c.in-Some.is

pub returns-in-Ok-clause-passed : goal.returns-in-Ok-clause-passed
returns-in-Ok-clause-passed c = part_passed _ _ c.in-Some.offsets c.in-Some.is c.in-Ok.ensures.passed

pub returns-in-Ok-clause-text : goal.returns-in-Ok-clause-text
returns-in-Ok-clause-text c = part_is _ _ c.in-Some.offsets c.in-Some.is _ c.in-Ok.ensures.text

pub returns-in-Err-clause-refused : goal.returns-in-Err-clause-refused
returns-in-Err-clause-refused c = part_refused _ _ c.in-Some.offsets c.in-Some.is c.reduced_by.result _ c.in-Err.is c.reduced_by.ensures.refused

pub returns-in-None-clause-passed : goal.returns-in-None-clause-passed
returns-in-None-clause-passed c = rw c.in-None.is no_offsets
