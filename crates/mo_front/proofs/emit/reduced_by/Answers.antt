-- The reduced model by the least offsets.
use Rattle.mo_front.proofs.Emitting.{counts, reduced_is, reduced_passed, reduced_refused}
use Rattle.mo_front.proofs.emit.reduced_by.Goals as goal

pub reduced-requires : goal.reduced-requires
reduced-requires c = counts _ c.args.offsets.now _ c.requires c.deref.ensures.value

pub returns-in_ok-reduced_text-in-Ok-clause-passed : goal.returns-in_ok-reduced_text-in-Ok-clause-passed
returns-in_ok-reduced_text-in-Ok-clause-passed c =
    reduced_passed _ c.args.offsets.now _ _ c.deref.ensures.value c.in-Ok.ensures.differentiates c.in-Ok.ensures.lines c.in-Ok.ensures.within

pub returns-in_ok-reduced_text-in-Ok-clause-text : goal.returns-in_ok-reduced_text-in-Ok-clause-text
returns-in_ok-reduced_text-in-Ok-clause-text c = reduced_is _ c.args.offsets.now _ _ _ c.deref.ensures.value c.in-Ok.ensures.lines c.in_ok-reduced_text-in-Ok.ensures

pub returns-in-Err-clause-refused : goal.returns-in-Err-clause-refused
returns-in-Err-clause-refused c = reduced_refused _ c.args.offsets.now _ c.reduced.result _ c.deref.ensures.value c.in-Err.is c.reduced.ensures.refused
