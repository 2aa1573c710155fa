-- By the offsets alone, or by the report where there are none.
use Rattle.std.proofs.Common.{refl, subst}
use Rattle.mo_front.specs.Emitted.{no_offsets, reduced_model}
use Rattle.mo_front.specs.Least.{IsLeastOf}
use Rattle.mo_front.proofs.Emitting.{least_is, reduced_no_alias, reduced_no_flat, reduction_passed, reduction_refused, written_by}
use Rattle.mo_front.proofs.Structuring.{least_of_found}
use Rattle.mo_front.proofs.emit.reduced_or_report.Goals as goal

pub reduced_by-requires : goal.reduced_by-requires
reduced_by-requires c = least_is _ _ c.in-Some.offsets (least_of_found _ _ c.requires.found) c.in-Some.is

pub returns-in-Ok-clause-written : goal.returns-in-Ok-clause-written
returns-in-Ok-clause-written c =
    reduced_model c.in-Some.offsets refl c.requires.accepted (subst (IsLeastOf c.args.m.now) c.in-Some.is (least_of_found _ _ c.requires.found)) (reduction_passed _ _ c.in-Ok.ensures.passed) c.reduced_status.ensures c.in-Ok.ensures.text

pub returns-in-Some-clause-refused : goal.returns-in-Some-clause-refused
returns-in-Some-clause-refused c =
    reduction_refused _ c.in-Some.offsets _ c.reduced_by.result _ c.in-Err.is c.in-Some.is c.requires.accepted (least_of_found _ _ c.requires.found) c.reduced_by.ensures.refused

pub returns-clause-written : goal.returns-clause-written
returns-clause-written c =
    written_by _ _ c.args.a.found.offsets _ _ reduced_no_flat reduced_no_alias (λ e. c.in-None.is) c.requires.accepted (reduction_passed _ _ (rw c.in-None.is no_offsets)) c.in_ok-reported-in-None.ensures
