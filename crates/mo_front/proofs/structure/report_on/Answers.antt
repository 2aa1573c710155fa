-- What is found has what each report asks for.
use Rattle.std.proofs.Common.{arith}
use Rattle.mo_front.proofs.Structuring.{equal_of, fewer_of, left_out_of}
use Rattle.mo_front.proofs.structure.report_on.Goals as goal

pub singular_report-requires : goal.singular_report-requires
singular_report-requires c = left_out_of _ c.args.found c.requires c.in-None.is

pub underdetermined_report-requires-clause-least : goal.underdetermined_report-requires-clause-least
underdetermined_report-requires-clause-least c = (fewer_of _ c.args.found c.in-Some.offsets c.requires c.in-Some.is (omega arith)).0

pub underdetermined_report-requires-clause-loose : goal.underdetermined_report-requires-clause-loose
underdetermined_report-requires-clause-loose c = (fewer_of _ c.args.found c.in-Some.offsets c.requires c.in-Some.is (omega arith)).1

pub square_report-requires-clause-square : goal.square_report-requires-clause-square
square_report-requires-clause-square c = (equal_of _ c.args.found c.in-Some.offsets c.requires c.in-Some.is (omega arith)).0

pub square_report-requires-clause-least : goal.square_report-requires-clause-least
square_report-requires-clause-least c = (equal_of _ c.args.found c.in-Some.offsets c.requires c.in-Some.is (omega arith)).1

pub square_report-requires-clause-reasons : goal.square_report-requires-clause-reasons
square_report-requires-clause-reasons c = (equal_of _ c.args.found c.in-Some.offsets c.requires c.in-Some.is (omega arith)).2
