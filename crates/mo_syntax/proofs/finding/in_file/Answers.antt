-- The rows of a file.
use Rattle.std.proofs.Common.{sum_by, ap, arith}
use Rattle.mo_syntax.specs.steps.Parts.{classes_in_class}
use Rattle.mo_syntax.proofs.ClassCounts.{file}
use Rattle.mo_syntax.proofs.Found.{in_file_passed}
use Rattle.mo_syntax.proofs.finding.in_file.Goals as goal

pub in_classes-requires-clause-few : goal.in_classes-requires-clause-few
in_classes-requires-clause-few c = omega (arith, file c.args.file.now, ap (sum_by classes_in_class) c.as_slice.ensures)

pub returns-in-None : goal.returns-in-None
returns-in-None c = in_file_passed c.args.path.now c.args.file.now c.args.first c.within_of.result.now c.within_of.ensures c.in-None.ensures.passed
