-- Files have the sum of what each has.
use Rattle.std.proofs.Common.{arith}
use Rattle.std.proofs.lemmas.Grind.{common_steps}
use Rattle.mo_syntax.proofs.ClassCounts.{files}
use Rattle.mo_syntax.proofs.classes.class_count.Goals as goal

pub returns : goal.returns
returns c = rw (files c.args.files.now) (grind (arith, common_steps))
