-- A file has the sum of what its classes have.
use Rattle.std.proofs.Common.{rules}
use Rattle.mo_syntax.proofs.ClassCounts.{file}
use Rattle.mo_syntax.proofs.classes.of_file.Goals as goal

pub returns : goal.returns
returns c = rw (file c.args.file.now) (search rules)
