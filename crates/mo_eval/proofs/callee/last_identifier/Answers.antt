use Rattle.std.proofs.Common.{map}
use Rattle.mo_eval.specs.steps.Parts.{as_identifier}
use Rattle.mo_eval.proofs.Calling.{last_is}
use Rattle.mo_eval.proofs.callee.last_identifier.Goals as goal

pub loop-part-init : goal.loop-part-init
loop-part-init c = λ part. last_is (map (as_identifier part) c.args.parts.now)
