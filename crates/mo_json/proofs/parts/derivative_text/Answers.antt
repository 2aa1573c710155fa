use Rattle.std.proofs.Common.{arith}
use Rattle.std.specs.Prelude.{codes}
use Rattle.std.proofs.lemmas.Grind.{common_steps}
use Rattle.mo_flat.proofs.Printing.{repeated_more, derivative_text_repeated}
use Rattle.mo_report.specs.Lines.{unknown_name, derivative}
use Rattle.mo_json.proofs.parts.derivative_text.Goals as goal

pub loop-opened-preserved : goal.loop-opened-preserved
loop-opened-preserved c = let e = repeated_more c.loop-opened._opened (codes "der(") in grind (arith, common_steps)

pub loop-closed-preserved : goal.loop-closed-preserved
loop-closed-preserved c = let e = repeated_more c.loop-closed._closed (codes ")") in grind (arith, common_steps)

pub returns : goal.returns
unfolding derivative
returns c =
    let e = derivative_text_repeated c.args.order (unknown_name c.args.names.now c.args.unknown) in
    grind (arith, common_steps)
