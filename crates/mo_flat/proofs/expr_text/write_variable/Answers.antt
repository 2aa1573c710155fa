use Rattle.std.proofs.Common.{arith}
use Rattle.std.specs.Prelude.{codes}
use Rattle.std.proofs.lemmas.Grind.{common_steps}
use Rattle.mo_flat.specs.Text.{variable_name}
use Rattle.mo_flat.proofs.Printing.{repeated_more, derivative_text_repeated}
use Rattle.mo_flat.proofs.expr_text.write_variable.Goals as goal

pub loop-opened-preserved : goal.loop-opened-preserved
loop-opened-preserved c = let e = repeated_more c.loop-opened._opened (codes "der(") in grind (arith, common_steps)

pub loop-closed-preserved : goal.loop-closed-preserved
loop-closed-preserved c = let e = repeated_more c.loop-closed._closed (codes ")") in grind (arith, common_steps)

pub returns : goal.returns
returns c =
    let e = derivative_text_repeated c.args.order (variable_name c.args.vars.now c.args.variable) in
    grind (arith, common_steps)
