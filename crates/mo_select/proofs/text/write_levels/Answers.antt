use Rattle.std.proofs.Common.{◌≡◌, ◌+◌, ◌++◌, suc, List, ℕ, ap, ◌∙◌, append_assoc, arith, string_bytes}
use Rattle.mo_report.specs.Lines.{lines_below}
use Rattle.mo_select.specs.Text.{level_line}
use Rattle.mo_select.proofs.text.write_levels.Goals as goal

pub loop-level-preserved : goal.loop-level-preserved
loop-level-preserved c =
    let next : c.loop-level.level + 1 ≡ suc c.loop-level.level = omega arith in
    rw next (c.in_ok-write_level.ensures ∙ ap (λ (t : List ℕ). t ++ level_line c.args.stage.now c.loop-level.level) c.loop-level.invariant
    ∙ append_assoc (string_bytes c.args.out.now) (lines_below (level_line c.args.stage.now) c.loop-level.level) (level_line c.args.stage.now c.loop-level.level))
