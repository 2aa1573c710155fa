use Rattle.std.proofs.Common.{◌≡◌, ◌++◌, string_bytes}
use Rattle.mo_report.specs.Lines.{lines_below}
use Rattle.mo_select.specs.Text.{level_line}
use Rattle.mo_select.proofs.text.write_levels.Given as goal

abbrev pub invariant-loop-level : goal.invariant-loop-level
invariant-loop-level l = string_bytes l.out ≡ string_bytes l.initial.out ++ lines_below (level_line l.stage) l.level
