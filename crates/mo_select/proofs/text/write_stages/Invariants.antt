use Rattle.std.proofs.Common.{◌≡◌, ◌<◌, ◌++◌, string_bytes, drop}
use Rattle.mo_select.specs.Text.{stages_from}
use Rattle.mo_select.proofs.text.write_stages.Given as goal

abbrev pub invariant-loop-stage : goal.invariant-loop-stage
invariant-loop-stage l =
    (0 < l.number) × (string_bytes l.out ++ stages_from l.names l.offsets l.number (drop l.stage-index l.stages) ≡ string_bytes l.initial.out ++ stages_from l.names l.offsets 1 l.stages)
