use Rattle.std.proofs.Common.{◌≡◌, ◌++◌, string_bytes, take, flat_map}
use Rattle.mo_select.specs.Text.{choice_line}
use Rattle.mo_select.proofs.text.write_choices.Given as goal

abbrev pub invariant-loop-choice : goal.invariant-loop-choice
invariant-loop-choice l = string_bytes l.out ≡ string_bytes l.initial.out ++ flat_map (choice_line l.names l.d l.stage) (take l.choice-index l.chosen)
