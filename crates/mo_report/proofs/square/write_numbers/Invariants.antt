use Rattle.std.proofs.Common.{◌≡◌, ◌++◌, string_bytes, take, flat_map, [], ◌∷◌}
use Rattle.mo_report.specs.Lines.{numbered}
use Rattle.mo_report.proofs.square.write_numbers.Given as goal

abbrev pub invariant-loop-number : goal.invariant-loop-number
invariant-loop-number l = string_bytes l.out ≡ string_bytes l.initial.out ++ flat_map (numbered (32 ∷ [])) (take l.number-index l.numbers)
