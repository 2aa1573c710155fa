use Rattle.std.proofs.Common.{◌≡◌, ◌++◌, map, take}
use Rattle.std.specs.Prelude.{string_bytes}
use Rattle.mo_eval.specs.steps.Spelling.{with_dots}
use Rattle.mo_eval.proofs.literals.put_names.Given as goal

abbrev pub invariant-loop-name : goal.invariant-loop-name
invariant-loop-name l = string_bytes l.text ≡ string_bytes l.initial.text ++ with_dots (map (λ name. name.now) (take l.name-index l.names))
