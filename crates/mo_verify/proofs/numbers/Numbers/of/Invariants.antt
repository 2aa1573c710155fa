use Rattle.std.proofs.Common.{◌≡◌, ℕ, ◌+◌, List, drop}
use Rattle.std.specs.Prelude.{option_map}
use Rattle.std.specs.HashMap.{get_by}
use Rattle.std.specs.Str.{bytes_eq}
use Rattle.mo_verify.specs.Reading.{number_of}
use Rattle.mo_verify.proofs.numbers.Numbers.of.Given as goal

abbrev pub invariant-loop-at : goal.invariant-loop-at
invariant-loop-at l = (name : List ℕ) → get_by (λ k. bytes_eq name k.now) l.numbers ≡ option_map (λ j. j + l.at) (number_of (drop l.at l.names) name)
