use Rattle.std.proofs.Common.{◌≡◌, ◌++◌, ◌∷◌, take}
use Rattle.std.specs.List.{flat_map}
use Rattle.std.specs.String.{string_bytes}
use Rattle.mo_front.proofs.words.push_more.Given as goal

abbrev pub invariant-loop-name : goal.invariant-loop-name
invariant-loop-name l = string_bytes l.word ≡ string_bytes l.initial.word ++ flat_map (λ more. 46 ∷ more) (take l.name-index l.names)
