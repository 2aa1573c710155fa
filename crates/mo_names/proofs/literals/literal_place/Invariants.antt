-- The place among the literals that are left is that among all.
use Rattle.std.proofs.Common.{◌≡◌, drop}
use Rattle.std.specs.List.{position_from}
use Rattle.std.specs.Str.{bytes_eq}
use Rattle.mo_names.proofs.literals.literal_place.Given as goal

abbrev pub invariant-loop-literal : goal.invariant-loop-literal
invariant-loop-literal l = position_from (λ word. bytes_eq word l.name) l.place (drop l.literal-index l.literals) ≡ position_from (λ word. bytes_eq word l.name) 0 l.literals
