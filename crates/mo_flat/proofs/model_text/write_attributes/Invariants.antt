use Rattle.std.proofs.Common.{◌≡◌, ◌++◌, map, string_bytes, take, eqb}
use Rattle.mo_flat.specs.Text.{attribute_text, in_row}
use Rattle.mo_flat.proofs.model_text.write_attributes.Given as goal

abbrev pub invariant-loop-attribute : goal.invariant-loop-attribute
invariant-loop-attribute l =
    (string_bytes l.out ≡ string_bytes l.initial.out ++ in_row (attribute_text l.vars) (map (λ a. a) (take l.attribute-index l.attributes)))
    × (l.first ≡ eqb l.attribute-index 0)
