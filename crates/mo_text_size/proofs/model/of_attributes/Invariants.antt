-- The attributes before.
use Rattle.std.proofs.Common.{◌≡◌, eqb, map, take}
use Rattle.mo_flat.specs.Text.{attribute_text, in_row}
use Rattle.mo_text_size.specs.Bytes.{bytes}
use Rattle.mo_text_size.proofs.model.of_attributes.Given as goal

abbrev pub invariant-loop-attribute : goal.invariant-loop-attribute
invariant-loop-attribute l =
    (l.all ≡ bytes (in_row (attribute_text l.vars) (map (λ a. a) (take l.attribute-index l.attributes)))) × (l.first ≡ eqb l.attribute-index 0)
