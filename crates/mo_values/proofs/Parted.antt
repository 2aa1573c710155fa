-- An element of an array literal whose kind has values is an element of one of its parts.
use Rattle.std.proofs.Common.{◌≡◌, ℕ, ◌-◌, IsTrue, List, ◌∷◌, map, Some, None, Ok, Err, refl, ap, sym, ◌∙◌}
use Rattle.std.specs.Prelude.{slice_get}
use Rattle.std.proofs.lemmas.Option.{slice_get-map}
use Rattle.mo_syntax.specs.Outcome.{Outcome, and_then}
use Rattle.mo_syntax.specs.declared.place.Place.{Place}
use Rattle.mo_syntax.specs.declared.meaning.Kind.{Kind}
use Rattle.mo_syntax.specs.declared.meaning.Kind.TheVariants.{Real, Str, Whole as whole_kind, Truth as truth_kind, Enumeration}
use Rattle.mo_flat.specs.declared.array.ArrayExpr.{ArrayExpr, out-ArrayExpr}
use Rattle.mo_flat.specs.declared.array.ArrayNode.TheVariants.{Array}
use Rattle.mo_typing.specs.Indices.{Index}
use Rattle.mo_typing.specs.Kinds.{kind_of}
use Rattle.mo_values.specs.Scalars.{Known, has_values, of_known, settled}
use Rattle.mo_values.specs.Walk.{element_among, kind_or_real, known_by, part_of, read_as, result_of_node}
use Rattle.mo_values.proofs.Nodes.{at_Array, known_expression}

-- what is known of a part is settled once more
settled_again : (place : Place) (kind : Kind) (told : Outcome Known) → IsTrue (has_values kind) → and_then (read_as of_known told) (settled place kind) ≡ told
settled_again place kind (Err broken) has = refl
settled_again place whole_kind (Ok None) has = refl
settled_again place whole_kind (Ok (Some scalar)) has = refl
settled_again place truth_kind (Ok None) has = refl
settled_again place truth_kind (Ok (Some scalar)) has = refl
settled_again place (Enumeration class) (Ok None) has = refl
settled_again place (Enumeration class) (Ok (Some scalar)) has = refl
settled_again place Real (Ok known) has = absurd (let clash = has in cc)
settled_again place Str (Ok known) has = absurd (let clash = has in cc)

pub among : (variable : ℕ → Outcome Known) (parts : List ArrayExpr) (k : ℕ) (rest : Index) (part : ArrayExpr) → slice_get parts (k - 1) ≡ Some part →
    element_among (map (part_of variable) parts) (k ∷ rest) ≡ read_as of_known (known_by variable part rest)
among variable parts k rest part at = rw (slice_get-map (part_of variable) parts (k - 1), at) refl

pub of_literal : (variable : ℕ → Outcome Known) (e : ArrayExpr) (kind : Kind) (parts : List ArrayExpr) (index : Index) (part : ArrayExpr) (rest : Index) →
    kind_of e ≡ Ok kind → IsTrue (has_values kind) → (out-ArrayExpr e).node ≡ Array parts →
    element_among (map (part_of variable) parts) index ≡ read_as of_known (known_by variable part rest) → known_by variable part rest ≡ known_by variable e index
of_literal variable e kind parts index part rest is has node among =
    let place = (out-ArrayExpr e).place in
    sym (known_expression variable e index
    ∙ (ap (λ (o : Outcome Kind). and_then (result_of_node variable (out-ArrayExpr e).node index) (settled place (kind_or_real o))) is
    ∙ (ap (λ n. and_then (result_of_node variable n index) (settled place kind)) node
    ∙ (ap (λ r. and_then r (settled place kind)) (at_Array variable parts index ∙ among)
    ∙ settled_again place kind (known_by variable part rest) has))))
