-- The kind of a node by its parts, where the fold passes through tuples and options.
use Rattle.std.proofs.Common.{◌≡◌, ℕ, ℤ, Bool, List, [], ◌∷◌, map, length, Option, Some, None, refl, ap, ◌∙◌}
use Rattle.std.specs.Prelude.{◌||◌}
use Rattle.std.specs.List.{list_any}
use Rattle.std.specs.Option.{option_map}
use Rattle.std.proofs.lemmas.Simd.{map-map}
use Rattle.mo_syntax.specs.Outcome.{Outcome}
use Rattle.mo_syntax.specs.declared.place.Place.{Place}
use Rattle.mo_syntax.specs.declared.meaning.Kind.{Kind}
use Rattle.mo_flat.specs.declared.array.ArrayExpr.{ArrayExpr}
use Rattle.mo_flat.specs.declared.array.ArrayNode.{fold_out-ArrayNode}
use Rattle.mo_flat.specs.declared.array.ArrayNode.TheVariants.{Sum, Product, If, Sized, outs-Sum, outs-Product, outs-If, outs-Sized}
use Rattle.mo_typing.specs.Kinds.{Part, kind_node, kind_part, part_of, kind_of_node, sum_of, product_of, choice, sized, signed_parts, branch_parts}

list_any_map : {A B : Type 0} (f : B → Bool) (h : A → B) (xs : List A) → list_any f (map h xs) ≡ list_any (λ x. f (h x)) xs
list_any_map f h [] = refl
list_any_map f h (x ∷ xs) = ap (λ b. f (h x) || b) (list_any_map f h xs)

-- the kind of a part
abbrev pub kind_in : Part → Outcome Kind
kind_in part = part.kind

pub at_Sum : (ts : List (Bool × Bool × ArrayExpr)) (place : Place) → kind_of_node (Sum ts) place ≡ sum_of (signed_parts ts) place
at_Sum ts place = rw (fold_out-ArrayNode (Place → Outcome Kind) Part kind_node kind_part (Sum ts), outs-Sum ts)
    (ap (λ ps. sum_of ps place) (map-map (λ (t : Bool × Bool × Part). t.2) (λ t. (t.0, t.1, part_of t.2)) ts))

pub at_Product : (ts : List (Bool × Bool × ArrayExpr)) (place : Place) → kind_of_node (Product ts) place ≡ product_of (list_any (λ t. t.0) ts) (signed_parts ts) place
at_Product ts place = rw (fold_out-ArrayNode (Place → Outcome Kind) Part kind_node kind_part (Product ts), outs-Product ts)
    (ap (λ ps. product_of (list_any (λ (t : Bool × Bool × Part). t.0) (map (λ t. (t.0, t.1, part_of t.2)) ts)) ps place) (map-map (λ (t : Bool × Bool × Part). t.2) (λ t. (t.0, t.1, part_of t.2)) ts)
    ∙ ap (λ b. product_of b (signed_parts ts) place) (list_any_map (λ (t : Bool × Bool × Part). t.0) (λ t. (t.0, t.1, part_of t.2)) ts))

pub at_If : (bs : List (ArrayExpr × ArrayExpr)) (other : ArrayExpr) (place : Place) → kind_of_node (If bs other) place ≡ choice (branch_parts bs) (part_of other) place
at_If bs other place = rw (fold_out-ArrayNode (Place → Outcome Kind) Part kind_node kind_part (If bs other), outs-If bs other) refl

pub at_Sized : (function : ℕ) (part : Option ArrayExpr) (sizes : List (Place × ℤ)) (place : Place) → kind_of_node (Sized function part sizes) place ≡ sized function (option_map part_of part) (length sizes) place
at_Sized function None sizes place = rw (fold_out-ArrayNode (Place → Outcome Kind) Part kind_node kind_part (Sized function None sizes), outs-Sized function None sizes) refl
at_Sized function (Some e) sizes place = rw (fold_out-ArrayNode (Place → Outcome Kind) Part kind_node kind_part (Sized function (Some e) sizes), outs-Sized function (Some e) sizes) refl
