-- Reports that say the same have the same data.
use Rattle.std.proofs.Common.{◌≡◌, ℕ, zero, suc, List, [], ◌∷◌, ◌++◌, Bool, true, false, if◌then◌else◌, nat_lt, Option, Some, None, length, map, refl, sym, ap, ◌∙◌}
use Rattle.std.specs.Prelude.{Vec, codes}
use Rattle.std.specs.Global.{Global}
use Rattle.serde_json.specs.Data.{Data}
use Rattle.serde_json.specs.Written.{compact_text}
use Rattle.mo_incidence.specs.declared.findings.Offsets.{Offsets}
use Rattle.mo_incidence.specs.declared.findings.Deficit.{Deficit}
use Rattle.mo_incidence.specs.Blocks.{numbers_in}
use Rattle.mo_report.specs.declared.report.Report.{Report}
use Rattle.mo_report.specs.Same.{SaySame, deficit_lists, offset_lists}
use Rattle.mo_report.proofs.SameLines.{deficit_is, offsets_are, both_none, none_both, offsets_none, none_offsets}
use Rattle.mo_json.specs.Values.{listed, numbers_data, data_below, equation_data, unknown_data, equations_data, unknowns_data, singular_data, undetermined_data, square_data, found_data, part_data, report_data, json_line}

blocks_data : (blocks : List (Vec ℕ Global)) → map (λ block. numbers_data block.items) blocks ≡ map numbers_data (numbers_in blocks)
blocks_data [] = refl
blocks_data (block ∷ blocks) = ap (λ (more : List Data). numbers_data block.items ∷ more) (blocks_data blocks)

last_as : (xs ys : List Data) (x y : Data) → xs ≡ ys → x ≡ y → xs ++ x ∷ [] ≡ ys ++ y ∷ []
last_as xs ys x y e f = rw (e, f) refl

below_as : (f f' : ℕ → Data) → ((i : ℕ) → f i ≡ f' i) → (n : ℕ) → data_below f n ≡ data_below f' n
below_as f f' each zero = refl
below_as f f' each (suc n) = last_as (data_below f n) (data_below f' n) (f n) (f' n) (below_as f f' each n) (each n)

either : (b : Bool) (x x' y y' : Data) → x ≡ x' → y ≡ y' → (if b then x else y) ≡ (if b then x' else y')
either true x x' y y' e f = e
either false x x' y y' e f = f

module _ (r s : Report) (say : SaySame r s) where
  same_singular : (x y : Deficit) → deficit_lists (Some x) ≡ deficit_lists (Some y) → singular_data r x ≡ singular_data s y
  same_singular x y e = let are = deficit_is x y e in rw (say.unknowns, say.equations, say.name, are.0, are.1) refl

  module _ (x y : Offsets) (e : offset_lists (Some x) ≡ offset_lists (Some y)) where
    equation_as : (i : ℕ) → equation_data r.unknowns r.orders.items x i ≡ equation_data s.unknowns s.orders.items y i
    equation_as i = let are = offsets_are x y e in rw (say.unknowns, say.orders, are.0, are.2) refl

    unknown_as : (j : ℕ) → unknown_data r.unknowns x j ≡ unknown_data s.unknowns y j
    unknown_as j = let are = offsets_are x y e in rw (say.unknowns, are.1) refl

    same_equations : equations_data r x ≡ equations_data s y
    same_equations = ap listed
        (below_as (equation_data r.unknowns r.orders.items x) (equation_data s.unknowns s.orders.items y) equation_as r.equations
        ∙ ap (data_below (equation_data s.unknowns s.orders.items y)) say.equations)

    same_unknowns : unknowns_data r x ≡ unknowns_data s y
    same_unknowns = ap listed
        (below_as (unknown_data r.unknowns x) (unknown_data s.unknowns y) unknown_as (length r.unknowns)
        ∙ ap (λ (names : List (List ℕ)). data_below (unknown_data s.unknowns y) (length names)) say.unknowns)

    same_undetermined : undetermined_data r x ≡ undetermined_data s y
    same_undetermined = rw (same_equations, same_unknowns, say.equations, say.name, say.unknowns, say.loose) refl

    same_blocks : listed (map (λ block. numbers_data block.items) r.blocks.0.items) ≡ listed (map (λ block. numbers_data block.items) s.blocks.0.items)
    same_blocks = ap listed (blocks_data r.blocks.0.items ∙ (ap (map numbers_data) say.blocks ∙ sym (blocks_data s.blocks.0.items)))

    same_square : square_data r x ≡ square_data s y
    same_square = rw (same_blocks, same_equations, same_unknowns, say.equations, say.name, say.unknowns, say.dummies, say.states, say.reasons, say.index, say.freedom) refl

    same_some : found_data r (Some x) ≡ found_data s (Some y)
    same_some =
        either (nat_lt r.equations (length r.unknowns)) (undetermined_data r x) (undetermined_data s y) (square_data r x) (square_data s y) same_undetermined same_square
        ∙ ap (λ (b : Bool). if b then undetermined_data s y else square_data s y) same_test
      where
        same_test : nat_lt r.equations (length r.unknowns) ≡ nat_lt s.equations (length s.unknowns)
        same_test = rw (say.equations, say.unknowns) refl

  same_found : (x y : Option Offsets) → offset_lists x ≡ offset_lists y → found_data r x ≡ found_data s y
  same_found None None e = refl
  same_found None (Some y) e = absurd (none_offsets y e)
  same_found (Some x) None e = absurd (offsets_none x e)
  same_found (Some x) (Some y) e = same_some x y e

  same_parts : (x y : Option Deficit) → deficit_lists x ≡ deficit_lists y → part_data r x ≡ part_data s y
  same_parts None None e = same_found r.offsets s.offsets say.offsets
  same_parts None (Some y) e = absurd (none_both y e)
  same_parts (Some x) None e = absurd (both_none x e)
  same_parts (Some x) (Some y) e = same_singular x y e

  pub same_data : report_data r ≡ report_data s
  same_data = same_parts r.deficit s.deficit say.deficit

  pub same_line : json_line r ≡ json_line s
  same_line = ap (λ (d : Data). compact_text d ++ codes "\n") same_data
