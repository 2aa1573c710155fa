-- A rule that the value of a resolved expression breaks is broken at a place in it, or where one of its variables breaks it.
use Rattle.std.proofs.Common.{ℕ, Bool, true, false, List, [], ◌∷◌, ◌++◌, map, take, drop, length, Some, None, Ok}
use Rattle.std.specs.Prelude.{◌-◌, fold, nat_eq}
use Rattle.mo_syntax.specs.Outcome.{Outcome, and_then}
use Rattle.mo_syntax.specs.declared.meaning.Kind.{Kind}
use Rattle.mo_syntax.specs.declared.place.Place.{Place}
use Rattle.mo_tables.specs.declared.functions.TheConstants.{ABS, CROSS, MAX, MIN, NDIMS, NO_EVENT, PRODUCT, SUM, TRANSPOSE}
use Rattle.mo_typing.specs.Indices.{Index, first_number, indices, numbers_to, own}
use Rattle.mo_typing.specs.Shape.{is_matrix_factor, multiplied, or_scalar, shape_of}
use Rattle.mo_values.specs.Scalars.{Known, chained, division, divided_by, has_values, known_from, of_known, of_number, product_with, read_all, settled, sum_with, truth_eq}
use Rattle.mo_values.specs.Walk.{Chain, Factor, Part, all_results, at, both, branch_reads, call, crossed_at, extended, inner_product, number, on_both, operand_of, read_as, result_at, sum_at, undecided_behind}
use Rattle.mo_values.specs.declared.value.Reckoned.{Reckoned}
use Rattle.mo_values.specs.declared.value.Reckoned.TheVariants.{Unknown, Outside, Is}
use Rattle.mo_values.specs.declared.value.Scalar.TheVariants.{Whole, Truth, Literal}
use Rattle.mo_places.specs.Stands.{Answers, Anything, Every}
use Rattle.mo_places.specs.Written.{Written, At}
use Rattle.mo_places.proofs.laws.Standing.{if_answers, then_answers}

-- ---- results

known_from_answers : (P : Written → Type 0) (place : Place) → P (At place) → (result : Reckoned) → Answers P Anything (known_from place result)
known_from_answers P place hp Unknown = record { holds = tt }
known_from_answers P place hp Outside = record { holds = hp }
known_from_answers P place hp (Is scalar) = record { holds = tt }

pub settled_answers : (P : Written → Type 0) (place : Place) → P (At place) → (kind : Kind) (result : Reckoned) → Answers P Anything (settled place kind result)
settled_answers P place hp kind result = if_answers P Anything (has_values kind) _ _ (known_from_answers P place hp result) (record { holds = tt })

pub division_answers : (P : Written → Type 0) (place : Place) → P (At place) → (function : ℕ) (a b : Known) → Answers P Anything (division place function a b)
division_answers P place hp function (Some (Whole a)) (Some (Whole b)) = known_from_answers P place hp (of_number (divided_by function a b))
division_answers P place hp function (Some (Whole a)) (Some (Truth b)) = record { holds = tt }
division_answers P place hp function (Some (Whole a)) (Some (Literal class n)) = record { holds = tt }
division_answers P place hp function (Some (Whole a)) None = record { holds = tt }
division_answers P place hp function (Some (Truth a)) b = record { holds = tt }
division_answers P place hp function (Some (Literal class n)) b = record { holds = tt }
division_answers P place hp function None b = record { holds = tt }

module _ (P : Written → Type 0) where
  abbrev Fine : {A : Type 0} → Outcome A → Type 0
  Fine outcome = Answers P Anything outcome

  both_answers : (operation : Reckoned → Reckoned → Reckoned) (a b : Outcome Reckoned) → Fine a → Fine b → Fine (both operation a b)
  both_answers operation a b ha hb = then_answers P Anything Anything a _ ha (λ x _. then_answers P Anything Anything b _ hb (λ y _. record { holds = tt }))

  pub read_as_answers : (f : Known → Reckoned) (o : Outcome Known) → Fine o → Fine (read_as f o)
  read_as_answers f o h = then_answers P Anything Anything o _ h (λ known _. record { holds = tt })

  sums_answer : (results : List (Outcome Reckoned)) (so_far : Outcome Reckoned) → Fine so_far → Every Fine results → Fine (fold (both (sum_with false)) so_far results)
  sums_answer [] so_far h hs = h
  sums_answer (x ∷ xs) so_far h hs = sums_answer xs (both (sum_with false) so_far x) (both_answers (sum_with false) so_far x h hs.0) hs.1

  products_answer : (results : List (Outcome Reckoned)) (so_far : Outcome Reckoned) → Fine so_far → Every Fine results → Fine (fold (both (product_with false)) so_far results)
  products_answer [] so_far h hs = h
  products_answer (x ∷ xs) so_far h hs = products_answer xs (both (product_with false) so_far x) (both_answers (product_with false) so_far x h hs.0) hs.1

  read_all_answers : (operands : List (Outcome Known)) → Every Fine operands → Fine (read_all operands)
  read_all_answers [] h = record { holds = tt }
  read_all_answers (operand ∷ operands) h = then_answers P Anything Anything operand _ h.0 (λ _ _. read_all_answers operands h.1)

  pub undecided_answers : (operands : List (Outcome Known)) → Every Fine operands → Fine (undecided_behind operands)
  undecided_answers operands h = then_answers P Anything Anything (read_all operands) _ (read_all_answers operands h) (λ known _. record { holds = tt })

  pub chained_answers : (deciding : Bool) (operands : List (Outcome Known)) → Every Fine operands → Fine (chained deciding operands)
  chained_answers deciding [] h = record { holds = tt }
  chained_answers deciding (operand ∷ operands) h =
      then_answers P Anything Anything operand _ h.0
      (elim [
        | None ↦ λ _. read_all_answers operands h.1
        | Some (Truth b) ↦ λ _. if_answers P Anything (truth_eq b deciding) _ _ (record { holds = tt }) (chained_answers deciding operands h.1)
        | Some (Whole n) ↦ λ _. read_all_answers operands h.1
        | Some (Literal class n) ↦ λ _. read_all_answers operands h.1
      ])

  -- ---- parts with what is known of their elements

  abbrev pub PartFine : Part → Type 0
  PartFine part = (index : Index) → Fine (part.1 index)

  pub result_answers : (part : Part) (index : Index) → PartFine part → Fine (result_at part index)
  result_answers part index h = read_as_answers of_known (at part index) (h _)

  pub terms_answer : (index : Index) (terms : List (Bool × Bool × Part)) (so_far : Outcome Reckoned) → Fine so_far → Every (λ (term : Bool × Bool × Part). PartFine term.2) terms → Fine (fold (sum_at index) so_far terms)
  terms_answer index [] so_far h hs = h
  terms_answer index (term ∷ terms) so_far h hs = terms_answer index terms (sum_at index so_far term) (both_answers (sum_with term.0) so_far (result_at term.2 index) h (result_answers term.2 index hs.0)) hs.1

  abbrev pub ChainFine : Chain → Type 0
  ChainFine chain = (index : Index) → Fine (chain.product index)

  -- row of the left times column of the right, at one place
  abbrev one_product : Chain → Part → Index → ℕ → ℕ → Outcome Reckoned
  one_product chain part index rows k = both (product_with false) (chain.product (take rows index ++ k ∷ [])) (result_at part (k ∷ drop rows index))

  products_fine : (chain : Chain) (part : Part) (index : Index) (rows : ℕ) (ks : List ℕ) → ChainFine chain → PartFine part → Every Fine (map (one_product chain part index rows) ks)
  products_fine chain part index rows [] hc hp = tt
  products_fine chain part index rows (k ∷ ks) hc hp = (
    both_answers (product_with false) (chain.product (take rows index ++ k ∷ [])) (result_at part (k ∷ drop rows index)) (hc (take rows index ++ k ∷ [])) (result_answers part (k ∷ drop rows index) hp),
    products_fine chain part index rows ks hc hp,
  )

  inner_fine : (chain : Chain) (part : Part) (index : Index) → ChainFine chain → PartFine part → Fine (inner_product chain part index)
  inner_fine chain part index hc hp =
      let rows = length (or_scalar chain.dims) - 1 in
      let ks = numbers_to (first_number (shape_of part.0)) in
      sums_answer (map (one_product chain part index rows) ks) (Ok (number 0)) (record { holds = tt }) (products_fine chain part index rows ks hc hp)

  extended_fine : (chain : Chain) (factor : Factor) → ChainFine chain → PartFine factor.2 → ChainFine (extended chain factor)
  extended_fine chain factor hc hp = λ index.
      if_answers P Anything (is_matrix_factor chain.dims (operand_of factor)) _ _
      (inner_fine chain factor.2 (own (or_scalar (multiplied chain.dims (operand_of factor))) index) hc hp)
      (both_answers (product_with factor.0) (chain.product index) (result_at factor.2 index) (hc index) (result_answers factor.2 index hp))

  pub chain_fine : (factors : List Factor) (chain : Chain) → ChainFine chain → Every (λ (factor : Factor). PartFine factor.2) factors → ChainFine (fold extended chain factors)
  chain_fine [] chain hc h = hc
  chain_fine (factor ∷ factors) chain hc h = chain_fine factors (extended chain factor) (extended_fine chain factor hc h.0) h.1

  -- ---- functions

  crossed_fine : (a b : Part) (j k : ℕ) → PartFine a → PartFine b → Fine (crossed_at a b j k)
  crossed_fine a b j k ha hb =
      both_answers (sum_with true) _ _ (both_answers (product_with false) _ _ (result_answers a (j ∷ []) ha) (result_answers b (k ∷ []) hb))
      (both_answers (product_with false) _ _ (result_answers a (k ∷ []) ha) (result_answers b (j ∷ []) hb))

  results_fine : (part : Part) → PartFine part → (all : List Index) → Every Fine (map (λ index. and_then (part.1 index) (λ known. Ok (of_known known))) all)
  results_fine part h [] = tt
  results_fine part h (index ∷ all) = (then_answers P Anything Anything (part.1 index) _ (h index) (λ known _. record { holds = tt }), results_fine part h all)

  pub on_both_answers : (operation : Known → Known → Known) (a b : Outcome Known) → Fine a → Fine b → Fine (on_both operation a b)
  on_both_answers operation a b ha hb = then_answers P Anything Anything a _ ha (λ x _. then_answers P Anything Anything b _ hb (λ y _. record { holds = tt }))

  pub call_fine : (function : ℕ) (args : List Part) (index : Index) → Every PartFine args → Fine (call function args index)
  call_fine function [] index h = undecided_answers [] tt
  call_fine function (a ∷ []) index h =
      if_answers P Anything (nat_eq function NDIMS) _ _ (record { holds = tt })
      (if_answers P Anything (nat_eq function SUM) _ _ (sums_answer (all_results a) (Ok (number 0)) (record { holds = tt }) (results_fine a h.0 (indices (shape_of a.0))))
      (if_answers P Anything (nat_eq function PRODUCT) _ _ (products_answer (all_results a) (Ok (number 1)) (record { holds = tt }) (results_fine a h.0 (indices (shape_of a.0))))
      (if_answers P Anything (nat_eq function TRANSPOSE) _ _ (read_as_answers of_known _ (h.0 _))
      (if_answers P Anything (nat_eq function ABS) _ _ (read_as_answers _ _ (h.0 _))
      (if_answers P Anything (nat_eq function NO_EVENT) _ _ (result_answers a index h.0) (undecided_answers (at a index ∷ []) (h.0 _, tt)))))))
  call_fine function (a ∷ b ∷ []) index h =
      if_answers P Anything (nat_eq function CROSS) _ _
      (if_answers P Anything _ _ _ (crossed_fine a b 2 3 h.0 h.1.0) (if_answers P Anything _ _ _ (crossed_fine a b 3 1 h.0 h.1.0) (crossed_fine a b 1 2 h.0 h.1.0)))
      (if_answers P Anything (nat_eq function MIN) _ _ (on_both_answers _ _ _ (h.0 _) (h.1.0 _))
      (if_answers P Anything (nat_eq function MAX) _ _ (on_both_answers _ _ _ (h.0 _) (h.1.0 _)) (undecided_answers (at a index ∷ at b index ∷ []) (h.0 _, (h.1.0 _, tt)))))
  call_fine function (a ∷ b ∷ c ∷ more) index h = undecided_answers (map (λ arg. at arg index) (a ∷ b ∷ c ∷ more)) (each_at (a ∷ b ∷ c ∷ more) h)
    where
      each_at : (args : List Part) → Every PartFine args → Every Fine (map (λ arg. at arg index) args)
      each_at [] h = tt
      each_at (arg ∷ args) h = (h.0 _, each_at args h.1)

  pub reads_fine : (index : Index) (branches : List (Part × Part)) → Every (λ branch. PartFine branch.0 × PartFine branch.1) branches → Every Fine (branch_reads index branches)
  reads_fine index [] h = tt
  reads_fine index (branch ∷ branches) h = (h.0.0 _, (h.0.1 _, reads_fine index branches h.1))
